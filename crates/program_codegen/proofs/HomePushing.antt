-- The loops that push the lines of a program whose operands are used where they stand.
use Rattle.std.proofs.Common.{◌≡◌, ℕ, ◌+◌, ◌-◌, ◌<◌, refl, sym, ap, ◌∙◌, subst, List, [], ◌∷◌, ◌++◌, length, map, get_or, take, drop, Option, Some, None, Bool, true, false, append_assoc, Result, Ok, Err}
use Rattle.std.specs.Prelude.{option_map, option_and_then, IfOk, IfSome, MatchOption, if◌then◌else◌}
use Rattle.std.proofs.lemmas.List.{drop_more, take_rest}
use Rattle.std.proofs.lemmas.Option.{same_Some}
use Rattle.alpha_encode.specs.declared.instr.AlphaInstr.{AlphaInstr}
use Rattle.micro_ops.specs.LeftOut.{is_left_out}
use Rattle.micro_ops.specs.declared.codes.CodeSources.{CodeSources}
use Rattle.micro_ops.specs.declared.program.Exit.{Exit}
use Rattle.micro_ops.specs.declared.program.Micro.{Micro}
use Rattle.micro_ops.specs.declared.program.Micro.TheVariants.{Compute, Probe, Refuse, Read, Write, Locked, Commit, Codes, SetPsw, Leave}
use Rattle.program_codegen.specs.declared.homes.Homes.{Homes}
use Rattle.program_codegen.specs.declared.lines.Line.{Line}
use Rattle.program_codegen.specs.declared.points.Site.{Site}
use Rattle.program_codegen.specs.Homes.{AreHomes}
use Rattle.program_codegen.specs.Ends.{end_at, exit_behind}
use Rattle.program_codegen.specs.Direct.{direct_lines, direct_step, either_of, goes_on, homes_at, in_lines, lines_at, step_at, tested_at}
use Rattle.program_codegen.specs.Programs.{AllFitWords, AllRanged, IsExit, IsRanged, IsRangedExit, RangedToLeave}
use Rattle.program_codegen.specs.Words.{plain}

-- ---- the exit
exit_fits : (sources : CodeSources) (program : List Micro) (exit : Exit) → AllFitWords sources program → exit_behind sources program ≡ Some exit → IsRangedExit exit → IsExit exit
exit_fits sources [] exit fits e ranged = absurd (cc e)
exit_fits sources (Compute to op size a b ∷ program) exit fits e ranged = exit_fits sources program exit fits.1 (out_of (is_left_out sources (Compute to op size a b) program) (exit_behind sources program) e) ranged
  where
    out_of : (out : Bool) (o : Option Exit) → (if out then o else None) ≡ Some exit → o ≡ Some exit
    out_of true o e = e
    out_of false o e = absurd (cc e)
exit_fits sources (Codes n z v c ∷ program) exit fits e ranged = exit_fits sources program exit fits.1 e ranged
exit_fits sources (Leave leave ∷ program) exit fits e ranged =
    let same = same_Some leave exit e in
    subst IsExit same (fits.0 (subst IsRangedExit (sym same) ranged))
exit_fits sources (Probe place count write ∷ program) exit fits e ranged = absurd (cc e)
exit_fits sources (Refuse when ∷ program) exit fits e ranged = absurd (cc e)
exit_fits sources (Read to place count ∷ program) exit fits e ranged = absurd (cc e)
exit_fits sources (Write place count source ∷ program) exit fits e ranged = absurd (cc e)
exit_fits sources (Locked to place kind source ∷ program) exit fits e ranged = absurd (cc e)
exit_fits sources (Commit number source ∷ program) exit fits e ranged = absurd (cc e)
exit_fits sources (SetPsw source ∷ program) exit fits e ranged = absurd (cc e)

paired : (commit found : Option (ℕ × ℕ)) (exit : Exit) (o : Option Exit) → option_map {U = Option (ℕ × ℕ) × Exit} (λ (exit : Exit). (found, exit)) o ≡ Some (commit, exit) → o ≡ Some exit
paired commit found exit None e = absurd (cc e)
paired commit found exit (Some x) e = ap (λ (end : Option (ℕ × ℕ) × Exit). Some end.1) (same_Some (found, x) (commit, exit) e)

pub end_fits : (sources : CodeSources) (operation : Micro) (behind : List Micro) (commit : Option (ℕ × ℕ)) (exit : Exit) → AllFitWords sources (operation ∷ behind) → end_at sources operation behind ≡ Some (commit, exit)
    → IsRangedExit exit → IsExit exit
end_fits sources (Commit number source) behind commit exit fits e ranged = exit_fits sources behind exit fits.1 (paired commit (Some (number, source)) exit (exit_behind sources behind) e) ranged
end_fits sources (Codes n z v c) behind commit exit fits e ranged = exit_fits sources behind exit fits.1 (paired commit None exit (exit_behind sources behind) e) ranged
end_fits sources (Leave leave) behind commit exit fits e ranged =
    let same : leave ≡ exit = ap (λ (end : Option (ℕ × ℕ) × Exit). end.1) (same_Some (None, leave) (commit, exit) e) in
    subst IsExit same (fits.0 (subst IsRangedExit (sym same) ranged))
end_fits sources (Compute to op size a b) behind commit exit fits e ranged = absurd (cc e)
end_fits sources (Probe place count write) behind commit exit fits e ranged = absurd (cc e)
end_fits sources (Refuse when) behind commit exit fits e ranged = absurd (cc e)
end_fits sources (Read to place count) behind commit exit fits e ranged = absurd (cc e)
end_fits sources (Write place count source) behind commit exit fits e ranged = absurd (cc e)
end_fits sources (Locked to place kind source) behind commit exit fits e ranged = absurd (cc e)
end_fits sources (SetPsw source) behind commit exit fits e ranged = absurd (cc e)

-- ---- ranges
pub to_leave : (operation : Micro) (program : List Micro) → IsRanged operation → RangedToLeave program → RangedToLeave (operation ∷ program)
to_leave (Compute to op size a b) program ranged rest = (ranged, rest)
to_leave (Probe place count write) program ranged rest = (ranged, rest)
to_leave (Refuse when) program ranged rest = (ranged, rest)
to_leave (Read to place count) program ranged rest = (ranged, rest)
to_leave (Write place count source) program ranged rest = (ranged, rest)
to_leave (Locked to place kind source) program ranged rest = (ranged, rest)
to_leave (Commit number source) program ranged rest = (ranged, rest)
to_leave (Codes n z v c) program ranged rest = (ranged, rest)
to_leave (SetPsw source) program ranged rest = (ranged, rest)
to_leave (Leave exit) program ranged rest = ranged

pub all_to_leave : (program : List Micro) → AllRanged program → RangedToLeave program
all_to_leave [] ranged = tt
all_to_leave (operation ∷ program) ranged = to_leave operation program ranged.0 (all_to_leave program ranged.1)

pub ok_all_to_leave : {A E : Type 0} (program : List Micro) (r : Result A E) → IfOk r (λ x. AllRanged program) → IfOk r (λ x. RangedToLeave program)
ok_all_to_leave program (Ok x) h = all_to_leave program h
ok_all_to_leave program (Err e) h = tt

-- an operation before ones that do
pub ranged_later : (program : List Micro) (i : ℕ) (d : Micro) → i < length program → IsRanged (get_or program i d) → RangedToLeave (drop (i + 1) program) → RangedToLeave (drop i program)
ranged_later program i d lt ranged rest = subst RangedToLeave (sym (drop_more program i d lt)) (to_leave (get_or program i d) (drop (i + 1) program) ranged rest)

-- ---- a step
module _ (site : Site) (codes : List AlphaInstr) where
  abbrev onward : List Micro → (Homes × List Line) → Option (List Line)
  onward behind step = option_map (λ (lines : List Line). step.1 ++ lines) (direct_lines site codes step.0 behind)

  computed_on : (behind : List Micro) (o : Option (Homes × List AlphaInstr))
      → option_and_then (λ (step : Homes × List AlphaInstr). option_map (λ (lines : List Line). map plain step.1 ++ lines) (direct_lines site codes step.0 behind)) o ≡ option_and_then (onward behind) (option_map in_lines o)
  computed_on behind None = refl
  computed_on behind (Some step) = refl

  by_step : (homes : Homes) (operation : Micro) (behind : List Micro) → goes_on operation ≡ true → tested_at site codes homes operation behind ≡ None
      → direct_lines site codes homes (operation ∷ behind) ≡ option_and_then (onward behind) (step_at site homes operation behind)
  by_step homes (Compute to op size a b) behind e none =
      ap (λ o. either_of o (option_and_then (λ (step : Homes × List AlphaInstr). option_map (λ (lines : List Line). map plain step.1 ++ lines) (direct_lines site codes step.0 behind)) (direct_step site.sources homes to op size a b behind))) none
      ∙ computed_on behind (direct_step site.sources homes to op size a b behind)
  by_step homes (Probe place count write) behind e none = refl
  by_step homes (Read to place count) behind e none = refl
  by_step homes (Write place count source) behind e none = refl
  by_step homes (Commit number source) behind e none = absurd (cc e)
  by_step homes (Codes n z v c) behind e none = absurd (cc e)
  by_step homes (Leave exit) behind e none = absurd (cc e)
  by_step homes (Refuse when) behind e none = absurd (cc e)
  by_step homes (Locked to place kind source) behind e none = absurd (cc e)
  by_step homes (SetPsw source) behind e none = absurd (cc e)

  module _ (homes : Homes) (program : List Micro) (i : ℕ) (d : Micro) (lt : i < length program) (is : goes_on (get_or program i d) ≡ true)
      (none : tested_at site codes homes (get_or program i d) (take (length program - (i + 1)) (drop (i + 1) program)) ≡ None) where
    abbrev rest : List Micro
    rest = take (length program - (i + 1)) (drop (i + 1) program)

    at_step : direct_lines site codes homes (drop i program) ≡ option_and_then (onward (drop (i + 1) program)) (step_at site homes (get_or program i d) (take (length program - (i + 1)) (drop (i + 1) program)))
    at_step =
        ap (direct_lines site codes homes) (drop_more program i d lt)
        ∙ (by_step homes (get_or program i d) (drop (i + 1) program) is (subst (λ behind. tested_at site codes homes (get_or program i d) behind ≡ None) (take_rest program (i + 1)) none)
        ∙ ap (λ behind. option_and_then (onward (drop (i + 1) program)) (step_at site homes (get_or program i d) behind)) (sym (take_rest program (i + 1))))

    pub step_none : homes_at (step_at site homes (get_or program i d) (take (length program - (i + 1)) (drop (i + 1) program))) ≡ None → direct_lines site codes homes (drop i program) ≡ None
    step_none e = at_step ∙ ap (option_and_then (onward (drop (i + 1) program))) (nothing (step_at site homes (get_or program i d) (take (length program - (i + 1)) (drop (i + 1) program))) e)
      where
        nothing : (o : Option (Homes × List Line)) → homes_at o ≡ None → o ≡ None
        nothing None e = refl
        nothing (Some step) e = absurd (cc e)

    pub step_some : (now : Homes) (before behind : List Line) → homes_at (step_at site homes (get_or program i d) (take (length program - (i + 1)) (drop (i + 1) program))) ≡ Some now
        → behind ≡ before ++ lines_at (step_at site homes (get_or program i d) (take (length program - (i + 1)) (drop (i + 1) program)))
        → option_map (λ (lines : List Line). before ++ lines) (direct_lines site codes homes (drop i program)) ≡ option_map (λ (lines : List Line). behind ++ lines) (direct_lines site codes now (drop (i + 1) program))
    step_some now before behind e words =
        ap (option_map (λ (lines : List Line). before ++ lines)) at_step
        ∙ by (step_at site homes (get_or program i d) (take (length program - (i + 1)) (drop (i + 1) program))) e words
      where
        joined : (more : List Line) (o : Option (List Line)) → option_map (λ (lines : List Line). before ++ lines) (option_map (λ (lines : List Line). more ++ lines) o) ≡ option_map (λ (lines : List Line). (before ++ more) ++ lines) o
        joined more None = refl
        joined more (Some lines) = ap (λ (lines : List Line). Some lines) (sym (append_assoc before more lines))

        by : (o : Option (Homes × List Line)) → homes_at o ≡ Some now → behind ≡ before ++ lines_at o
            → option_map (λ (lines : List Line). before ++ lines) (option_and_then (onward (drop (i + 1) program)) o) ≡ option_map (λ (lines : List Line). behind ++ lines) (direct_lines site codes now (drop (i + 1) program))
        by None e words = absurd (cc e)
        by (Some step) e words =
            joined step.1 (direct_lines site codes step.0 (drop (i + 1) program))
            ∙ (ap (λ (homes : Homes). option_map (λ (lines : List Line). (before ++ step.1) ++ lines) (direct_lines site codes homes (drop (i + 1) program))) (same_Some step.0 now e)
            ∙ ap (λ (front : List Line). option_map (λ (lines : List Line). front ++ lines) (direct_lines site codes now (drop (i + 1) program))) (sym words))

pub words_behind : (sources : CodeSources) (program : List Micro) (i : ℕ) (d : Micro) → i < length program → AllFitWords sources (drop i program) → AllFitWords sources (drop (i + 1) program)
words_behind sources program i d lt fits = (subst (AllFitWords sources) (drop_more program i d lt) fits).1

pub when_none : {X : Type 0} (o : Option X) (A : Type 0) (P : X → Type 0) → o ≡ None → MatchOption o A P → A
when_none o A P e h = subst (λ o. MatchOption o A P) e h

pub some_homes : (o : Option Homes) (now : Homes) → o ≡ Some now → IfSome o AreHomes → AreHomes now
some_homes o now e are = subst (λ o. IfSome o AreHomes) e are
