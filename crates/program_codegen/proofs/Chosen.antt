-- The lines that are chosen for a program.
use Rattle.std.proofs.Common.{◌≡◌, ℕ, ◌+◌, ◌^◌, ◌<◌, ◌≤◌, refl, subst, arith, List, [], ◌∷◌, ◌++◌, length, map, Option, Some, None, Bool, true, false, inl, inr}
use Rattle.std.specs.Prelude.{◌⊎◌, ◌==◌, All, option_map, option_and_then, unwrap_or, if◌then◌else◌}
use Rattle.std.specs.List.{list_all}
use Rattle.vax_form.specs.Ranges.{IsInRange}
use Rattle.alpha_encode.specs.Words.{IsEncodable}
use Rattle.alpha_encode.specs.declared.instr.AlphaInstr.{AlphaInstr}
use Rattle.alpha_meaning.specs.Loops.{fine}
use Rattle.alpha_meaning.specs.State.{Regs, at_place}
use Rattle.micro_ops.specs.Course.{AtLeaves}
use Rattle.micro_ops.specs.Exits.{addresses_of}
use Rattle.micro_ops.specs.Fits.{is_ended, walk}
use Rattle.micro_ops.specs.Known.{at_start}
use Rattle.micro_ops.specs.Leaving.{CodesComeFrom}
use Rattle.micro_ops.specs.Meaning.{Standing, course_of}
use Rattle.micro_ops.specs.Uses.{has_bytes}
use Rattle.micro_ops.specs.WordCounts.{program_words}
use Rattle.micro_ops.specs.declared.program.Exit.{Exit}
use Rattle.micro_ops.specs.declared.program.Micro.{Micro}
use Rattle.micro_ops.specs.declared.program.Micro.TheVariants.{Compute, Probe, Refuse, Read, Write, Locked, Commit, Codes, SetPsw, Leave}
use Rattle.block_law.specs.CodeWords.{may_be_written}
use Rattle.block_law.specs.Placements.{Placement}
use Rattle.block_law.proofs.Rules.{Always}
use Rattle.program_codegen.proofs.HomeFronts.{reached_starts}
use Rattle.program_codegen.specs.declared.homes.Homes.{Homes}
use Rattle.program_codegen.specs.declared.lines.Line.{Line}
use Rattle.program_codegen.specs.declared.points.Site.{Site}
use Rattle.program_codegen.specs.Blocks.{block_lines, chosen_lines}
use Rattle.program_codegen.specs.Homes.{home_of, no_homes, all_waiting}
use Rattle.program_codegen.specs.Ends.{choice_of, direct_end, end_at, end_words}
use Rattle.program_codegen.specs.Direct.{choice_lines, direct_lines, direct_step, next_exit, tested_at, tested_exit, reach, tested_words}
use Rattle.program_codegen.specs.Programs.{AllHaveWords, KeepsTogether, LeavesReady, ReadsReady}
use Rattle.program_codegen.specs.Promises.{BeginsBy}
use Rattle.program_codegen.specs.Words.{block_of, departing_by, plain, program_lines, trap_by}
use Rattle.program_codegen.proofs.Beginning.{Starts, before, depart, lines_begin, program_starts, row, trap}
use Rattle.program_codegen.proofs.Following.{follows, lines_some}
use Rattle.program_codegen.proofs.Fronts.{Shape}
use Rattle.program_codegen.proofs.HomeFollowing.{direct_follows, direct_some, ended, reaching}
use Rattle.program_codegen.proofs.HomeSomes.{chained, first_is, mapped}
use Rattle.program_codegen.proofs.HomeTesting.{tested}
use Rattle.program_codegen.proofs.HomeShaping.{direct_shape}
use Rattle.program_codegen.proofs.HomeSparing.{nothing_waits}
use Rattle.program_codegen.proofs.Holding.{Holds, LeavingFollows, Setting, ends, found, tree}
use Rattle.program_codegen.proofs.Shaping.{program_shape}
use Rattle.program_codegen.proofs.Walk.{Within}

-- ---- the first word
module _ (site : Site) (codes : List AlphaInstr) where
  end_starts : (operation : Micro) (program : List Micro) (homes : Homes) (lines : List Line)
      → option_and_then (λ (end : Option (ℕ × ℕ) × Exit). direct_end site codes homes end.0 end.1) (end_at site.sources operation program) ≡ Some lines → Starts site lines
  end_starts operation program homes lines e =
      let c = chained (Option (ℕ × ℕ) × Exit) (List Line) (λ (end : Option (ℕ × ℕ) × Exit). direct_end site codes homes end.0 end.1) (end_at site.sources operation program) lines e in
      let x = ended site codes homes c.found.0 c.found.1 lines c.onward in
      let choice = choice_of homes c.found.1 in
      subst (Starts site) x.whole
      (before site (map plain (end_words homes c.found.0 choice.1 x.words)) (trap_by choice.0 site choice.1 ++ departing_by choice.0 site choice.1) (row site (end_words homes c.found.0 choice.1 x.words))
      (before site (trap_by choice.0 site choice.1) (departing_by choice.0 site choice.1) (trap site choice.0 choice.1) (depart site choice.0 choice.1)))

  reach_starts : (operation : Micro) (program : List Micro) (homes : Homes) (lines : List Line) → ((homes' : Homes) (rest : List Line) → direct_lines site codes homes' program ≡ Some rest → Starts site rest)
      → option_and_then (λ (step : Homes × List Line). option_map (λ (lines : List Line). step.1 ++ lines) (direct_lines site codes step.0 program)) (reach site homes operation) ≡ Some lines → Starts site lines
  reach_starts operation program homes lines later e =
      let r = reaching site codes homes operation program lines e in
      subst (Starts site) r.whole
      (before site (map plain (all_waiting homes) ++ r.step.1) r.rest
      (before site (map plain (all_waiting homes)) r.step.1 (row site (all_waiting homes)) (reached_starts site homes operation r.step r.is)) (later r.step.0 r.rest r.onward))

  direct_starts : (program : List Micro) (homes : Homes) (lines : List Line) → direct_lines site codes homes program ≡ Some lines → Starts site lines
  direct_starts [] homes lines e = absurd (cc e)
  direct_starts (Compute to op size a b ∷ program) homes lines e = by (λ homes' rest is. direct_starts program homes' rest is) (first_is (tested_at site codes homes (Compute to op size a b) program) (option_and_then (λ (step : Homes × List AlphaInstr). option_map (λ (lines : List Line). map plain step.1 ++ lines) (direct_lines site codes step.0 program)) (direct_step site.sources homes to op size a b program)) lines e)
    where
      by : ((homes' : Homes) (rest : List Line) → direct_lines site codes homes' program ≡ Some rest → Starts site rest)
          → ((tested_at site codes homes (Compute to op size a b) program) ≡ Some lines) ⊎ (((tested_at site codes homes (Compute to op size a b) program) ≡ None) × ((option_and_then (λ (step : Homes × List AlphaInstr). option_map (λ (lines : List Line). map plain step.1 ++ lines) (direct_lines site codes step.0 program)) (direct_step site.sources homes to op size a b program)) ≡ Some lines)) → Starts site lines
      by onward (inl tests) =
          let c = chained Exit (List Line) (tested_exit site codes homes to op size a b) (next_exit program) lines tests in
          let s = tested site codes homes to op size a b c.found lines c.onward in
          subst (Starts site) s.whole (before site (map plain (tested_words to s.test.1 homes)) (choice_lines s.test s.chosen s.other) (row site (tested_words to s.test.1 homes)) refl)
      by onward (inr x) =
          let c = chained (Homes × List AlphaInstr) (List Line) (λ (step : Homes × List AlphaInstr). option_map (λ (lines : List Line). map plain step.1 ++ lines) (direct_lines site codes step.0 program)) (direct_step site.sources homes to op size a b program) lines x.1 in
          let m = mapped (List Line) (List Line) (λ (lines : List Line). map plain c.found.1 ++ lines) (direct_lines site codes c.found.0 program) lines c.onward in
          subst (Starts site) m.whole (before site (map plain c.found.1) m.found (row site c.found.1) (onward c.found.0 m.found m.is))
  direct_starts (Commit number source ∷ program) homes lines e = end_starts (Commit number source) program homes lines e
  direct_starts (Codes n z v c ∷ program) homes lines e = end_starts (Codes n z v c) program homes lines e
  direct_starts (Leave exit ∷ program) homes lines e = end_starts (Leave exit) program homes lines e
  direct_starts (Probe place count write ∷ program) homes lines e = reach_starts (Probe place count write) program homes lines (λ homes' rest is. direct_starts program homes' rest is) e
  direct_starts (Refuse when ∷ program) homes lines e = absurd (cc e)
  direct_starts (Read to place count ∷ program) homes lines e = reach_starts (Read to place count) program homes lines (λ homes' rest is. direct_starts program homes' rest is) e
  direct_starts (Write place count source ∷ program) homes lines e = reach_starts (Write place count source) program homes lines (λ homes' rest is. direct_starts program homes' rest is) e
  direct_starts (Locked to place kind source ∷ program) homes lines e = absurd (cc e)
  direct_starts (SetPsw source ∷ program) homes lines e = absurd (cc e)

  chosen_starts : (program : List Micro) → Starts site (chosen_lines site codes program)
  chosen_starts program = by (direct_lines site codes no_homes program) refl
    where
      by : (o : Option (List Line)) → direct_lines site codes no_homes program ≡ o → Starts site (unwrap_or o (program_lines site codes program))
      by None e = program_starts site codes program
      by (Some lines) e = direct_starts program no_homes lines e

  pub begins : (program : List Micro) → BeginsBy site.before (block_of (block_lines site codes program))
  begins program = lines_begin site (chosen_lines site codes program) (chosen_starts program)

  -- ---- a program that leaves has words
  pub chosen_some : (program : List Micro) → is_ended (walk site.sources at_start program) ≡ true → 1 ≤ length (chosen_lines site codes program)
  chosen_some program ended = by (direct_lines site codes no_homes program) refl
    where
      by : (o : Option (List Line)) → direct_lines site codes no_homes program ≡ o → 1 ≤ length (unwrap_or o (program_lines site codes program))
      by None e = lines_some site codes program at_start refl ended
      by (Some lines) e = direct_some site codes program no_homes lines e

-- ---- by themselves
module _ (site : Site) (codes : List AlphaInstr) (after_fits : site.after < 2 ^ 32) (encodable : All IsEncodable codes) (few : length codes ≤ 32) (only : list_all (fine (may_be_written site.sources)) codes ≡ true) (together : KeepsTogether site.sources) where
  pub chosen_shape : (program : List Micro) → is_ended (walk site.sources at_start program) ≡ true → AllHaveWords site.sources program
      → Shape site false codes (addresses_of site.after program) (program_words site.sources program + 59) (chosen_lines site codes program)
  chosen_shape program ended words = by (direct_lines site codes no_homes program) refl
    where
      by : (o : Option (List Line)) → direct_lines site codes no_homes program ≡ o → Shape site false codes (addresses_of site.after program) (program_words site.sources program + 59) (unwrap_or o (program_lines site codes program))
      by None e = program_shape site codes after_fits encodable few only together program at_start refl ended words (λ e. (refl, refl))
      by (Some lines) e =
          let shape = direct_shape site codes after_fits encodable few only program no_homes (tt, tt, tt, tt) (record { before = nothing_waits; last = nothing_waits }) lines false refl at_start e words refl ended in
          let short = shape.short in
          record { each = shape.each; kept = shape.kept; goes = shape.goes; writes = shape.writes; short = omega arith }

-- ---- they follow the program's tree
module _ (p : Placement) (site : Site) (codes : List AlphaInstr) (setting : Setting p site codes) (leaves : LeavingFollows p site codes) where
  pub chosen_follows : (program : List Micro) (standing : Standing) (regs : Regs) (pc : ℕ) → Within p site.behind pc (chosen_lines site codes program)
      → list_all (has_bytes setting.bytes) program ≡ true → AllHaveWords site.sources program → ReadsReady site.before program → LeavesReady site.behind program
      → is_ended (walk site.sources at_start program) ≡ true → Holds p site at_start standing regs
      → IsInRange p.pages (tree (ends p) (course_of program (found p site) standing))
      → AtLeaves (CodesComeFrom site.sources p.begun) (course_of program (found p site) standing)
      → Always p None (length (chosen_lines site codes program)) (at_place regs pc) (tree (ends p) (course_of program (found p site) standing))
  chosen_follows program standing regs pc w sized words reads ready ended h range agree = by (direct_lines site codes no_homes program) refl w
    where
      by : (o : Option (List Line)) → direct_lines site codes no_homes program ≡ o → Within p site.behind pc (unwrap_or o (program_lines site codes program))
          → Always p None (length (unwrap_or o (program_lines site codes program))) (at_place regs pc) (tree (ends p) (course_of program (found p site) standing))
      by None e w = follows p site codes setting leaves program at_start standing regs pc w sized words reads ready refl ended h range agree
      by (Some lines) e w =
          direct_follows p site codes setting program no_homes lines at_start standing regs pc e w words reads refl ended (refl, refl)
          (record { holds = h; are = (tt, tt, tt, tt); values = λ temp r home. absurd (none temp r home) }) sized (range, agree)
        where
          none : (temp r : ℕ) → home_of no_homes temp ≡ Some r → ⊥
          none temp r home = absurd (by_test (temp == 0) (temp == 1) (temp == 2) (temp == 3) home)
            where
              by_test : (a b c d : Bool) → (if a then None else if b then None else if c then None else if d then None else None) ≡ Some r → ⊥
              by_test true b c d e = absurd (cc e)
              by_test false true c d e = absurd (cc e)
              by_test false false true d e = absurd (cc e)
              by_test false false false true e = absurd (cc e)
              by_test false false false false e = absurd (cc e)
