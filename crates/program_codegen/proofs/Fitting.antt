-- The operations of a program that fits have words.
use Rattle.std.proofs.Common.{Option, Some, None, ap, ◌≡◌, ℕ, refl, sym, ◌∙◌, subst, arith, List, [], ◌∷◌, Bool, true, false, eqb-true}
use Rattle.std.specs.Prelude.{◌==◌, ◌&&◌, ◌||◌, not, nat_lt, nat_le, option_and_then, if◌then◌else◌}
use Rattle.std.proofs.lemmas.Bool.Decides.{nat_tests}
use Rattle.std.proofs.lemmas.Bool.{and_parts, not-true, ltb-true}
use Rattle.std.proofs.lemmas.Option.{same_Some}
use Rattle.vt_words.specs.Quad.{IsCount, one as c1, two as c2, four as c4, eight as c8}
use Rattle.micro_ops.specs.declared.codes.CodeSources.{CodeSources}
use Rattle.micro_ops.specs.declared.known.Checked.TheVariants.{At}
use Rattle.micro_ops.specs.declared.known.Holding.TheVariants.{Wide}
use Rattle.micro_ops.specs.declared.known.Known.{Known}
use Rattle.micro_ops.specs.declared.program.Arg.{Arg}
use Rattle.micro_ops.specs.declared.program.Arg.TheVariants.{Temp, Register, Flag, Const}
use Rattle.micro_ops.specs.declared.program.Exit.{Exit}
use Rattle.micro_ops.specs.declared.program.Exit.TheVariants.{Next, Fixed, Computed, Choice, Service, Breakpoint}
use Rattle.micro_ops.specs.declared.program.Micro.{Micro}
use Rattle.micro_ops.specs.declared.program.Micro.TheVariants.{Compute, Probe, Refuse, Read, Write, Locked, Commit, Codes, SetPsw, Leave}
use Rattle.micro_ops.specs.Fits.{step, walk, when_fits, is_ended, check_fits, computation_fits, argument_fits, read_fits, write_fits, locked_fits, commit_fits, codes_fit, exit_fits, sources_fit, place_fits, reference_fits, are_apart, is_count, holding_of, is_low_argument, is_low_exit, names_low, keeps_low, all_keep_low}
use Rattle.micro_ops.specs.Known.{holds, is_committed, behind_write, behind_access, behind_commit}
use Rattle.micro_ops.specs.LeftOut.{is_low, is_left_out}
use Rattle.micro_ops.specs.Meaning.{locked_count}
use Rattle.micro_ops.specs.Uses.{is_unary, is_select, leaves_longword}
use Rattle.byte_sequences.specs.Instructions as bytes
use Rattle.compute_sequences.specs.Registers.{IsArgument}
use Rattle.program_codegen.specs.Words.{holder}
use Rattle.program_codegen.specs.Programs.{IsExit, IsRangedArgument, IsRangedExit, AllRanged, AllFitWords, AllHaveWords, RangedToLeave}
use Rattle.program_codegen.proofs.Numbers.{all_three, all_four, all_five}
use Rattle.program_codegen.proofs.Knowing.{nothing_behind, write_changes}
use Rattle.program_codegen.proofs.Going.{opened, walk_some}

count_is : (n : ℕ) → is_count n ≡ true → IsCount n
count_is n e = by (n == 1) (n == 2) (n == 4) (n == 8) refl refl refl refl e
  where
    by : (a b c d : Bool) → (n == 1) ≡ a → (n == 2) ≡ b → (n == 4) ≡ c → (n == 8) ≡ d → (a || b || c || d) ≡ true → IsCount n
    by true b c d f g h i e = subst IsCount (sym (eqb-true n 1 f)) c1
    by false true c d f g h i e = subst IsCount (sym (eqb-true n 2 g)) c2
    by false false true d f g h i e = subst IsCount (sym (eqb-true n 4 h)) c4
    by false false false true f g h i e = subst IsCount (sym (eqb-true n 8 i)) c8
    by false false false false f g h i e = absurd (cc e)

or_false_left : (a b : Bool) → a ≡ false → (a || b) ≡ true → b ≡ true
or_false_left true b f e = absurd (cc f)
or_false_left false b f e = e

pub argument_word : (known : Known) (a : Arg) → is_low_argument a ≡ true → argument_fits known a ≡ true → IsRangedArgument a → IsArgument a
argument_word known (Temp temp) low fits ranged = ltb-true temp 6 low
argument_word known (Register number) low fits ranged = ltb-true number 15 (and_parts (nat_lt number 15) (not (is_committed known number)) fits).0
argument_word known (Flag flag) low fits ranged = ltb-true flag 8 (all_three (nat_lt flag 8) (not known.codes) (not known.psw) fits).0
argument_word known (Const value) low fits ranged = ranged

exit_word : (exit : Exit) → is_low_exit exit ≡ true → IsRangedExit exit → IsExit exit
exit_word Next low ranged = tt
exit_word (Fixed address) low ranged = ranged
exit_word (Computed temp) low ranged = ltb-true temp 6 low
exit_word (Choice when taken other) low ranged = (ltb-true when 6 low, ranged.0, ranged.1)
exit_word (Service temp) low ranged = ltb-true temp 6 low
exit_word Breakpoint low ranged = tt

among : (a b : ℕ) → are_apart a b ≡ true → bytes.IsArgument (holder a) × bytes.IsArgument (holder b) × ((a == b) ≡ false)
among a b e =
    let x = all_three (nat_lt a 4) (nat_lt b 4) (not (a == b)) e in
    let a_lt = ltb-true a 4 x.0 in
    let b_lt = ltb-true b 4 x.1 in
    (record { high = omega arith }, record { high = omega arith }, not-true (a == b) x.2)

turned : (a b : ℕ) → (a == b) ≡ false → (b == a) ≡ false
turned a b e = grind (arith, nat_tests, e)

module _ (sources : CodeSources) where
  pub fit_words : (program : List Micro) (known last : Known) → known.ended ≡ false → walk sources known program ≡ Some last → all_keep_low sources program ≡ true → AllFitWords sources program
  unfolding step
  fit_words [] known last off e low = tt
  fit_words (Compute to op size a b ∷ program) known last off e low =
      let same = write_changes to (holding_of (leaves_longword (Compute to op size a b))) known in
      let x = walk_some (computation_fits known to op a b) (behind_write to (holding_of (leaves_longword (Compute to op size a b))) known) last (λ behind. walk sources behind program) (opened sources known last (Compute to op size a b) program off e) in
      let y = and_parts (keeps_low sources (Compute to op size a b) program) (all_keep_low sources program) low in
      let fits = all_four (nat_lt to 64) (argument_fits known a) (is_unary op || argument_fits known b) (not (is_select op) || holds known to) x.0 in (
        λ ranged out.
            let z = all_three (is_low to) (is_low_argument a) (is_unary op || is_low_argument b) (or_false_left (is_left_out sources (Compute to op size a b) program) (names_low (Compute to op size a b)) out y.0) in
            let lt = ltb-true to 6 z.0 in (
              record { low = omega arith; high = omega arith },
              argument_word known a z.1 fits.1 ranged.0,
              λ binary. argument_word known b (or_false_left (is_unary op) (is_low_argument b) binary z.2) (or_false_left (is_unary op) (argument_fits known b) binary fits.2) ranged.1,
            ),
        fit_words program (behind_write to (holding_of (leaves_longword (Compute to op size a b))) known) last (same.ended ∙ off) x.1 y.1,
      )
  fit_words (Probe place count write ∷ program) known last off e low =
      let behind = behind_access (record known { checked = At place count write }) in
      let x = walk_some (check_fits known place count) behind last (λ behind. walk sources behind program) (opened sources known last (Probe place count write) program off e) in
      let y = and_parts (keeps_low sources (Probe place count write) program) (all_keep_low sources program) low in
      (λ ranged. (ltb-true place 6 y.0, count_is count (and_parts (is_count count) (place_fits known place) x.0).0), fit_words program behind last off x.1 y.1)
  fit_words (Refuse when ∷ program) known last off e low =
      let x = walk_some (not known.changed && holds known when) known last (λ behind. walk sources behind program) (opened sources known last (Refuse when) program off e) in
      let y = and_parts (keeps_low sources (Refuse when) program) (all_keep_low sources program) low in
      (λ ranged. ltb-true when 6 y.0, fit_words program known last off x.1 y.1)
  fit_words (Read to place count ∷ program) known last off e low =
      let behind = behind_access (behind_write to (holding_of (nat_le count 4)) known) in
      let same = write_changes to (holding_of (nat_le count 4)) known in
      let x = walk_some (read_fits known to place count) behind last (λ behind. walk sources behind program) (opened sources known last (Read to place count) program off e) in
      let y = and_parts (keeps_low sources (Read to place count) program) (all_keep_low sources program) low in
      let z = all_three (is_count count) (are_apart to place) (reference_fits known place count false) x.0 in
      let registers = among to place z.1 in
      (λ ranged. (registers.1, registers.0, count_is count z.0), fit_words program behind last (same.ended ∙ off) x.1 y.1)
  fit_words (Write place count source ∷ program) known last off e low =
      let x = walk_some (write_fits known place count source) (behind_access known) last (λ behind. walk sources behind program) (opened sources known last (Write place count source) program off e) in
      let y = and_parts (keeps_low sources (Write place count source) program) (all_keep_low sources program) low in
      let z = all_four (is_count count) (are_apart place source) (holds known source) (reference_fits known place count true) x.0 in
      let registers = among place source z.1 in
      (λ ranged. (registers.0, registers.1, count_is count z.0), fit_words program (behind_access known) last off x.1 y.1)
  fit_words (Locked to place kind source ∷ program) known last off e low =
      let behind = behind_access (behind_write to Wide known) in
      let same = write_changes to Wide known in
      let x = walk_some (locked_fits known to place (locked_count kind) source) behind last (λ behind. walk sources behind program) (opened sources known last (Locked to place kind source) program off e) in
      let y = and_parts (keeps_low sources (Locked to place kind source) program) (all_keep_low sources program) low in
      let z = all_five (are_apart to place) (are_apart place source) (are_apart source to) (holds known source) (reference_fits known place (locked_count kind) true) x.0 in
      let first = among to place z.0 in
      let second = among source to z.2 in
      (λ ranged. (first.1, second.0, first.0, turned to place first.2, second.2), fit_words program behind last (same.ended ∙ off) x.1 y.1)
  fit_words (Commit number source ∷ program) known last off e low =
      let x = walk_some (commit_fits known number source) (behind_commit number known) last (λ behind. walk sources behind program) (opened sources known last (Commit number source) program off e) in
      let y = and_parts (keeps_low sources (Commit number source) program) (all_keep_low sources program) low in
      let z = all_three (nat_lt number 15) (holds known source) (not (is_committed known number)) x.0 in
      (λ ranged. (ltb-true number 15 z.0, ltb-true source 6 y.0), fit_words program (behind_commit number known) last off x.1 y.1)
  fit_words (Codes n z v c ∷ program) known last off e low =
      let x = walk_some (codes_fit known n z v c) (record known { codes = true; changed = true }) last (λ behind. walk sources behind program) (opened sources known last (Codes n z v c) program off e) in
      (λ ranged. tt, fit_words program (record known { codes = true; changed = true }) last off x.1 (and_parts (keeps_low sources (Codes n z v c) program) (all_keep_low sources program) low).1)
  fit_words (SetPsw source ∷ program) known last off e low =
      let x = walk_some (not known.psw && holds known source) (record known { psw = true; changed = true }) last (λ behind. walk sources behind program) (opened sources known last (SetPsw source) program off e) in
      let y = and_parts (keeps_low sources (SetPsw source) program) (all_keep_low sources program) low in
      (λ ranged. ltb-true source 6 y.0, fit_words program (record known { psw = true; changed = true }) last off x.1 y.1)
  fit_words (Leave exit ∷ program) known last off e low =
      let x = walk_some (exit_fits known exit && sources_fit sources known) (record known { ended = true }) last (λ behind. walk sources behind program) (opened sources known last (Leave exit) program off e) in
      let y = and_parts (keeps_low sources (Leave exit) program) (all_keep_low sources program) low in
      (λ ranged. exit_word exit y.0 ranged, nothing program x.1)
    where
      nothing : (program : List Micro) → walk sources (record known { ended = true }) program ≡ Some last → AllFitWords sources program
      nothing [] e = tt
      nothing (operation ∷ program) e = absurd (cc e)

  pub have_words : (program : List Micro) → AllFitWords sources program → AllRanged program → AllHaveWords sources program
  have_words [] fit ranged = tt
  have_words (operation ∷ program) fit ranged = (fit.0 ranged.0, have_words program fit.1 ranged.1)

  -- ---- nothing stands behind where it leaves
  record Onward (known : Known) (operation : Micro) (program : List Micro) : Type 0 where
    behind : Known
    is : step sources known operation ≡ Some behind
    ended : is_ended (walk sources behind program) ≡ true

  onward : (known : Known) (operation : Micro) (program : List Micro) → is_ended (walk sources known (operation ∷ program)) ≡ true → Onward known operation program
  onward known operation program e = by known.ended (step sources known operation) refl e
    where
      by : (ended : Bool) (o : Option Known) → step sources known operation ≡ o → is_ended (if ended then None else option_and_then (λ behind. walk sources behind program) o) ≡ true → Onward known operation program
      by true o is e = absurd (cc e)
      by false None is e = absurd (cc e)
      by false (Some behind) is e = record { behind = behind; is = is; ended = e }

  left : (b : Bool) (at behind : Known) (program : List Micro) → at.ended ≡ true → when_fits b at ≡ Some behind → is_ended (walk sources behind program) ≡ true → AllRanged program
  left true at behind program on e walked = subst AllRanged (sym (nothing_behind sources behind program (ap (λ (k : Known). k.ended) (sym (same_Some at behind e)) ∙ on) walked)) tt
  left false at behind program on e walked = absurd (cc e)

  pub ranged_to_end : (program : List Micro) (known : Known) → is_ended (walk sources known program) ≡ true → RangedToLeave program → AllRanged program
  unfolding step
  ranged_to_end [] known e ranged = tt
  ranged_to_end (Compute to op size a b ∷ program) known e ranged = let x = onward known (Compute to op size a b) program e in (ranged.0, ranged_to_end program x.behind x.ended ranged.1)
  ranged_to_end (Probe place count write ∷ program) known e ranged = let x = onward known (Probe place count write) program e in (ranged.0, ranged_to_end program x.behind x.ended ranged.1)
  ranged_to_end (Refuse when ∷ program) known e ranged = let x = onward known (Refuse when) program e in (ranged.0, ranged_to_end program x.behind x.ended ranged.1)
  ranged_to_end (Read to place count ∷ program) known e ranged = let x = onward known (Read to place count) program e in (ranged.0, ranged_to_end program x.behind x.ended ranged.1)
  ranged_to_end (Write place count source ∷ program) known e ranged = let x = onward known (Write place count source) program e in (ranged.0, ranged_to_end program x.behind x.ended ranged.1)
  ranged_to_end (Locked to place kind source ∷ program) known e ranged = let x = onward known (Locked to place kind source) program e in (ranged.0, ranged_to_end program x.behind x.ended ranged.1)
  ranged_to_end (Commit number source ∷ program) known e ranged = let x = onward known (Commit number source) program e in (ranged.0, ranged_to_end program x.behind x.ended ranged.1)
  ranged_to_end (Codes n z v c ∷ program) known e ranged = let x = onward known (Codes n z v c) program e in (ranged.0, ranged_to_end program x.behind x.ended ranged.1)
  ranged_to_end (SetPsw source ∷ program) known e ranged = let x = onward known (SetPsw source) program e in (ranged.0, ranged_to_end program x.behind x.ended ranged.1)
  ranged_to_end (Leave exit ∷ program) known e ranged =
      let x = onward known (Leave exit) program e in
      (ranged, left (exit_fits known exit && sources_fit sources known) (record known { ended = true }) x.behind program refl x.is x.ended)
