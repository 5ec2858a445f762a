-- The lines of MOVC3 by themselves: its operations, their encodings, their points, where they go, and how many they are.
use Rattle.std.proofs.Common.{◌≡◌, ℕ, zero, suc, ◌+◌, ◌-◌, ◌%◌, ◌^◌, ◌<◌, ◌≤◌, refl, ap, ◌∙◌, arith, rules, List, [], ◌∷◌, ◌++◌, length, length-append, map, Bool, true, false, inl, inr, lit<, lit≤}
use Rattle.std.specs.Prelude.{◌==◌, ◌||◌, nat_lt, slice_index, if◌then◌else◌}
use Rattle.std.specs.List.{list_all, list_any}
use Rattle.std.proofs.lemmas.Bool.Decides.{eqb_tells}
use Rattle.std.proofs.lemmas.List.Folds.{list_any-append}
use Rattle.vax_form.specs.Targets.{operand_of}
use Rattle.vax_form.specs.declared.instr.Instr.{Instr}
use Rattle.vax_form.specs.declared.instr.Operand.{Operand}
use Rattle.vax_form.specs.declared.instr.Operand.TheVariants as operands
use Rattle.vax_form.specs.declared.instr.Size.TheVariants.{Byte, Word}
use Rattle.alpha_encode.specs.declared.instr.AlphaInstr.{AlphaInstr}
use Rattle.alpha_encode.specs.declared.instr.AlphaInstr.TheVariants.{Memory, Branch, Operate, Jump, Pal}
use Rattle.alpha_encode.specs.declared.instr.OperateOp.TheVariants.{Addl, Subl}
use Rattle.alpha_encode.specs.declared.instr.Second.TheVariants.{Literal}
use Rattle.alpha_meaning.specs.Loops.{is_operate}
use Rattle.byte_sequences.proofs.Encoded.{EachEncodable, all_encodable}
use Rattle.block_law.specs.Tidy.{keeps_until, may_raise, register_written, writes_register}
use Rattle.micro_ops.specs.Laws.{IsLowPiece, piece_words}
use Rattle.micro_ops.specs.Uses.{has_bytes}
use Rattle.micro_ops.specs.declared.program.Micro.{Micro}
use Rattle.micro_ops.specs.declared.program.Micro.TheVariants.{Compute, Probe, Refuse, Read, Write, Locked, Commit, Codes, SetPsw, Leave}
use Rattle.micro_ops.proofs.Walks.{words_joined}
use Rattle.operand_programs.specs.Behind.{AreFit}
use Rattle.operand_programs.specs.InOrder.{no_steps}
use Rattle.operand_programs.specs.Operands.{operand_program, steps_behind_specifier}
use Rattle.operand_programs.specs.Specifiers.{locate_program, low_bytes_program, place_program, read_program}
use Rattle.operand_programs.specs.Words.{words_of_steps}
use Rattle.operand_programs.specs.declared.operands.Specifier.{Specifier}
use Rattle.operand_programs.proofs.Low.{joined_low, operand_is_low}
use Rattle.operand_programs.proofs.Short.{operand_is_short}
use Rattle.program_codegen.specs.declared.lines.Line.{Line}
use Rattle.program_codegen.specs.declared.points.Site.{Site}
use Rattle.program_codegen.specs.Programs.{AllHaveWords}
use Rattle.program_codegen.specs.Words.{exit_lines, plain, program_lines, words_of}
use Rattle.program_codegen.specs.Strings.{behind_words, destination_specifier, length_specifier, move_words, moved_words, operands_of, source_specifier, specifiers_of, step_words, steps_from, steps_of, string_check}
use Rattle.program_codegen.proofs.CallOperations.{is_evaluation, joined, place_is}
use Rattle.program_codegen.proofs.CallShapes.{evaluation_lines}
use Rattle.program_codegen.proofs.Fronts.{free_keeps, quiet_keeps, row_targets, row_words_are, targets, targets_append, words_append}
use Rattle.program_codegen.proofs.Rows.{is_free, list_all_of}
use Rattle.program_codegen.proofs.Shapes.{EachFits, each_append, exit_each, is_local, row_fits}
use Rattle.program_codegen.proofs.Shaping.{Faulting, probe_lines}
use Rattle.program_codegen.proofs.StringMoves.{behind_few}
use Rattle.program_codegen.proofs.StringSteps.{behind_is_operate}
use Rattle.program_codegen.proofs.Walk.{plain_length}

-- ---- operations
low_bytes_are : (n offset : ℕ) → list_all is_evaluation (low_bytes_program n Word offset 0) ≡ true
low_bytes_are n offset = elim (eqb_tells offset 0) [ inl is ↦ rw is.0 refl | inr not ↦ rw not.0 refl ]

word_is : (operand : Operand) (steps : List ℕ) → list_all is_evaluation (read_program operand Word steps 0 1) ≡ true
word_is (operands.Value value) steps = refl
word_is (operands.Register n) steps = low_bytes_are n (slice_index steps n)
word_is (operands.Place base index) steps = joined is_evaluation (place_program base index Word steps 1 0) (Probe 1 2 false ∷ Read 0 1 2 ∷ []) (place_is base index Word steps 1 0 refl refl) refl
word_is operands.Unused steps = refl
word_is (operands.Target address) steps = refl

source_is : (operand : Operand) (steps : List ℕ) → list_all is_evaluation (locate_program operand Byte steps 1 2) ≡ true
source_is (operands.Value value) steps = refl
source_is (operands.Register n) steps = refl
source_is (operands.Place base index) steps = place_is base index Byte steps 1 2 refl refl
source_is operands.Unused steps = refl
source_is (operands.Target address) steps = refl

destination_is : (operand : Operand) (steps : List ℕ) → list_all is_evaluation (locate_program operand Byte steps 2 3) ≡ true
destination_is (operands.Value value) steps = refl
destination_is (operands.Register n) steps = refl
destination_is (operands.Place base index) steps = place_is base index Byte steps 2 3 refl refl
destination_is operands.Unused steps = refl
destination_is (operands.Target address) steps = refl

-- of so many bytes each
pub evaluation_sized : (bytes : ℕ) (operation : Micro) → is_evaluation operation ≡ true → has_bytes bytes operation ≡ true
evaluation_sized bytes (Compute to op size a b) is = refl
evaluation_sized bytes (Probe place count write) is = refl
evaluation_sized bytes (Read to place count) is = refl
evaluation_sized bytes (Write place count source) is = absurd (cc is)
evaluation_sized bytes (Commit register source) is = refl
evaluation_sized bytes (Refuse when) is = refl
evaluation_sized bytes (Locked to place kind source) is = refl
evaluation_sized bytes (Codes n z v c) is = refl
evaluation_sized bytes (SetPsw source) is = refl
evaluation_sized bytes (Leave exit) is = refl

module _ (instr : Instr) where
  abbrev first : Specifier
  first = length_specifier (operand_of instr 0)

  abbrev second : Specifier
  second = source_specifier (operand_of instr 1)

  abbrev third : Specifier
  third = destination_specifier (operand_of instr 2)

  abbrev first_steps : List ℕ
  first_steps = steps_behind_specifier first no_steps

  abbrev second_steps : List ℕ
  second_steps = steps_behind_specifier second first_steps

  abbrev last_part : List Micro
  last_part = operand_program third second_steps ++ []

  abbrev later_part : List Micro
  later_part = operand_program second first_steps ++ last_part

  pub operands_are : list_all is_evaluation (operands_of instr) ≡ true
  operands_are =
      joined is_evaluation (operand_program first no_steps) later_part (word_is (operand_of instr 0) no_steps)
      (joined is_evaluation (operand_program second first_steps) last_part (source_is (operand_of instr 1) first_steps)
      (joined is_evaluation (operand_program third second_steps) [] (destination_is (operand_of instr 2) second_steps) refl))

  pub operands_low : AreFit (specifiers_of instr) → IsLowPiece (operands_of instr)
  operands_low fit =
      joined_low (operand_program first no_steps) later_part (operand_is_low first no_steps fit.0.placed)
      (joined_low (operand_program second first_steps) last_part (operand_is_low second first_steps fit.1.0.placed)
      (joined_low (operand_program third second_steps) [] (operand_is_low third second_steps fit.1.1.0.placed) refl))

  pub operands_short : AreFit (specifiers_of instr) → piece_words (operands_of instr) ≤ 99
  operands_short fit =
      let a = operand_is_short first no_steps fit.0.placed in
      let b = operand_is_short second first_steps fit.1.0.placed in
      let c = operand_is_short third second_steps fit.1.1.0.placed in
      let d = words_joined (operand_program first no_steps) later_part in
      let e = words_joined (operand_program second first_steps) last_part in
      let f = words_joined (operand_program third second_steps) [] in
      let none : words_of_steps no_steps ≡ 0 = refl in
      let nothing : piece_words [] ≡ 0 = refl in
      omega arith

-- ---- words
both_encodable : (xs ys : List AlphaInstr) → EachEncodable xs → EachEncodable ys → EachEncodable (xs ++ ys)
both_encodable [] ys a b = b
both_encodable (x ∷ xs) ys a b = (a.0, both_encodable xs ys a.1 b)

step_encodable : (number step : ℕ) → number < 32 → EachEncodable (step_words number step)
step_encodable number step lt = by (step == 0) (nat_lt step (2 ^ 31))
  where
    up : step % 2 ^ 8 < 256
    up = omega arith

    down : (2 ^ 32 - step) % 2 ^ 8 < 256
    down = omega arith

    by : (none more : Bool)
        → EachEncodable (if none then [] else (if more then Operate Addl number (Literal (step % 2 ^ 8)) number else Operate Subl number (Literal ((2 ^ 32 - step) % 2 ^ 8)) number) ∷ [])
    by true more = tt
    by false true = ((lt, up, lt), tt)
    by false false = ((lt, down, lt), tt)

steps_encodable : (number count : ℕ) (steps : List ℕ) → number + count ≤ 32 → EachEncodable (steps_from number count steps)
steps_encodable number zero steps fits = tt
steps_encodable number (suc count) steps fits =
    both_encodable (step_words number (slice_index steps number)) (steps_from (number + 1) count steps) (step_encodable number (slice_index steps number) (omega arith)) (steps_encodable (number + 1) count steps (omega arith))

moved_encodable : EachEncodable moved_words
moved_encodable = search rules

move_encodable : (byte_word : Bool) → EachEncodable (move_words byte_word)
move_encodable false = search rules
move_encodable true = search rules

operate_local : (i : AlphaInstr) → is_operate i ≡ true → is_local i ≡ true
operate_local (Operate op ra rb rc) e = refl
operate_local (Memory op ra rb disp) e = absurd (cc e)
operate_local (Branch op ra disp) e = absurd (cc e)
operate_local (Jump ra rb) e = absurd (cc e)
operate_local (Pal number) e = absurd (cc e)

local_quiet : (is : List AlphaInstr) → list_all is_local is ≡ true → list_any may_raise is ≡ false
local_quiet [] e = refl
local_quiet (Operate op ra rb rc ∷ is) e = local_quiet is e
local_quiet (Memory op ra rb disp ∷ is) e = local_quiet is e
local_quiet (Branch op ra disp ∷ is) e = local_quiet is e
local_quiet (Jump ra rb ∷ is) e = local_quiet is e
local_quiet (Pal number ∷ is) e = absurd (cc e)

move_local : (byte_word : Bool) → list_all is_local (move_words byte_word) ≡ true
move_local false = refl
move_local true = refl

move_few : (byte_word : Bool) → length (move_words byte_word) ≤ 22
move_few false = lit≤ tt
move_few true = lit≤ tt

-- ---- what some word behind others does
any_behind : (f : AlphaInstr → Bool) (xs ys : List Line) → list_any f (words_of ys) ≡ true → list_any f (words_of (xs ++ ys)) ≡ true
any_behind f xs ys e = ap (list_any f) (words_append xs ys) ∙ (list_any-append f (words_of xs) (words_of ys) ∙ either (list_any f (words_of xs)) (list_any f (words_of ys)) e)
  where
    either : (a b : Bool) → b ≡ true → (a || b) ≡ true
    either true b e = refl
    either false b e = e

any_before : (f : AlphaInstr → Bool) (xs ys : List Line) → list_any f (words_of xs) ≡ true → list_any f (words_of (xs ++ ys)) ≡ true
any_before f xs ys e = ap (list_any f) (words_append xs ys) ∙ (list_any-append f (words_of xs) (words_of ys) ∙ rw e refl)

module _ (site : Site) (instr : Instr) (after : site.after < 2 ^ 32) (fit : AreFit (specifiers_of instr)) (words : AllHaveWords site.sources (operands_of instr)) where
  abbrev steps : List ℕ
  steps = steps_of instr

  abbrev front : List Line
  front = program_lines site [] (operands_of instr)

  abbrev source_check : List Line
  source_check = string_check site 1 false

  abbrev destination_check : List Line
  destination_check = string_check site 2 true

  abbrev moves : List Line
  moves = map plain (move_words site.byte_word) ++ exit_lines site.after

  abbrev states : List Line
  states = map plain (behind_words steps) ++ moves

  abbrev lines : List Line
  lines = front ++ (source_check ++ (destination_check ++ states))

  evaluates : Faulting site (piece_words (operands_of instr)) front
  evaluates = evaluation_lines site (operands_of instr) (operands_are instr) words

  checks_source : Faulting site 2 source_check
  checks_source = probe_lines site 1 0 false (lit< tt)

  checks_destination : Faulting site 2 destination_check
  checks_destination = probe_lines site 2 0 true (lit< tt)

  behind_local : list_all is_local (behind_words steps) ≡ true
  behind_local = list_all_of is_operate is_local operate_local (behind_words steps) (behind_is_operate steps)

  pub string_each : EachFits site 0 lines
  string_each =
      each_append site 0 front (source_check ++ (destination_check ++ states)) evaluates.0.each
      (each_append site 0 source_check (destination_check ++ states) checks_source.0.each
      (each_append site 0 destination_check states checks_destination.0.each
      (each_append site 0 (map plain (behind_words steps)) moves
      (row_fits site (behind_words steps) (all_encodable (behind_words steps) (both_encodable (steps_from 6 9 steps) moved_words (steps_encodable 6 9 steps (lit≤ tt)) moved_encodable)) behind_local)
      (each_append site 0 (map plain (move_words site.byte_word)) (exit_lines site.after)
      (row_fits site (move_words site.byte_word) (all_encodable (move_words site.byte_word) (move_encodable site.byte_word)) (move_local site.byte_word)) (exit_each site site.after after)))))

  moves_quiet : list_any may_raise (words_of moves) ≡ false
  moves_quiet =
      ap (list_any may_raise) (words_append (map plain (move_words site.byte_word)) (exit_lines site.after) ∙ ap (λ is. is ++ words_of (exit_lines site.after)) (row_words_are (move_words site.byte_word)))
      ∙ (list_any-append may_raise (move_words site.byte_word) (words_of (exit_lines site.after)) ∙ rw (local_quiet (move_words site.byte_word) (move_local site.byte_word)) refl)

  states_quiet : list_any may_raise (words_of states) ≡ false
  states_quiet =
      ap (list_any may_raise) (words_append (map plain (behind_words steps)) moves ∙ ap (λ is. is ++ words_of moves) (row_words_are (behind_words steps)))
      ∙ (list_any-append may_raise (behind_words steps) (words_of moves) ∙ rw (local_quiet (behind_words steps) behind_local, moves_quiet) refl)

  -- nothing that a boundary shows is written before the last check
  free_until : (xs ys : List Line) → list_all is_free (words_of xs) ≡ true → keeps_until may_raise (words_of ys) ≡ true → keeps_until may_raise (words_of (xs ++ ys)) ≡ true
  free_until xs ys free keeps = ap (keeps_until may_raise) (words_append xs ys) ∙ free_keeps may_raise (words_of xs) (words_of ys) free keeps

  pub string_keeps : keeps_until may_raise (words_of lines) ≡ true
  string_keeps =
      free_until front (source_check ++ (destination_check ++ states)) evaluates.1
      (free_until source_check (destination_check ++ states) checks_source.1
      (free_until destination_check states checks_destination.1 (quiet_keeps may_raise (words_of states) states_quiet)))

  pub string_goes : targets lines ≡ site.after ∷ []
  string_goes =
      targets_append front (source_check ++ (destination_check ++ states))
      ∙ (ap (λ xs. xs ++ targets (source_check ++ (destination_check ++ states))) evaluates.0.stays
      ∙ (targets_append (map plain (behind_words steps)) moves
      ∙ (ap (λ xs. xs ++ targets moves) (row_targets (behind_words steps))
      ∙ (targets_append (map plain (move_words site.byte_word)) (exit_lines site.after) ∙ ap (λ xs. xs ++ targets (exit_lines site.after)) (row_targets (move_words site.byte_word))))))

  pub string_writes : (register : ℕ) → writes_register register moved_words ≡ true → writes_register register (words_of lines) ≡ true
  string_writes register e =
      any_behind (λ i. register_written i == register) front (source_check ++ (destination_check ++ states))
      (any_behind (λ i. register_written i == register) source_check (destination_check ++ states)
      (any_behind (λ i. register_written i == register) destination_check states
      (any_before (λ i. register_written i == register) (map plain (behind_words steps)) moves
      (ap (writes_register register) (row_words_are (behind_words steps))
      ∙ (list_any-append (λ i. register_written i == register) (steps_from 6 9 steps) moved_words ∙ either (writes_register register (steps_from 6 9 steps)) (writes_register register moved_words) e)))))
    where
      either : (a b : Bool) → b ≡ true → (a || b) ≡ true
      either true b e = refl
      either false b e = e

  pub string_some : 1 ≤ length lines
  string_some =
      let a = length-append front (source_check ++ (destination_check ++ states)) in
      omega arith

  pub string_short : length lines ≤ 256
  string_short =
      let a = length-append front (source_check ++ (destination_check ++ states)) in
      let b = length-append (map plain (behind_words steps)) moves in
      let c = length-append (map plain (move_words site.byte_word)) (exit_lines site.after) in
      let d = plain_length (behind_words steps) in
      let e = plain_length (move_words site.byte_word) in
      let f = behind_few steps in
      let g = move_few site.byte_word in
      let h = operands_short instr fit in
      let i = evaluates.2 in
      omega arith
