-- ADAWI does what its instruction does.
use Rattle.std.proofs.Common.{◌≡◌, ℕ, ◌+◌, ◌%◌, ◌^◌, ◌<◌, ◌==◌, true, false, List, [], ◌∷◌, ◌++◌, length, Option, Some, refl, sym, ap, ◌∙◌, subst, arith, lit<, lit≤, append_assoc, append-nil}
use Rattle.std.proofs.Math.Nat.{mod-eq_of_lt}
use Rattle.std.proofs.lemmas.Nat.{and_mask, mod_below}
use Rattle.vax_form.specs.Operation.{operation_at}
use Rattle.vax_form.specs.Row.{filled}
use Rattle.vax_form.specs.State.{IsState, register}
use Rattle.vax_form.specs.Tree.{Tree, tree_of, ends_with}
use Rattle.vax_form.specs.Tree as trees
use Rattle.vax_form.specs.declared.instr.Access.TheVariants.{Read, Write, Modify}
use Rattle.vax_form.specs.declared.instr.Base.{Base}
use Rattle.vax_form.specs.declared.instr.Instr.{Instr}
use Rattle.vax_form.specs.declared.instr.Operand.{Operand}
use Rattle.vax_form.specs.declared.instr.Operand.TheVariants as operands
use Rattle.vax_form.specs.declared.instr.Size.TheVariants.{Byte, Word}
use Rattle.vax_form.specs.declared.operation.Operation.TheVariants as operations
use Rattle.vax_form.specs.declared.pages.Pages.{Pages}
use Rattle.vax_form.specs.declared.state.RefKind.TheVariants as references
use Rattle.vax_form.specs.declared.state.VaxState.{VaxState}
use Rattle.vax_meaning.specs.Arithmetic.{add_aligned_word, add_aligned, leave_aligned}
use Rattle.vax_meaning.specs.Evaluation.{nothing, operand, evaluated_row, find, obtain}
use Rattle.vax_meaning.specs.Instructions.{operation_script, body}
use Rattle.vax_meaning.specs.Operands.{locate}
use Rattle.vax_meaning.specs.declared.evaluation.Evaluated.{Evaluated}
use Rattle.vax_meaning.specs.declared.operands.Location.{Location}
use Rattle.vax_meaning.specs.declared.operands.Location.TheVariants.{InMemory, InRegister}
use Rattle.vt_words.specs.Arithmetic.{sum_of}
use Rattle.vt_words.specs.declared.arithmetic.Coded.{Coded}
use Rattle.micro_ops.specs.Leaving.{CodesComeFrom}
use Rattle.micro_ops.specs.Meaning.{Temps, Found, with_temp, course_of, started}
use Rattle.micro_ops.specs.Sources.{sources_of, from}
use Rattle.micro_ops.specs.Values.{value_from}
use Rattle.micro_ops.specs.declared.codes.CodeSource.TheVariants.{Add}
use Rattle.micro_ops.specs.declared.codes.CodeSources.{CodeSources}
use Rattle.micro_ops.specs.declared.program.Arg.TheVariants.{Temp, Const}
use Rattle.micro_ops.specs.declared.program.Exit.TheVariants.{Next}
use Rattle.micro_ops.specs.declared.program.LockedOp.TheVariants.{AddWord}
use Rattle.micro_ops.specs.declared.program.Micro.{Micro}
use Rattle.micro_ops.specs.declared.program.Micro.TheVariants.{Compute, Probe, Locked, Leave}
use Rattle.micro_ops.specs.declared.program.MicroOp.TheVariants as ops
use Rattle.operand_programs.specs.InOrder.{AreOperandsOf, IsOutside, KeptByAll, evaluate_all, operands_program, steps_behind_all, no_steps}
use Rattle.operand_programs.specs.Operands.{IsPlaced, operand_program}
use Rattle.operand_programs.specs.Pieces.{Agrees, leaving}
use Rattle.operand_programs.specs.Specifiers.{stepped, commit_program, register_program}
use Rattle.operand_programs.specs.declared.operands.Specifier.{Specifier}
use Rattle.operand_programs.proofs.Ordered.{in_order, of_instruction, all_steps_length}
use Rattle.operand_programs.proofs.Reading.{register_agrees}
use Rattle.operand_programs.proofs.Stepped.{nothing_added}
use Rattle.micro_lower.specs.Plans.{Plan, steps_of, codes_program, rest_program, program_of}
use Rattle.micro_lower.specs.Rows.{word_added, add_aligned_plan_for}
use Rattle.micro_lower.proofs.Endings.{found_at, with, DoesSo, nowhere, closes_coded}
use Rattle.micro_lower.proofs.Given.{carry_is, coded_end_of, replaces_as}
use Rattle.micro_lower.proofs.Plain.{Does}
use Rattle.micro_lower.proofs.Planned.{AllDo, BodyDoes, only_read, read_and_write, specifier, value, place}
use Rattle.micro_lower.proofs.PswRows.{refuses}
use Rattle.micro_lower.proofs.Ready.{effect, IsSum}
use Rattle.micro_lower.proofs.BitValues.{last_bit}

-- ---- the sum
plain_sum : (x y : ℕ) → x < 65536 → y < 65536 → (x % 65536 + y % 65536) % 65536 ≡ (x + y + 0) % 65536
plain_sum x y lt lt' = omega (arith, lt, lt')

abbrev word_sum : (x y : ℕ) → Coded
word_sum x y = sum_of 2 x y false

sums : (found : Found) (temps : Temps) (x y : ℕ) → temps 0 ≡ x → temps 1 ≡ y → x < 2 ^ 16 → y < 2 ^ 16 → IsSum Word (effect (word_added ∷ []) found temps) (word_sum x y)
unfolding value_from sum_of
sums found temps x y zero one lt lt' =
    (tt, (rw zero lt, rw one lt'), rw (zero, one) (plain_sum x y lt lt'), rw (zero, one) refl)

sum_below : (x y : ℕ) → (word_sum x y).value < 2 ^ 16
unfolding sum_of
sum_below x y = mod_below (x + y + 0) (2 ^ 16) (lit< tt)

-- ---- in memory
module _ (instr : Instr) (state : VaxState) (pages : Pages) (thread : ℕ) (temps : Temps) (ok : IsState state) (fits : temps 1 < 2 ^ 16) (base : Base) (index : Option ℕ) where
  abbrev memory_plan : Plan
  memory_plan = add_aligned_plan_for (operands.Place base index) instr

  abbrev close : List Micro
  close = codes_program (from (Add Word) (Add Word)) ++ Leave Next ∷ []

  memory_body : length (steps_of memory_plan.slots instr) ≡ length state.r
      → BodyDoes operations.AddAlignedWord instr memory_plan state pages thread temps (value (temps 1) ∷ place (InMemory (temps 3)) ∷ [])
  unfolding body add_aligned_word add_aligned leave_aligned sources_of value_from
  memory_body same =
      let steps = steps_of memory_plan.slots instr in
      let found = found_at state instr.after in
      let after = effect (Compute 4 ops.And Byte (Temp 3) (Const 1) ∷ []) found temps in
      let y = temps 1 % 2 ^ 16 in
      let one : temps 1 ≡ y = sym (mod-eq_of_lt fits) in
      let ended : ℕ → Tree = λ reply. coded_end_of pages (word_sum (reply % 2 ^ 16) y) instr.after (stepped steps state) in
      refuses (from (Add Word) (Add Word)) state pages thread instr.after 4 (temps 3 % 2 == 1) (Probe 3 2 true ∷ Locked 0 3 AddWord 1 ∷ word_added ∷ (commit_program 0 steps ++ close)) after
      (trees.Check (temps 3) 2 true (trees.Ask (record { address = temps 3; count = 2; kind = references.Add y }) ended))
      (and_mask (temps 3 % 256) 1 ∙ last_bit (temps 3) ∙ carry_is (temps 3))
      (λ even. (
        refl,
        refl,
        refl,
        (
          refl,
          λ reply answers.
              let x = reply % 2 ^ 16 in
              let temps' = with_temp 0 x after in
              let coded = word_sum x y in
              nowhere (from (Add Word) (Add Word)) state pages thread instr.after ok close (coded_end_of pages coded instr.after) _
              (closes_coded (Add Word) (Add Word) state pages thread instr.after coded Next instr.after (coded_end_of pages coded instr.after) (λ s e. refl)) (word_added ∷ []) refl steps temps' same
              (record { low = tt; goes = refl; ready = (refl, sums found temps' x y refl one (mod_below reply (2 ^ 16) (lit< tt)) (mod_below (temps 1) (2 ^ 16) (lit< tt))) }),
        ),
      ))

pub memory_all : (instr : Instr) (base : Base) (index : Option ℕ) → operand instr 1 ≡ operands.Place base index → AllDo operations.AddAlignedWord instr (add_aligned_plan_for (operands.Place base index) instr)
memory_all instr base index is state pages thread temps values ok same left =
    let plan = add_aligned_plan_for (operands.Place base index) instr in
    read_and_write values temps (BodyDoes operations.AddAlignedWord instr plan state pages thread temps) Word (operand instr 0) 1 2 Word (operands.Place base index)
    (subst (λ (o : Operand). Rattle.operand_programs.specs.InOrder.AreLeft (specifier Read Word (operand instr 0) 1 2 ∷ specifier Write Word o 2 3 ∷ []) values temps) is left) (λ location fits at.
    subst (λ (l : Location). BodyDoes operations.AddAlignedWord instr plan state pages thread temps (value (temps 1) ∷ place l ∷ [])) (sym at.0) (memory_body instr state pages thread temps ok fits base index same))

-- ---- in a register
module _ (instr : Instr) (n : ℕ) (is : operation_at instr.opcode ≡ Some operations.AddAlignedWord) (in_register : operand instr 1 ≡ operands.Register n) where
  abbrev plan_here : Plan
  plan_here = add_aligned_plan_for (operands.Register n) instr

  abbrev first_operand : Specifier
  first_operand = specifier Read Word (operand instr 0) 1 2

  abbrev steps_here : List ℕ
  steps_here = steps_behind_all (first_operand ∷ []) no_steps

  abbrev reading : List Micro
  reading = register_program n Word steps_here 0

  abbrev sum_codes : CodeSources
  sum_codes = from (Add Word) (Add Word)

  abbrev register_rest : List Micro
  register_rest = rest_program sum_codes plan_here steps_here

  abbrev ending_at : Pages → (thread : ℕ) → List Evaluated → VaxState → Tree
  ending_at pages thread values after = tree_of pages (body operations.AddAlignedWord instr thread (filled nothing 6 values)) after ends_with

  again : (x : ℕ) → x % 2 ^ 16 % 2 ^ 16 ≡ x % 2 ^ 16
  again x = omega arith

  register_body : (state : VaxState) (pages : Pages) (thread : ℕ) (temps : Temps) → IsState state → length steps_here ≡ length state.r → temps 1 < 2 ^ 16
      → DoesSo sum_codes state pages thread instr.after (reading ++ register_rest) (with state temps) (ending_at pages thread (value (temps 1) ∷ place (InRegister n) ∷ []) (stepped steps_here state))
  unfolding body add_aligned_word add_aligned leave_aligned value_from
  register_body state pages thread temps ok same fits =
      let found = found_at state instr.after in
      let x = register n (stepped steps_here state) % 2 ^ 16 in
      let y = temps 1 % 2 ^ 16 in
      let coded = word_sum x y in
      let tree = ending_at pages thread (value (temps 1) ∷ place (InRegister n) ∷ []) (stepped steps_here state) in
      register_agrees (CodesComeFrom sum_codes state) (leaving pages thread) register_rest found (with state temps) 0 2 n Word steps_here tree same refl
      (λ temps' zero kept.
      let zero' : temps' 0 ≡ x = zero ∙ again (register n (stepped steps_here state)) in
      let one : temps' 1 ≡ y = kept 1 refl refl refl ∙ sym (mod-eq_of_lt fits) in
      let after = effect (word_added ∷ []) found temps' in
      let ready = sums found temps' x y zero' one (mod_below _ (2 ^ 16) (lit< tt)) (mod_below (temps 1) (2 ^ 16) (lit< tt)) in
      replaces_as (Add Word) (Add Word) state pages thread instr.after ok Word (operands.Register n) steps_here same (InRegister n) coded after [] refl
      refl tt ready.2 (sum_below x y) refl (refl, ready) Next tt instr.after refl (coded_end_of pages coded instr.after) (λ s e. refl))

  abbrev modified_operands : Operand → List Specifier
  modified_operands o = first_operand ∷ specifier Modify Word o 0 3 ∷ []

  abbrev written_operands : Operand → List Specifier
  written_operands o = first_operand ∷ specifier Write Word o 2 3 ∷ []

  joined_programs : operands_program (modified_operands (operands.Register n)) no_steps ++ register_rest ≡ operands_program (first_operand ∷ []) no_steps ++ (reading ++ register_rest)
  joined_programs =
      let first = operand_program first_operand no_steps in
      ap (λ (p : List Micro). (first ++ p) ++ register_rest) (append-nil reading) ∙ append_assoc first reading register_rest ∙ ap (λ (p : List Micro). p ++ (reading ++ register_rest)) (sym (append-nil first))

  pub register_does : IsPlaced first_operand → AreOperandsOf (written_operands (operand instr 1)) (evaluated_row operations.AddAlignedWord) instr
      → Does sum_codes instr (program_of sum_codes plan_here instr)
  unfolding operation_script find obtain locate
  register_does placed are state pages thread ok =
      let found = found_at state instr.after in
      let k = ending_at pages thread in
      let behind : List Evaluated → VaxState → Tree = λ values after. k (values ++ place (InRegister n) ∷ []) after in
      let P = CodesComeFrom sum_codes state in
      let end = leaving pages thread in
      let Goal : Operand → Type 0 = λ o. Agrees P end (course_of (operands_program (modified_operands o) no_steps ++ rest_program sum_codes plan_here (steps_behind_all (modified_operands o) no_steps)) found (started state))
      (tree_of pages (evaluate_all (written_operands o)) state k) in
      let same : length steps_here ≡ length state.r = all_steps_length (first_operand ∷ []) no_steps ∙ sym ok.registers in
      let first : Agrees P end (course_of (operands_program (first_operand ∷ []) no_steps ++ (reading ++ register_rest)) found (started state)) (tree_of pages (evaluate_all (first_operand ∷ [])) state behind) =
      subst (λ (s : VaxState). Agrees P end (course_of (operands_program (first_operand ∷ []) no_steps ++ (reading ++ register_rest)) found (started state)) (tree_of pages (evaluate_all (first_operand ∷ [])) s behind)) (nothing_added state ok)
      (in_order (first_operand ∷ []) no_steps (placed, tt, tt) sum_codes state pages thread (reading ++ register_rest) found (started state) behind (sym ok.registers)
      (λ values temps left kept.
      only_read values temps (λ (values : List Evaluated). DoesSo sum_codes state pages thread instr.after (reading ++ register_rest) (with state temps) (behind values (stepped steps_here state))) Word (operand instr 0) 1 2 left
      (λ fits. register_body state pages thread temps ok same fits))) in
      let there : Goal (operands.Register n) = subst (λ (p : List Micro). Agrees P end (course_of p found (started state)) (tree_of pages (evaluate_all (first_operand ∷ [])) state behind)) (sym joined_programs) first in
      let plain : List Evaluated → VaxState → Tree = λ values after. tree_of pages (body operations.AddAlignedWord instr thread values) after ends_with in
      rw (is, of_instruction (written_operands (operand instr 1)) (evaluated_row operations.AddAlignedWord) instr pages state plain (lit≤ tt) are) (subst Goal (sym in_register) there)
