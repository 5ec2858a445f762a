-- The words of the block of MOVC3 as they are pushed, one part behind the other.
use Rattle.std.proofs.Common.{◌≡◌, ℕ, suc, ◌+◌, ◌-◌, ◌<◌, sym, ap, ◌∙◌, arith, List, [], ◌∷◌, ◌++◌, append_assoc}
use Rattle.micro_ops.specs.declared.program.Micro.{Micro}
use Rattle.operand_programs.specs.InOrder.{no_steps, operands_program, steps_behind_all}
use Rattle.operand_programs.specs.Operands.{operand_program, steps_behind_specifier}
use Rattle.operand_programs.specs.declared.operands.Specifier.{Specifier}
use Rattle.std.specs.Prelude.{slice_index}
use Rattle.std.proofs.lemmas.List.{append-nil}
use Rattle.alpha_encode.specs.declared.instr.AlphaInstr.{AlphaInstr}
use Rattle.program_codegen.specs.Strings.{step_words, steps_from}

-- the steps of the registers from 6 on: those of so many are pushed, and the others stand behind
pub step_pushed : (words whole : List AlphaInstr) (steps : List ℕ) (done : ℕ) → done < 9 → words ++ steps_from (6 + done) (9 - done) steps ≡ whole
    → (words ++ step_words (6 + done) (slice_index steps (6 + done))) ++ steps_from (6 + (done + 1)) (9 - (done + 1)) steps ≡ whole
step_pushed words whole steps done lt all =
    let left : 9 - done ≡ suc (9 - (done + 1)) = omega arith in
    let next : 6 + (done + 1) ≡ 6 + done + 1 = omega arith in
    append_assoc words (step_words (6 + done) (slice_index steps (6 + done))) (steps_from (6 + (done + 1)) (9 - (done + 1)) steps)
    ∙ (ap (λ (n : ℕ). words ++ (step_words (6 + done) (slice_index steps (6 + done)) ++ steps_from n (9 - (done + 1)) steps)) next
    ∙ (ap (λ (n : ℕ). words ++ steps_from (6 + done) n steps) (sym left) ∙ all))

-- ---- operands
-- one behind the other, each with what it adds to the steps
pub operands_pushed : (first second third : Specifier) (p0 p1 p2 p3 : List Micro) (s0 s1 s2 s3 : List ℕ) → p0 ≡ [] → s0 ≡ no_steps
    → p1 ≡ p0 ++ operand_program first s0 → s1 ≡ steps_behind_specifier first s0
    → p2 ≡ p1 ++ operand_program second s1 → s2 ≡ steps_behind_specifier second s1
    → p3 ≡ p2 ++ operand_program third s2 → s3 ≡ steps_behind_specifier third s2
    → (p3 ≡ operands_program (first ∷ second ∷ third ∷ []) no_steps) × (s3 ≡ steps_behind_all (first ∷ second ∷ third ∷ []) no_steps)
operands_pushed first second third p0 p1 p2 p3 s0 s1 s2 s3 none still program1 steps1 program2 steps2 program3 steps3 =
    let in_1 : s1 ≡ steps_behind_specifier first no_steps = steps1 ∙ ap (steps_behind_specifier first) still in
    let in_2 : s2 ≡ steps_behind_specifier second (steps_behind_specifier first no_steps) = steps2 ∙ ap (steps_behind_specifier second) in_1 in
    let here : p1 ≡ operand_program first no_steps = program1 ∙ (ap (λ (p : List Micro). p ++ operand_program first s0) none ∙ ap (operand_program first) still) in (
      program3
          ∙ (ap (λ (p : List Micro). p ++ operand_program third s2) (program2 ∙ (ap (λ (p : List Micro). p ++ operand_program second s1) here ∙ ap (λ (s : List ℕ). operand_program first no_steps ++ operand_program second s) in_1))
          ∙ (ap (λ (s : List ℕ). (operand_program first no_steps ++ operand_program second (steps_behind_specifier first no_steps)) ++ operand_program third s) in_2
          ∙ (append_assoc (operand_program first no_steps) (operand_program second (steps_behind_specifier first no_steps)) (operand_program third (steps_behind_specifier second (steps_behind_specifier first no_steps)))
          ∙ ap (λ (p : List Micro). operand_program first no_steps ++ (operand_program second (steps_behind_specifier first no_steps) ++ p))
          (sym (append-nil (operand_program third (steps_behind_specifier second (steps_behind_specifier first no_steps)))))))),
      steps3 ∙ ap (steps_behind_specifier third) in_2,
    )
