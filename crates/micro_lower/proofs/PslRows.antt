-- MOVPSL does what its instruction does.
use Rattle.std.proofs.Common.{◌≡◌, ℕ, ◌%◌, ◌^◌, ◌<◌, [], refl, ap, ◌∙◌, arith}
use Rattle.vax_form.specs.declared.instr.Instr.{Instr}
use Rattle.vax_form.specs.declared.instr.Size.TheVariants.{Long}
use Rattle.vax_form.specs.declared.operation.Operation.TheVariants as operations
use Rattle.vax_meaning.specs.Evaluation.{operand}
use Rattle.vax_meaning.specs.Instructions.{body}
use Rattle.micro_ops.specs.Sources.{sources_of, from}
use Rattle.micro_ops.specs.Values.{value_from}
use Rattle.micro_ops.specs.declared.codes.CodeSource.TheVariants.{Kept}
use Rattle.micro_ops.specs.declared.program.Exit.TheVariants.{Next}
use Rattle.micro_lower.proofs.Endings.{found_at, results}
use Rattle.micro_lower.proofs.Planned.{AllDo, BodyDoes}
use Rattle.operand_programs.specs.Results.{IsGivable}
use Rattle.micro_lower.specs.Plans.{steps_of}
use Rattle.micro_lower.proofs.Ready.{effect}
use Rattle.std.specs.Prelude.{◌+◌}
use Rattle.micro_lower.proofs.Planned.{only_write}
use Rattle.micro_lower.proofs.Endings.{closes_kept}
use Rattle.vax_meaning.specs.Moves.{move_psl}
use Rattle.micro_lower.specs.Rows.{move_psl_plan}
use Rattle.micro_lower.proofs.JumpRows.{go_end}
use Rattle.micro_lower.proofs.Planned.{only_write}
use Rattle.micro_lower.proofs.StatusRows.{status_is}

with_mode : (psw : ℕ) → psw < 256 → (psw % 4294967296 + 62914560) % 4294967296 ≡ 62914560 + psw
with_mode psw lt = omega (arith, lt)

mode_fits : (psw : ℕ) → psw < 256 → 62914560 + psw < 4294967296
mode_fits psw lt = omega (arith, lt)

pub move_psl_all : (instr : Instr) → IsGivable (operand instr 0) Long → AllDo operations.MovePsl instr (move_psl_plan instr)
unfolding body move_psl sources_of value_from
move_psl_all instr givable state pages thread temps values ok same left =
    let plan = move_psl_plan instr in
    let found = found_at state instr.after in
    let after = effect plan.before found temps in
    let made : after 2 ≡ 62914560 + state.psw = ap (λ n. (n % 2 ^ 32 + 62914560) % 2 ^ 32) (status_is found temps ok.psw) ∙ with_mode state.psw ok.psw in
    only_write values temps (BodyDoes operations.MovePsl instr plan state pages thread temps) Long (operand instr 0) left (λ location at.
    results (from Kept Kept) state pages thread instr.after ok _ (go_end pages instr.after) _ (closes_kept state pages thread instr.after Next instr.after) [] refl (operand instr 0) Long (steps_of plan.slots instr) location
    (62914560 + state.psw) after same at givable made (mode_fits state.psw ok.psw) refl (record { low = tt; goes = refl }))
