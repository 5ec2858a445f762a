-- The condition codes that are live behind each instruction of a run.
use Rattle.std.proofs.Common.{◌≡◌, [], ◌∷◌, true, false, refl}
use Rattle.std.specs.Prelude.{map}
use Rattle.vax_form.specs.Codes.{codes}
use Rattle.vax_form.specs.declared.instr.Size.TheVariants as sizes
use Rattle.vax_form.specs.declared.instr.Width.TheVariants.{Long}
use Rattle.vax_form.specs.declared.operation.Condition.TheVariants.{Equal}
use Rattle.vax_form.specs.declared.operation.BinaryOperation.TheVariants.{Add}
use Rattle.vax_form.specs.declared.operation.Operation.TheVariants as op
use Rattle.cc_liveness.specs.Liveness.{live_codes}
use Rattle.cc_liveness.specs.Uses.{code_use_of, tested_by, written_by_binary}

row1 : live_codes (map code_use_of ((op.TwoOperands Add Long) ∷ (op.Move sizes.Long) ∷ (op.Compare Long) ∷ (op.BranchIf Equal) ∷ [])) ≡ (codes false false false false) ∷ (codes false false false false) ∷ (codes true true true true) ∷ (codes true true true true) ∷ []
unfolding code_use_of tested_by written_by_binary
row1 = refl

row2 : live_codes (map code_use_of ((op.TwoOperands Add Long) ∷ (op.Move sizes.Long) ∷ op.AddWithCarry ∷ (op.Move sizes.Long) ∷ [])) ≡ (codes false false false true) ∷ (codes false false false true) ∷ (codes false false false true) ∷ (codes true true true true) ∷ []
unfolding code_use_of tested_by written_by_binary
row2 = refl

row3 : live_codes (map code_use_of ((op.TwoOperands Add Long) ∷ (op.TwoOperands Add Long) ∷ op.MovePsl ∷ (op.Test Long) ∷ op.NoOperation ∷ [])) ≡ (codes false false false false) ∷ (codes true true true true) ∷ (codes false false false false) ∷ (codes true true true true) ∷ (codes true true true true) ∷ []
unfolding code_use_of tested_by written_by_binary
row3 = refl

row4 : live_codes (map code_use_of ((op.Compare Long) ∷ (op.SubtractOneBranch false) ∷ (op.TwoOperands Add Long) ∷ [])) ≡ (codes false false false true) ∷ (codes true true true true) ∷ (codes true true true true) ∷ []
unfolding code_use_of tested_by written_by_binary
row4 = refl

row5 : live_codes (map code_use_of (op.BitSetPsw ∷ (op.Move sizes.Long) ∷ op.AddWithCarry ∷ [])) ≡ (codes false false false true) ∷ (codes false false false true) ∷ (codes true true true true) ∷ []
unfolding code_use_of tested_by written_by_binary
row5 = refl
