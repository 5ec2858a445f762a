-- Where an instruction ends, by where its program leaves.
use Rattle.std.specs.Prelude.{◌≡◌, ℕ, Bool, true, false, List, Some}
use Rattle.std.specs.List.{list_any}
use Rattle.vax_form.specs.Operation.{operation_at}
use Rattle.vax_form.specs.State.{IsState, Answers}
use Rattle.vax_form.specs.Tree.{Tree, Check, Ask, Fault, Ends, Finish, Exit, Trap}
use Rattle.vax_form.specs.declared.instr.Instr.{Instr}
use Rattle.vax_form.specs.declared.operation.Operation.{Operation}
use Rattle.vax_form.specs.declared.pages.Pages.{Pages}
use Rattle.vax_form.specs.declared.state.VaxState.{VaxState}
use Rattle.vax_meaning.specs.Instructions.{tree_for}
use Rattle.micro_ops.specs.Exits.{leaves_computed}
use Rattle.micro_ops.specs.declared.program.Exit.TheVariants.{Service}
use Rattle.micro_ops.specs.declared.program.Micro.{Micro}
use Rattle.micro_ops.specs.declared.program.Micro.TheVariants.{Leave}
use Rattle.micro_lower.specs.Lowering.{GoesTo, IsLowered}

-- wherever the instruction is done, or traps, for all replies that can be given, it goes on at such an address
abbrev pub EndsAt : (ℕ → Type 0) → Tree → Type 0
EndsAt P (Check address count write tree) = EndsAt P tree
EndsAt P (Ask reference on) = (reply : ℕ) → Answers reference reply → EndsAt P (on reply)
EndsAt P (Fault exception) = Unit {0}
EndsAt P (Ends (Finish state)) = P state.pc
EndsAt P (Ends (Trap kind state)) = P state.pc
EndsAt P (Ends (Exit state)) = Unit {0}

-- the program asks for a service
abbrev pub leaves_for_service : Micro → Bool
leaves_for_service (Leave (Service temp)) = true
leaves_for_service operation = false

-- where its program computes no address and asks for no service, the instruction ends behind itself or, where it may jump, at
-- one of its fixed targets
abbrev pub EndsWhereItGoes : Type 0
EndsWhereItGoes = (instr : Instr) (operation : Operation) (program : List Micro) → operation_at instr.opcode ≡ Some operation → IsLowered instr program
    → list_any leaves_computed program ≡ false → list_any leaves_for_service program ≡ false
    → (state : VaxState) (pages : Pages) (thread : ℕ) → IsState state → EndsAt (GoesTo instr) (tree_for state instr pages thread)
