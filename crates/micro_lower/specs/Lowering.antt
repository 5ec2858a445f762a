-- What a lowered program has to meet: it does what the instruction does, the temporaries hold what its condition codes
-- come from where it leaves, it fits a block, it reads no other code and goes nowhere else than the instruction, and it
-- writes as many bytes as the operand has that the instruction writes.
use Rattle.std.specs.Prelude.{◌≡◌, ◌↔◌, ◌⊎◌, ◌<◌, ◌==◌, ℕ, Bool, true, false, is_none, All, List, Some, nat_eq, if◌then◌else◌}
use Rattle.std.specs.List.{list_all, list_any}
use Rattle.vax_form.specs.Operation.{operation_at}
use Rattle.vax_form.specs.Row.{class_at}
use Rattle.vax_form.specs.State.{IsState}
use Rattle.vax_form.specs.Targets.{fixed_targets, jump_target}
use Rattle.vax_form.specs.Tree.{Same}
use Rattle.vax_form.specs.Written.{written_bytes}
use Rattle.vax_form.specs.declared.instr.Instr.{Instr}
use Rattle.vax_form.specs.declared.operation.Operation.{Operation}
use Rattle.vax_form.specs.declared.operation.Operation.TheVariants.{Jump, JumpToSubroutine, ReturnFromSubroutine}
use Rattle.vax_form.specs.declared.row.Class.TheVariants.{Translated}
use Rattle.vax_form.specs.declared.pages.Pages.{Pages}
use Rattle.vax_form.specs.declared.state.Flags.{Flags}
use Rattle.vax_form.specs.declared.state.VaxState.{VaxState}
use Rattle.vax_meaning.specs.Evaluation.{operand}
use Rattle.vax_meaning.specs.Instructions.{tree_for}
use Rattle.cc_liveness.specs.Uses.{use_of}
use Rattle.micro_ops.specs.Exits.{addresses_of, leaves_computed}
use Rattle.micro_ops.specs.Fits.{fits}
use Rattle.micro_ops.specs.Leaving.{CodesAgree}
use Rattle.micro_ops.specs.Meaning.{program_tree}
use Rattle.micro_ops.specs.Sources.{sources_of}
use Rattle.micro_ops.specs.Uses.{has_bytes, reads_flag}
use Rattle.micro_ops.specs.declared.codes.CodeSources.{CodeSources}
use Rattle.micro_ops.specs.declared.program.Micro.{Micro}
use Rattle.operand_programs.specs.Pieces.{service, IsLongOperand}
use Rattle.micro_lower.specs.Rows.{has_program, program_for}

-- the program does what the instruction does, from every state
abbrev pub Means : Instr → List Micro → Type 0
Means instr program = (state : VaxState) (pages : Pages) (thread : ℕ) → IsState state
    → Same (program_tree (service pages thread) program state instr.after) (tree_for state instr pages thread)

-- from every state, the codes come from there wherever the program leaves
abbrev pub Holds : CodeSources → Instr → List Micro → Type 0
Holds sources instr program = (state : VaxState) → IsState state → CodesAgree sources program state instr.after

-- the program is one for the instruction, which does that operation
pub record Lowers (operation : Operation) (instr : Instr) (program : List Micro) : Type 0 where
  pub means : Means instr program
  pub holds : Holds (sources_of operation) instr program
  pub fits : fits (sources_of operation) program ≡ true

-- the addresses in the operands of an instruction with at most four are longwords
abbrev pub AreLongOperands : Instr → Type 0
AreLongOperands instr = IsLongOperand (operand instr 0) × IsLongOperand (operand instr 1) × IsLongOperand (operand instr 2) × IsLongOperand (operand instr 3)

-- ---- the codes that a program reads, and where it leaves
-- the code of a flag is in the set
abbrev pub holds_flag : (flag : ℕ) → Flags → Bool
holds_flag flag set = if flag == 0 then set.n else if flag == 1 then set.z else if flag == 2 then set.v else set.c

-- control goes on behind the instruction, or where that may jump to one of its fixed targets
abbrev pub GoesTo : Instr → (address : ℕ) → Type 0
GoesTo instr address = (address ≡ instr.after) ⊎ (((use_of instr).ends ≡ true) × (list_any (nat_eq address) (fixed_targets instr) ≡ true))

-- only running it tells where RSB goes, and JMP and JSB whose address the code doesn't fix
abbrev pub computes_address : Operation → Instr → Bool
computes_address ReturnFromSubroutine instr = true
computes_address Jump instr = is_none (jump_target instr Jump)
computes_address JumpToSubroutine instr = is_none (jump_target instr JumpToSubroutine)
computes_address _ instr = false

pub record KeepsTo (instr : Instr) (program : List Micro) : Type 0 where
  -- it reads no other codes than the instruction
  pub reads : (flag : ℕ) → flag < 4 → list_any (reads_flag flag) program ≡ true → holds_flag flag (use_of instr).reads ≡ true
  -- it leaves to where the instruction goes on
  pub exits : All (GoesTo instr) (addresses_of instr.after program)
  -- it leaves to an address that it computes only where the instruction may jump
  pub computed : list_any leaves_computed program ≡ true → (use_of instr).ends ≡ true
  -- and it does so just where only running the instruction tells where it goes
  pub computes : (operation : Operation) → operation_at instr.opcode ≡ Some operation → list_any leaves_computed program ≡ computes_address operation instr

-- ---- what a program writes
-- each has as many bytes as the one operand that the instruction's operation writes
abbrev pub WritesOperand : Instr → List Micro → Type 0
WritesOperand instr program = (operation : Operation) → operation_at instr.opcode ≡ Some operation → list_all (has_bytes (written_bytes operation)) program ≡ true

-- so does the program of every instruction
abbrev pub ProgramsWriteOperands : Type 0
ProgramsWriteOperands = (instr : Instr) (program : List Micro) → program_for instr ≡ Some program → WritesOperand instr program

-- ---- the program of an instruction
pub record IsLowered (instr : Instr) (program : List Micro) : Type 0 where
  pub lowers : (operation : Operation) → operation_at instr.opcode ≡ Some operation → Lowers operation instr program
  pub keeps : KeepsTo instr program

-- what has a program is just what is translated
abbrev pub ProgramsAreTranslated : Type 0
ProgramsAreTranslated = (instr : Instr) → (has_program instr ≡ true) ↔ (class_at instr.opcode ≡ Translated)
