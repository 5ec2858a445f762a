-- The opcodes and functions of the instructions: the manual's table, read both ways.
-- Alpha Architecture Reference Manual, appendix "Instruction Summary": a row for each instruction.
use Rattle.std.specs.Prelude.{ℕ, Bool, ◌==◌, ◌&&◌, ◌/◌, ◌%◌, ◌^◌, List, Option}
use Rattle.std.specs.List.{find}
use Rattle.std.specs.Map.{lookup}
use Rattle.std.specs.Option.{option_map, unwrap_or}
use Rattle.alpha_encode.specs.declared.instr.MemoryOp.{MemoryOp}
use Rattle.alpha_encode.specs.declared.instr.BranchOp.{BranchOp}
use Rattle.alpha_encode.specs.declared.instr.OperateOp.{OperateOp}
use Rattle.alpha_encode.specs.Table.{memory_rows, branch_rows, operate_rows}
-- `==` of the code
use Rattle.alpha_encode.specs.contracts.instr.MemoryOpPartialEq.TheImpl.{ghosts as memory_op}
use Rattle.alpha_encode.specs.contracts.instr.BranchOpPartialEq.TheImpl.{ghosts as branch_op}
use Rattle.alpha_encode.specs.contracts.instr.OperateOpPartialEq.TheImpl.{ghosts as operate_op}

-- the instruction of the row with this code
abbrev pub row_at : {A : Type 0} → List (ℕ × A) → ℕ → Option A
row_at rows code = lookup (λ k. k == code) rows

-- the code of the row with this instruction
abbrev pub code_of : {A : Type 0} → (A → A → Bool) → List (ℕ × A) → A → ℕ
code_of same rows op = unwrap_or (option_map (λ row. row.0) (find (λ row. same row.1 op) rows)) 0

-- memory format: the opcode
abbrev pub memory_opcode : MemoryOp → ℕ
memory_opcode op = code_of memory_op.eq memory_rows op

abbrev pub memory_at : ℕ → Option MemoryOp
memory_at opcode = row_at memory_rows opcode

-- branch format: the opcode
abbrev pub branch_opcode : BranchOp → ℕ
branch_opcode op = code_of branch_op.eq branch_rows op

abbrev pub branch_at : ℕ → Option BranchOp
branch_at opcode = row_at branch_rows opcode

-- operate format: the opcode in bits 15:8 of the code, and the function in 7:0
abbrev pub operate_code : OperateOp → ℕ × ℕ
operate_code op = let code = code_of operate_op.eq operate_rows op in (code / 2 ^ 8, code % 2 ^ 8)

abbrev pub operate_at : ℕ → ℕ → Option OperateOp
operate_at opcode function = lookup (λ code. code / 2 ^ 8 == opcode && code % 2 ^ 8 == function) operate_rows
