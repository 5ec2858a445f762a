-- What an instruction does to a processor, what it asks of memory, and what a finished access leaves.
use Rattle.std.specs.Prelude.{ℕ, ℤ, Bool, true, false, ◌+◌, ◌*◌, ◌/◌, ◌%◌, ◌^◌, ◌==◌, ◌||◌, not, nat_lt, nat_le, if◌then◌else◌, Option, Some, None}
use Rattle.std.specs.Int.{cast_unsigned, w32}
use Rattle.alpha_encode.specs.declared.instr.MemoryOp.{MemoryOp}
use Rattle.alpha_encode.specs.declared.instr.BranchOp.{BranchOp}
use Rattle.alpha_encode.specs.declared.instr.BranchOp.TheVariants as row
use Rattle.alpha_encode.specs.declared.instr.Second.{Second}
use Rattle.alpha_encode.specs.declared.instr.Second.TheVariants.{Register, Literal}
use Rattle.alpha_encode.specs.declared.instr.AlphaInstr.{AlphaInstr}
use Rattle.alpha_encode.specs.declared.instr.AlphaInstr.TheVariants.{Memory, Branch, Operate, Jump, Pal}
use Rattle.alpha_meaning.specs.declared.access.AlphaKind.{AlphaKind}
use Rattle.alpha_meaning.specs.declared.access.AlphaKind.TheVariants.{Load, LoadLocked, Store, StoreConditional}
use Rattle.alpha_meaning.specs.declared.access.AlphaAccess.{AlphaAccess}
use Rattle.alpha_meaning.specs.State.{Alpha, Regs, put}
use Rattle.alpha_meaning.specs.Result.{result_of, one_if}
use Rattle.alpha_meaning.specs.Memory.{kind_of, bytes_of, extension_of, address_of, access_of, extended}

-- an instruction is done, or asks for an access, or calls a PALcode entry
pub data Does : Type 0 where
  Goes : Alpha → Does
  Asks : AlphaAccess → Does
  Calls : ℕ → Does

-- the next word, with a register written
abbrev pub writes : (n value : ℕ) → Alpha → Alpha
writes n value s = record { regs = put s.regs n value; pc = s.pc + 1 }

-- 4.2 "Memory Integer Load/Store Instructions": the address goes into Ra, or an access is asked for
abbrev pub memory_act_by : Option AlphaKind → MemoryOp → (ra rb : ℕ) (disp : ℤ) → Alpha → Does
memory_act_by None op ra rb disp s = Goes (writes ra (address_of op (s.regs rb) disp) s)
memory_act_by (Some kind) op ra rb disp s = Asks (access_of op kind (address_of op (s.regs rb) disp) (s.regs ra))

abbrev pub memory_act : MemoryOp → (ra rb : ℕ) (disp : ℤ) → Alpha → Does
memory_act op ra rb disp s = memory_act_by (kind_of op) op ra rb disp s

-- 4.3 "Control Instructions", Conditional Branch and Unconditional Branch: whether it is taken for this value of Ra
abbrev pub taken : BranchOp → ℕ → Bool
taken row.Br a = true
taken row.Bsr a = true
taken row.Blbc a = a % 2 == 0
taken row.Beq a = a == 0
taken row.Blt a = nat_le (2 ^ 63) a
taken row.Ble a = a == 0 || nat_le (2 ^ 63) a
taken row.Blbs a = a % 2 == 1
taken row.Bne a = not (a == 0)
taken row.Bge a = nat_lt a (2 ^ 63)
taken row.Bgt a = not (a == 0 || nat_le (2 ^ 63) a)

-- the address of the next word, in bytes; there are 2^32 words
abbrev pub link_of : (pc : ℕ) → ℕ
link_of pc = 4 * ((pc + 1) % 2 ^ 32)

-- Unconditional Branch: the address of the next word goes into Ra
abbrev pub links : BranchOp → Bool
links row.Br = true
links row.Bsr = true
links op = false

-- the displacement counts words from the next one, modulo 2^32 words
abbrev pub target_of : (pc : ℕ) (disp : ℤ) → ℕ
target_of pc disp = (pc + 1 + cast_unsigned w32 disp) % 2 ^ 32

abbrev pub branch_act : BranchOp → (ra : ℕ) (disp : ℤ) → Alpha → Does
branch_act op ra disp s = Goes (record {
  regs = if links op then put s.regs ra (link_of s.pc) else s.regs;
  pc = if taken op (s.regs ra) then target_of s.pc disp else s.pc + 1;
})

-- Rbv, or the literal
abbrev pub second_value : Second → Regs → ℕ
second_value (Register n) regs = regs n
second_value (Literal n) regs = n

-- Operate: 4.4 to 4.6. JMP: 4.3 "Jumps", to Rbv with its low two bits dropped. CALL_PAL: 4.11 "Miscellaneous Instructions"
abbrev pub act : AlphaInstr → Alpha → Does
act (Memory op ra rb disp) s = memory_act op ra rb disp s
act (Branch op ra disp) s = branch_act op ra disp s
act (Operate op ra rb rc) s = Goes (writes rc (result_of op (s.regs ra) (second_value rb s.regs) (s.regs rc)) s)
act (Jump ra rb) s = Goes (record { regs = put s.regs ra (link_of s.pc); pc = s.regs rb / 4 % 2 ^ 32 })
act (Pal n) s = Calls n

-- 4.2: a load fills Ra, a store conditional leaves 1 or 0 in it, a store leaves it
abbrev pub memory_finish_by : Option AlphaKind → MemoryOp → (ra value : ℕ) (success : Bool) → Alpha → Alpha
memory_finish_by None op ra value success s = s
memory_finish_by (Some Load) op ra value success s = writes ra (extended (extension_of op) (bytes_of op) value) s
memory_finish_by (Some LoadLocked) op ra value success s = writes ra (extended (extension_of op) (bytes_of op) value) s
memory_finish_by (Some Store) op ra value success s = record s { pc = s.pc + 1 }
memory_finish_by (Some StoreConditional) op ra value success s = writes ra (one_if success) s

abbrev pub memory_finish : MemoryOp → (ra value : ℕ) (success : Bool) → Alpha → Alpha
memory_finish op ra value success s = memory_finish_by (kind_of op) op ra value success s

-- what an access leaves, for its bytes as a number and whether it succeeded; only the memory format asks for one
abbrev pub finished : AlphaInstr → (value : ℕ) (success : Bool) → Alpha → Alpha
finished (Memory op ra rb disp) value success s = memory_finish op ra value success s
finished (Branch op ra disp) value success s = s
finished (Operate op ra rb rc) value success s = s
finished (Jump ra rb) value success s = s
finished (Pal n) value success s = s
