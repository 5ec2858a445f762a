-- What is asked of the words of a block one by one.
use Rattle.std.specs.Prelude.{◌≡◌, ℕ, ◌≤◌, ◌==◌, ◌&&◌, ◌||◌, not, nat_lt, nat_le, Bool, true, false, List, [], ◌∷◌, length, Option, Some, None, if◌then◌else◌}
use Rattle.std.specs.List.{list_any}
use Rattle.vax_form.specs.declared.state.Flags.{Flags}
use Rattle.alpha_encode.specs.declared.instr.AlphaInstr.{AlphaInstr}
use Rattle.alpha_encode.specs.declared.instr.AlphaInstr.TheVariants.{Memory, Branch, Operate, Jump, Pal}
use Rattle.alpha_encode.specs.Calls.{PROBE, SERVE, RAISE, INTERPRET}
use Rattle.alpha_encode.specs.Registers.{NEGATIVE, IS_ZERO, OVERFLOW, CARRY, TEMPORARIES, RULE_FIRST, ZERO}
use Rattle.alpha_meaning.specs.declared.access.AlphaKind.{AlphaKind}
use Rattle.alpha_meaning.specs.declared.access.AlphaKind.TheVariants.{Load, LoadLocked, Store, StoreConditional}
use Rattle.alpha_meaning.specs.Memory.{kind_of}
use Rattle.alpha_meaning.specs.Act.{links}

-- R0 to R20 and R28 to R30 hold what a boundary shows
abbrev pub is_kept : (register : ℕ) → Bool
is_kept register = nat_lt register TEMPORARIES || (nat_le RULE_FIRST register && nat_lt register ZERO)

-- a store writes no register; an instruction of the memory format that makes no access writes its address
abbrev pub memory_writes : Option AlphaKind → (ra : ℕ) → ℕ
memory_writes None ra = ra
memory_writes (Some Load) ra = ra
memory_writes (Some LoadLocked) ra = ra
memory_writes (Some Store) ra = ZERO
memory_writes (Some StoreConditional) ra = ra

-- the register that an instruction writes, or 31: R31 is not written. A service may write R0
abbrev pub register_written : AlphaInstr → ℕ
register_written (Memory op ra rb disp) = memory_writes (kind_of op) ra
register_written (Branch op ra disp) = if links op then ra else ZERO
register_written (Operate op ra rb rc) = rc
register_written (Jump ra rb) = ra
register_written (Pal number) = if number == SERVE then 0 else ZERO

-- the instruction makes an access, of some kind
abbrev pub is_access : Option AlphaKind → Bool
is_access None = false
is_access (Some kind) = true

-- a probe or an exception
abbrev pub may_raise : AlphaInstr → Bool
may_raise (Memory op ra rb disp) = false
may_raise (Branch op ra disp) = false
may_raise (Operate op ra rb rc) = false
may_raise (Jump ra rb) = false
may_raise (Pal number) = number == PROBE || number == RAISE

-- a load, a store, a probe or an exception
abbrev pub may_fault : AlphaInstr → Bool
may_fault (Memory op ra rb disp) = is_access (kind_of op)
may_fault (Branch op ra disp) = false
may_fault (Operate op ra rb rc) = false
may_fault (Jump ra rb) = false
may_fault (Pal number) = may_raise (Pal number)

-- no kept register is written before the last such word
abbrev pub keeps_until : (is_such : AlphaInstr → Bool) → List AlphaInstr → Bool
keeps_until is_such [] = true
keeps_until is_such (i ∷ is) = not (is_kept (register_written i) && list_any is_such is) && keeps_until is_such is

-- the words up to which kept registers stay: those that may fault, and in a block with a loop, which is kept in R0 to
-- R5, those that may raise something
abbrev pub keeps_to : (loops : Bool) → AlphaInstr → Bool
keeps_to true = may_raise
keeps_to false = may_fault

-- a call that has the interpreter do the block's instruction
abbrev pub interprets : AlphaInstr → Bool
interprets (Pal number) = number == INTERPRET
interprets i = false

-- how many words a block may have
abbrev pub block_words : ℕ
block_words = 256

-- a block has words, not too many, none of which leaves its instruction to the interpreter
pub record IsTidy (loops : Bool) (words : List AlphaInstr) : Type 0 where
  pub some : 1 ≤ length words
  pub few : length words ≤ block_words
  pub keeps : keeps_until (keeps_to loops) words ≡ true
  pub translated : list_any interprets words ≡ false

-- some word writes the register
abbrev pub writes_register : (register : ℕ) → List AlphaInstr → Bool
writes_register register words = list_any (λ i. register_written i == register) words

-- the codes whose registers, R16 to R19, some word writes
abbrev pub codes_written : List AlphaInstr → Flags
codes_written words = record { n = writes_register NEGATIVE words; z = writes_register IS_ZERO words; v = writes_register OVERFLOW words; c = writes_register CARRY words }
