-- What no instruction may do that stays in range, and what may not be said of the codes that instructions use.
use Rattle.std.proofs.Common.{◌≡◌, ℕ, ◌%◌, if◌then◌else◌, true, false, [], ◌∷◌, replicate, refl, sym, ap, ◌∙◌, arith}
use Rattle.vax_form.specs.Pages.{is_allowed}
use Rattle.vax_form.specs.Ranges.{IsInRange}
use Rattle.vax_form.specs.Script.{Script, ◌>>=◌, ◌>>◌, pure}
use Rattle.vax_form.specs.Tree.{instruction_tree}
use Rattle.vax_form.specs.declared.pages.Pages.{Pages}
use Rattle.vax_form.specs.declared.script.End.{End}
use Rattle.vax_form.specs.declared.script.End.TheVariants.{Done}
use Rattle.vax_form.specs.declared.state.RefKind.TheVariants.{Add, Write}
use Rattle.vax_form.specs.declared.state.Reference.{Reference}
use Rattle.vax_form.specs.declared.state.VaxState.{VaxState}
use Rattle.vax_form.specs.Operation.{bit_opcodes, control_opcodes, integer_opcodes, mixed_opcodes, move_opcodes, operation_at}
use Rattle.vax_form.specs.declared.instr.Instr.{Instr}
use Rattle.vax_form.specs.declared.instr.Operand.{Operand}
use Rattle.vax_form.specs.declared.instr.Operand.TheVariants.{Unused, Value, Register, Target}
use Rattle.vax_form.specs.declared.operation.Condition.TheVariants.{CarrySet}
use Rattle.vax_form.specs.declared.operation.Operation.{Operation}
use Rattle.vax_form.specs.declared.operation.Operation.TheVariants as operations
use Rattle.vax_form.specs.declared.state.Pending.TheVariants.{Nothing}
use Rattle.cc_liveness.specs.declared.uses.CodeUse.{CodeUse}
use Rattle.vax_form.specs.Codes.{negative, zero_code, overflow, carry, none, all}
use Rattle.cc_liveness.specs.Uses.{goes_on, may_jump, code_use_of}
use Rattle.image_meaning.specs.CodeUses.{SameButCodes, AgreeOn, AreUsedAs}
use Rattle.vax_form.specs.Row.{operands_of}
use Rattle.vax_long.specs.Instructions.{long_operation}
use Rattle.vax_meaning.specs.Instructions.{operation_script, body}
use Rattle.vax_meaning.specs.Evaluation.{evaluated_row, operands_from, find, read_found, obtain}
use Rattle.vax_meaning.specs.Operands.{locate, store, put}
use Rattle.vax_meaning.specs.Moves.{give}
use Rattle.vax_meaning.specs.Branches.{branch_if, holds}
use Rattle.vax_meaning.specs.Memory.{check, write_part, lock}
use Rattle.vax_long.specs.Registers.{below}
use Rattle.alpha_meaning.specs.declared.access.AlphaKind.TheVariants.{Store, StoreConditional}
use Rattle.alpha_meaning.specs.Pieces.{Kinds}
use Rattle.block_law.specs.Translations.{Permit}
use Rattle.image_meaning.specs.Permits.{any_kinds, by_store, bytes_written, is_whole, permit_of}
use Rattle.vax_form.specs.Written.{written_bytes}
use Rattle.image_meaning.specs.declared.target.Target.TheVariants.{ByteWord}

-- page 1 is read-only and page 2 may be written
abbrev two_pages : Pages
two_pages = record {
  ranges = record { first = 1; count = 1; writable = false; place = 0 } ∷ record { first = 2; count = 1; writable = true; place = 0 } ∷ [];
  code = [];
}

-- check an operand for reading that is then written
abbrev modified : Script End
modified = do
  check 512 1 false
  write_part 512 1 0
  pure Done

checked_for_reading : (state : VaxState) → IsInRange two_pages (instruction_tree two_pages modified state) → ⊥
checked_for_reading state h = let may : is_allowed two_pages 512 true ≡ true = ((h refl).0).allowed in absurd (cc may)

-- check a push one longword above its place
abbrev pushed : (top : ℕ) → Script End
pushed top = do
  check top 4 true
  write_part (below top) 4 0
  pure Done

checked_above : (state : VaxState) → IsInRange two_pages (instruction_tree two_pages (pushed 1024) state) → ⊥
checked_above state h = let may : is_allowed two_pages 1020 true ≡ true = ((h refl).0).allowed in absurd (cc may)

-- check one byte less of a string than is moved to it: the last two bytes of page 2, and one more
abbrev moved : Script End
moved = do
  check 1534 2 true
  write_part 1534 1 0
  write_part 1535 1 0
  write_part 1536 1 0
  pure Done

checked_short : (state : VaxState) → IsInRange two_pages (instruction_tree two_pages moved state) → ⊥
checked_short state h = let may : is_allowed two_pages 1536 true ≡ true = (((((h refl).1 0 refl).1 0 refl)).0).allowed in absurd (cc may)

-- add to a word at an odd address
abbrev added : Script End
added = do
  check 1025 2 true
  _ ← lock 1025 2 (Add 1)
  pure Done

odd_word : (state : VaxState) → IsInRange two_pages (instruction_tree two_pages added state) → ⊥
odd_word state h = let even : 1025 % 2 ≡ 0 = (((h refl).0).value).0 in absurd (omega (arith, even))

-- check with write intent behind a write
abbrev written : Script End
written = do
  check 1024 1 true
  write_part 1024 1 0
  check 1025 1 true
  pure Done

checked_late : (state : VaxState) → IsInRange two_pages (instruction_tree two_pages written state) → ⊥
checked_late state h = let none : true ≡ false = ((h refl).2 refl 0 refl).0 in absurd (cc none)

-- ---- condition codes
-- C is set in the other of two states
abbrev state_with : (psw : ℕ) → VaxState
state_with psw = record { r = replicate 15 0; pc = 512; psw = psw; handler = 0; pending = Nothing }

abbrev short_form : (opcode : ℕ) → (a b c : Operand) → Instr
short_form opcode a b c = record { at = 512; opcode = opcode; count = 3; operands = a ∷ b ∷ c ∷ Unused ∷ Unused ∷ Unused ∷ []; after = 516 }

carry_alone : SameButCodes (state_with 0) (state_with 1)
carry_alone = record { registers = refl; pc = refl; upper = refl; handler = refl; pending = refl }

none_read : AgreeOn none (state_with 0) (state_with 1)
none_read negative h = refl
none_read zero_code h = refl
none_read overflow h = refl
none_read carry h = absurd (cc h)

-- say that ROTL writes C
abbrev rotate_writes_carry : Operation → CodeUse
rotate_writes_carry operations.Rotate = goes_on none all
rotate_writes_carry operation = code_use_of operation

kept_carry : AreUsedAs rotate_writes_carry → ⊥
unfolding operation_at control_opcodes mixed_opcodes move_opcodes operands_of long_operation operation_script evaluated_row operands_from find locate read_found obtain body give store put
kept_carry said =
    let left = said two_pages 0 (short_form 0x9c (Value 1) (Value 1) (Register 0)) operations.Rotate (state_with 0) (state_with 1) refl carry_alone none_read in
    absurd (cc (left.written carry refl))

-- say that BCS reads no code
abbrev branch_reads_nothing : Operation → CodeUse
branch_reads_nothing (operations.BranchIf condition) = may_jump none none
branch_reads_nothing operation = code_use_of operation

read_carry : AreUsedAs branch_reads_nothing → ⊥
unfolding operation_at control_opcodes operands_of long_operation operation_script evaluated_row operands_from find locate read_found obtain body branch_if holds
read_carry said =
    let left = said two_pages 0 (short_form 0x1f (Target 600) Unused Unused) (operations.BranchIf CarrySet) (state_with 0) (state_with 1) refl carry_alone none_read in
    let pc : 516 ≡ 600 = left.same.pc in absurd (omega (arith, pc))

-- ---- the byte-word extension
-- MOVW at 512
abbrev moves_word : Pages
moves_word = record { ranges = record { first = 1; count = 1; writable = false; place = 0 } ∷ []; code = 0xb0 ∷ [] }

abbrev word_written : (address : ℕ) → Reference
word_written address = record { address = address; count = 2; kind = Write 0 }

two_bytes : bytes_written moves_word 512 ≡ 2
unfolding operation_at integer_opcodes control_opcodes mixed_opcodes move_opcodes bit_opcodes written_bytes
two_bytes = refl

-- how a word may be written by an instruction that writes so many bytes
abbrev kinds_by : (bytes address : ℕ) → Kinds
kinds_by bytes address = if is_whole bytes (word_written address) then by_store 2 else any_kinds 512 (word_written address)

-- at an even address one store makes it
even_word : (permit_of ByteWord moves_word).kinds 512 (word_written 1024) Store 2 ≡ true
even_word = ap (λ bytes. kinds_by bytes 1024 Store 2) two_bytes

-- at an odd address a loop does, and a permit that asks for a store there is another
odd_word_stored : (permit : Permit) → permit.kinds 512 (word_written 1025) StoreConditional 8 ≡ false → permit ≡ permit_of ByteWord moves_word → ⊥
odd_word_stored permit stored same = differ (sym stored ∙ ap (λ (p : Permit). p.kinds 512 (word_written 1025) StoreConditional 8) same ∙ ap (λ bytes. kinds_by bytes 1025 StoreConditional 8) two_bytes)
  where
    differ : false ≡ true → ⊥
    differ e = absurd (cc e)
