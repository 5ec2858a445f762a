-- By which accesses to memory code for each of the processors may make the references of an instruction, and which blocks have a loop.
use Rattle.std.specs.Prelude.{ℕ, ◌%◌, ◌==◌, ◌&&◌, ◌||◌, Bool, true, false, Option, Some, None, if◌then◌else◌}
use Rattle.vax_form.specs.Operation.{operation_at}
use Rattle.vax_form.specs.Pages.{code_byte_at}
use Rattle.vax_form.specs.Written.{written_bytes}
use Rattle.vax_form.specs.declared.operation.LongOperation.TheVariants.{MoveCharacters}
use Rattle.vax_form.specs.declared.operation.Operation.{Operation}
use Rattle.vax_form.specs.declared.operation.Operation.TheVariants as operations
use Rattle.vax_form.specs.declared.pages.Pages.{Pages}
use Rattle.vax_form.specs.declared.state.Reference.{Reference}
use Rattle.vax_form.specs.declared.state.RefKind.{RefKind}
use Rattle.vax_form.specs.declared.state.RefKind.TheVariants.{Write}
use Rattle.alpha_meaning.specs.declared.access.AlphaKind.TheVariants.{Store}
use Rattle.alpha_meaning.specs.Pieces.{Kinds}
use Rattle.block_law.specs.Rounds.{block_steps}
use Rattle.block_law.specs.Sound.{AllowsFew}
use Rattle.block_law.specs.Translations.{Code, Meaning, Meets, Permit}
use Rattle.image_meaning.specs.declared.target.Target.{Target}
use Rattle.image_meaning.specs.declared.target.Target.TheVariants.{Original, ByteWord}

-- ---- loops
-- MOVC3 moves its bytes in a loop: each access that counts allows the steps of a block
abbrev pub bonus_of_operation : Option Operation → ℕ
bonus_of_operation (Some (operations.Long MoveCharacters)) = block_steps
bonus_of_operation operation = 0

abbrev pub bonus_by : (opcode : Option ℕ) → ℕ
bonus_by None = 0
bonus_by (Some opcode) = bonus_of_operation (operation_at opcode)

-- how many steps more an access of the instruction at an address allows, which its opcode tells
abbrev pub loop_bonus : Pages → (address : ℕ) → ℕ
loop_bonus pages address = bonus_by (code_byte_at pages address)

-- ---- kinds of accesses
-- any access, for every reference
abbrev pub any_kinds : (address : ℕ) → Reference → Kinds
any_kinds address reference kind bytes = true

-- Alpha Architecture Reference Manual, 4.2 "Memory Integer Load/Store Instructions": without the byte-word extension they
-- access longwords and quadwords alone
abbrev pub whole_kinds : (address : ℕ) → Reference → Kinds
whole_kinds address reference kind bytes = bytes == 4 || bytes == 8

-- ---- the byte-word extension
-- how many bytes the operand has that an operation writes otherwise than interlocked; 0 where there is none
abbrev pub bytes_of_operation : Option Operation → ℕ
bytes_of_operation None = 0
bytes_of_operation (Some operation) = written_bytes operation

abbrev pub bytes_by : (opcode : Option ℕ) → ℕ
bytes_by None = 0
bytes_by (Some opcode) = bytes_of_operation (operation_at opcode)

-- those of the instruction at an address, which its opcode tells
abbrev pub bytes_written : Pages → (address : ℕ) → ℕ
bytes_written pages address = bytes_by (code_byte_at pages address)

abbrev pub is_write : RefKind → Bool
is_write (Write value) = true
is_write kind = false

-- the reference writes a whole operand of so many bytes: one byte, or an aligned word
abbrev pub is_whole : (bytes : ℕ) → Reference → Bool
is_whole bytes reference =
    is_write reference.kind && reference.count == bytes && (bytes == 1 || bytes == 2) && reference.address % bytes == 0

-- one store of just so many bytes
abbrev pub by_store : (bytes : ℕ) → Kinds
by_store count Store bytes = bytes == count
by_store count kind bytes = false

-- Alpha Architecture Reference Manual, 4.2 "Store Integer Register Data into Memory": a whole operand is stored so, and every other reference is made
-- by any access
abbrev pub byte_word_kinds : Pages → (address : ℕ) → Reference → Kinds
byte_word_kinds pages address reference =
    if is_whole (bytes_written pages address) reference then by_store reference.count else any_kinds address reference

abbrev pub kinds_of : Target → Pages → (address : ℕ) → Reference → Kinds
kinds_of Original pages = whole_kinds
kinds_of ByteWord pages = byte_word_kinds pages

-- what the block of the instruction at an address may do on these processors
abbrev pub permit_of : Target → Pages → Permit
permit_of target pages = record { kinds = kinds_of target pages; bonus = loop_bonus pages }

-- and on any
abbrev pub any_permit : Pages → Permit
any_permit pages = record { kinds = any_kinds; bonus = loop_bonus pages }

-- ---- laws
abbrev pub PermitsAllowFew : Type 0
PermitsAllowFew = (target : Target) (pages : Pages) → AllowsFew (permit_of target pages)

abbrev pub AnyPermitAllowsFew : Type 0
AnyPermitAllowsFew = (pages : Pages) → AllowsFew (any_permit pages)

-- code for these processors does what it may on any
abbrev pub MeetsAnyPermit : Type 0
MeetsAnyPermit = (meaning : Meaning) (target : Target) (pages : Pages) (code : Code) → Meets meaning (permit_of target pages) code → Meets meaning (any_permit pages) code
