-- The answer of a call that reads an operand specifier.
use Rattle.std.specs.Prelude.{◌≡◌, ◌≤◌, List, length, take, slice_range, ℕ, ◌+◌, ◌*◌, ◌<◌, ◌^◌, Option, Some, None, Result, Ok, Err}
use Rattle.vax_form.specs.Size.{bytes_of}
use Rattle.vax_form.specs.Grammar.{ShowsReservedMode, Specifies}
use Rattle.vax_form.specs.GrammarReading.{Shown, complete, reserved}
use Rattle.vax_form.specs.declared.instr.Access.{Access}
use Rattle.vax_form.specs.declared.instr.Operand.{Operand}
use Rattle.vax_form.specs.declared.instr.Size.{Size}
use Rattle.vax_form.specs.declared.mode.Mode.{Mode}
use Rattle.vax_form.specs.declared.mode.Mode.TheVariants as mode
use Rattle.operand_specifiers.specs.declared.spec.SpecFault.{SpecFault}
use Rattle.operand_specifiers.specs.declared.spec.SpecFault.TheVariants.{Past, ReservedMode}

-- the answer for what was read from a place on
abbrev pub answer_of : ℕ → Option (Shown Operand × ℕ) → Result (Operand × ℕ) SpecFault
answer_of at None = Err Past
answer_of at (Some (reserved, n)) = Err ReservedMode
answer_of at (Some (complete operand, n)) = Ok (operand, at + n)

-- the number behind the first byte fits where the mode reads an address or a displacement
abbrev pub FitsExtension : Mode → ℕ → Type 0
FitsExtension mode.Absolute value = value < 2 ^ 32
FitsExtension (mode.Displacement size is_deferred) value = value < 2 ^ (8 * bytes_of size)
FitsExtension (mode.Relative size is_deferred) value = value < 2 ^ (8 * bytes_of size)
FitsExtension _ value = Unit {0}

-- a number of that size, or 0 where none is read
abbrev pub FitsSize : Option Size → ℕ → Type 0
FitsSize None value = value ≡ 0
FitsSize (Some size) value = value < 2 ^ (8 * bytes_of size)

-- The bytes from one place to another are a specifier of that operand. The first byte of all stands at origin.
pub record IsSpecified (access : Access) (size : Size) (origin : ℕ) (bytes : List ℕ) (at : ℕ) (found : Operand × ℕ) : Type 0 where
  pub in_order : at ≤ found.1
  pub within : found.1 ≤ length bytes
  pub specifies : Specifies access size (origin + at) (slice_range bytes at found.1) found.0

-- some first bytes show a reserved addressing mode
abbrev pub BeginsReserved : Access → Size → List ℕ → Type 0
BeginsReserved access size bytes = (n : ℕ) × ShowsReservedMode access size (take n bytes)

-- no first bytes are a specifier, and none show a reserved addressing mode
pub record IsUndecided (access : Access) (size : Size) (at : ℕ) (bytes : List ℕ) : Type 0 where
  pub unspecified : (n : ℕ) (operand : Operand) → ¬ Specifies access size at (take n bytes) operand
  pub unreserved : (n : ℕ) → ¬ ShowsReservedMode access size (take n bytes)
