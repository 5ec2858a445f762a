-- Operands that name the registers R0 to R14 alone. A program may read and commit no other.
use Rattle.std.specs.Prelude.{ℕ, ◌<◌, List, Option, Some, None}
use Rattle.vax_form.specs.Grammar.{HasRegister, Specifies}
use Rattle.vax_form.specs.declared.instr.Access.{Access}
use Rattle.vax_form.specs.declared.instr.Base.{Base}
use Rattle.vax_form.specs.declared.instr.Base.TheVariants.{Deferred, Decrement, Increment, IncrementDeferred, Offset, Fixed}
use Rattle.vax_form.specs.declared.instr.Operand.{Operand}
use Rattle.vax_form.specs.declared.instr.Operand.TheVariants.{Register, Place}
use Rattle.vax_form.specs.declared.instr.Size.{Size}

abbrev pub BaseIsNamed : Base → Type 0
BaseIsNamed (Deferred n) = n < 15
BaseIsNamed (Decrement n) = n < 15
BaseIsNamed (Increment n) = n < 15
BaseIsNamed (IncrementDeferred n) = n < 15
BaseIsNamed (Offset n offset deferred) = n < 15
BaseIsNamed (Fixed address deferred) = Unit {0}

abbrev pub IndexIsNamed : Option ℕ → Type 0
IndexIsNamed None = Unit {0}
IndexIsNamed (Some x) = x < 15

-- a quadword takes two registers
abbrev pub NamesRegisters : Operand → Size → Type 0
NamesRegisters (Register n) size = HasRegister size n
NamesRegisters (Place base index) size = BaseIsNamed base × IndexIsNamed index
NamesRegisters operand size = Unit {0}

-- an operand does that some bytes specify
abbrev pub SpecifiedIsNamed : Type 0
SpecifiedIsNamed = (access : Access) (size : Size) (at : ℕ) (bytes : List ℕ) (operand : Operand) → Specifies access size at bytes operand → NamesRegisters operand size
