-- Why an instruction is not lowered.
use Rattle.std.specs.Prelude.{ℕ, Option, Some, None}
use Rattle.micro_lower.specs.declared.lowering.LowerFault.{LowerFault}
use Rattle.micro_lower.specs.declared.lowering.LowerFault.TheVariants.{NotTranslated, WantOfMemory}

-- the number of a refusal; want of memory has none
abbrev pub number_of : LowerFault → Option ℕ
number_of NotTranslated = Some 1
number_of WantOfMemory = None
