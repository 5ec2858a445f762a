-- The words by which a block is left.
-- Alpha Architecture Reference Manual, 4.3 "Control Instructions". The entry of the PALcode and the
-- registers are this system's own: R26 holds a VAX address, and R27 is free.
use Rattle.std.specs.Prelude.{ℕ, ◌+◌, ◌*◌, ◌^◌, ◌&&◌, nat_lt, nat_le, Bool, true, false, ℤ, pos, ◌-ℤ◌, List, [], ◌∷◌, Option, Some, None}
use Rattle.alpha_encode.specs.Calls.{SWITCH}
use Rattle.alpha_encode.specs.Registers.{TARGET, ADDRESS, ZERO}
use Rattle.alpha_encode.specs.Halves.{load_high, load_low}
use Rattle.alpha_encode.specs.NoOperation.{nop}
use Rattle.alpha_encode.specs.declared.instr.AlphaInstr.{AlphaInstr}
use Rattle.alpha_encode.specs.declared.instr.AlphaInstr.TheVariants.{Branch, Jump, Pal}
use Rattle.alpha_encode.specs.declared.instr.BranchOp.TheVariants.{Br}

-- the displacement of a branch counts from the next word
abbrev pub displacement : (word target : ℕ) → ℤ
displacement word target = pos target -ℤ pos (word + 1)

-- it has 21 bits
abbrev pub is_near : (word target : ℕ) → Bool
is_near word target = nat_le (word + 1) (target + 2 ^ 20) && nat_lt target (word + 1 + 2 ^ 20)

-- a branch, behind which no word is reached, or where the target is too far for one, a jump to four times its word number
abbrev pub code_to : (near : Bool) → (word target : ℕ) → List AlphaInstr
code_to true word target = Branch Br ZERO (displacement word target) ∷ nop ∷ nop ∷ []
code_to false word target = load_high ADDRESS (4 * target) ∷ load_low ADDRESS (4 * target) ∷ Jump ZERO ADDRESS ∷ []

-- the exit that begins at that word and leads to that address: to the first word of its block, or where it has none to
-- the interpreter
abbrev pub exit_code : Option ℕ → (word address : ℕ) → List AlphaInstr
exit_code (Some target) word address = code_to (is_near word target) word target
exit_code None word address = load_high TARGET address ∷ load_low TARGET address ∷ Pal SWITCH ∷ []
