-- What the table of opcodes has of each operation.
use Rattle.std.proofs.Common.{◌≡◌, ℕ, Bool, true, false, List, [], ◌∷◌, Option, Some, None, refl, subst}
use Rattle.std.proofs.lemmas.Bool.{and_parts}
use Rattle.std.specs.Option.{option_or}
use Rattle.std.specs.Prelude.{◌==◌, ◌-◌, ◌&&◌, if◌then◌else◌}
use Rattle.vax_form.specs.Operation.{operation_at, among, is_between, integer_opcodes, control_opcodes, mixed_opcodes, move_opcodes, bit_opcodes, other_operation_at}
use Rattle.vax_form.specs.declared.instr.Width.{Width}
use Rattle.vax_form.specs.declared.instr.Width.TheVariants.{Byte, Word, Long}
use Rattle.vax_form.specs.declared.operation.Operation.{Operation}
use Rattle.vax_form.specs.declared.operation.Operation.TheVariants as operations

abbrev pub is_narrower : Width → Width → Bool
is_narrower Byte Word = true
is_narrower Byte Long = true
is_narrower Word Long = true
is_narrower from to = false

-- a zero extension extends
abbrev pub is_tabled : Operation → Bool
is_tabled (operations.MoveZeroExtended from to) = is_narrower from to
is_tabled _ = true

abbrev pub are_tabled : List (ℕ × Operation) → Bool
are_tabled [] = true
are_tabled (row ∷ rows) = is_tabled row.1 && are_tabled rows

abbrev pub Tabled : Option Operation → Type 0
Tabled None = Unit {0}
Tabled (Some found) = is_tabled found ≡ true

either : (b : Bool) (x y : Option Operation) → Tabled x → Tabled y → Tabled (if b then x else y)
either true x y p q = p
either false x y p q = q

among_tabled : (rows : List (ℕ × Operation)) (opcode : ℕ) → are_tabled rows ≡ true → Tabled (among rows opcode)
among_tabled [] opcode all = tt
among_tabled (row ∷ rows) opcode all =
    let p = and_parts (is_tabled row.1) (are_tabled rows) all in
    either (opcode == row.0) (Some row.1) (among rows opcode) p.0 (among_tabled rows opcode p.1)

first_of : (x y : Option Operation) → Tabled x → Tabled y → Tabled (option_or x y)
first_of None y p q = q
first_of (Some found) y p q = p

integers : (width : Width) → are_tabled (integer_opcodes width) ≡ true
unfolding integer_opcodes
integers width = refl

controls : are_tabled control_opcodes ≡ true
unfolding control_opcodes
controls = refl

mixed : are_tabled mixed_opcodes ≡ true
unfolding mixed_opcodes
mixed = refl

moves : are_tabled move_opcodes ≡ true
unfolding move_opcodes
moves = refl

bits : are_tabled bit_opcodes ≡ true
unfolding bit_opcodes
bits = refl

others : (opcode : ℕ) → Tabled (other_operation_at opcode)
others opcode =
    first_of _ _ (first_of _ _ (first_of _ _ (among_tabled control_opcodes opcode controls) (among_tabled mixed_opcodes opcode mixed)) (among_tabled move_opcodes opcode moves))
    (among_tabled bit_opcodes opcode bits)

all_tabled : (opcode : ℕ) → Tabled (operation_at opcode)
unfolding operation_at
all_tabled opcode =
    either (is_between 0x80 0x97 opcode) _ _ (among_tabled (integer_opcodes Byte) (opcode - 0x80) (integers Byte))
    (either (is_between 0xA0 0xB7 opcode) _ _ (among_tabled (integer_opcodes Word) (opcode - 0xA0) (integers Word))
    (either (is_between 0xC0 0xD7 opcode) _ _ (among_tabled (integer_opcodes Long) (opcode - 0xC0) (integers Long)) (others opcode)))

pub is_in_table : (opcode : ℕ) (operation : Operation) → operation_at opcode ≡ Some operation → is_tabled operation ≡ true
is_in_table opcode operation is = subst Tabled is (all_tabled opcode)
