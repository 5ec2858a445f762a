-- Each opcode is looked up in turn.
use Rattle.std.proofs.Common.{◌≡◌, ◌<◌, ℕ, zero, suc, Bool, true, false, refl, subst, sym, arith, inl, inr}
use Rattle.std.specs.Prelude.{◌&&◌}
use Rattle.std.specs.Option.{is_some}
use Rattle.std.proofs.lemmas.Bool.{and_parts, cases_eq}
use Rattle.vax_form.specs.Operation.{bit_opcodes, control_opcodes, integer_opcodes, mixed_opcodes, move_opcodes, operation_at}
use Rattle.vax_text.specs.Names.{NamesWhole, byte_names, high_names, is_named, long_names, low_names, name_of, word_names}

abbrev same : Bool → Bool → Bool
same true b = b
same false true = false
same false false = true

same_is : (a b : Bool) → same a b ≡ true → a ≡ b
same_is true true e = refl
same_is true false e = absurd cc
same_is false true e = absurd cc
same_is false false e = refl

all_below : ℕ → Bool
all_below zero = true
all_below (suc k) = same (is_named (name_of k)) (is_some (operation_at k)) && all_below k

all_named : all_below 256 ≡ true
unfolding all_below name_of low_names byte_names word_names long_names high_names operation_at integer_opcodes control_opcodes mixed_opcodes move_opcodes bit_opcodes
all_named = refl

at_one : (n k : ℕ) → all_below n ≡ true → k < n → is_named (name_of k) ≡ is_some (operation_at k)
unfolding all_below
at_one zero k e below = absurd (omega arith)
at_one (suc n) k e below =
    let parts = and_parts (same (is_named (name_of n)) (is_some (operation_at n))) (all_below n) e in
    elim (cases_eq k n) [
      | inl h ↦ subst (λ j. is_named (name_of j) ≡ is_some (operation_at j)) (sym h) (same_is _ _ parts.0)
      | inr h ↦ at_one n k parts.1 (omega arith)
    ]

pub named : NamesWhole
named opcode below = at_one 256 opcode all_named below
