-- Reads and writes in parts.
use Rattle.std.proofs.Common.{◌≡◌, ℕ, ◌+◌, ◌-◌, ◌*◌, ◌%◌, ◌^◌, ◌<◌, eqb, ltb, true, false, refl, sym, ap, ◌∙◌, arith, inl, inr, lit<}
use Rattle.std.specs.Prelude.{min, length}
use Rattle.std.proofs.Math.Nat.{min-eq_left, min-eq_right}
use Rattle.std.proofs.lemmas.Bool.{le-ltb, lt-ltb, cases_lt}
use Rattle.std.proofs.lemmas.Bool.Decides.{leb_tells, eqb_tells}
use Rattle.std.proofs.lemmas.Nat.{pow-add, mul-add-lt, mod_below, pow_pos}
use Rattle.std.proofs.lemmas.List.Elements.{All-get_or}
use Rattle.std.proofs.Math.ListN.{get_or-eq_default}
use Rattle.vax_form.specs.Parts.{parts}
use Rattle.vax_form.specs.State.{IsState, register}
use Rattle.vax_form.specs.Tree.{Tree, tree_of}
use Rattle.vax_form.specs.declared.pages.Pages.{Pages}
use Rattle.vax_form.specs.declared.state.VaxState.{VaxState}
use Rattle.vax_meaning.specs.Memory.{read, write}
use Rattle.micro_ops.specs.Course.{Course, read_parts, write_parts}
use Rattle.operand_programs.specs.Pieces.{Agrees}

-- two parts together have no more bits than both have
pub joined_below : (low high front count : ℕ) → front < count → low < 2 ^ (8 * front) → high < 2 ^ (8 * (count - front)) → low + high * 2 ^ (8 * front) < 2 ^ (8 * count)
joined_below low high front count lt is_low is_high =
    let all : 8 * front + 8 * (count - front) ≡ 8 * count = omega arith in
    let product : 2 ^ (8 * count) ≡ 2 ^ (8 * front) * 2 ^ (8 * (count - front)) = ap (λ n. 2 ^ n) (sym all) ∙ pow-add 2 (8 * front) (8 * (count - front)) in
    let sum : high * 2 ^ (8 * front) + low < 2 ^ (8 * front) * 2 ^ (8 * (count - front)) = mul-add-lt high (2 ^ (8 * front)) low (2 ^ (8 * (count - front))) is_high is_low in
    omega (arith, product, sum)

zero_test : (count : ℕ) → 0 < count → eqb count 0 ≡ false
zero_test count some = elim (eqb_tells count 0) [ inl is ↦ absurd (omega (arith, some, is.1)) | inr not ↦ not.0 ]

-- reading the parts is reading the operand
pub reads_agree : {A : Type 0} (P : A → Type 0) (end : A → Tree) (pages : Pages) (address count : ℕ) (state : VaxState) (on : ℕ → Course A) (rest : ℕ → VaxState → Tree)
    → 0 < count → ((value : ℕ) → value < 2 ^ (8 * count) → Agrees P end (on value) (rest value state))
    → Agrees P end (read_parts (parts address count) on) (tree_of pages (read address count) state rest)
unfolding read
reads_agree P end pages address count state on rest some given =
    let none : eqb count 0 ≡ false = zero_test count some in
    elim (leb_tells count (8 - address % 8)) [
      | inl within ↦ (let whole : min count (8 - address % 8) ≡ count = min-eq_left within.1 in
          let rest_none : ltb count count ≡ false = le-ltb count count (omega arith) in
          rw (none, within.0, whole, rest_none) (refl, λ reply answers. given (reply % 2 ^ (8 * count)) (mod_below reply (2 ^ (8 * count)) (pow_pos (8 * count)))))
      | inr beyond ↦ (let front : min count (8 - address % 8) ≡ 8 - address % 8 = min-eq_right (omega (arith, beyond.1)) in
          let rest_some : ltb (8 - address % 8) count ≡ true = lt-ltb (8 - address % 8) count beyond.1 in
          rw (none, beyond.0, front, rest_some) (
            refl,
            λ reply answers. (
              refl,
              λ second answered. given (reply % 2 ^ (8 * (8 - address % 8)) + second % 2 ^ (8 * (count - (8 - address % 8))) * 2 ^ (8 * (8 - address % 8)))
                  (joined_below _ _ (8 - address % 8) count beyond.1 (mod_below reply _ (pow_pos (8 * (8 - address % 8)))) (mod_below second _ (pow_pos (8 * (count - (8 - address % 8)))))),
            ),
          ))
    ]

-- writing the parts is writing the operand
pub writes_agree : {A : Type 0} (P : A → Type 0) (end : A → Tree) (pages : Pages) (address count value : ℕ) (state : VaxState) (on : Course A) (rest : Unit {0} → VaxState → Tree)
    → 0 < count → Agrees P end on (rest tt state)
    → Agrees P end (write_parts (parts address count) value on) (tree_of pages (write address count value) state rest)
unfolding write
writes_agree P end pages address count value state on rest some given =
    let none : eqb count 0 ≡ false = zero_test count some in
    elim (leb_tells count (8 - address % 8)) [
      | inl within ↦ (let whole : min count (8 - address % 8) ≡ count = min-eq_left within.1 in
          let rest_none : ltb count count ≡ false = le-ltb count count (omega arith) in
          rw (none, within.0, whole, rest_none) (refl, λ reply answers. given))
      | inr beyond ↦ (let front : min count (8 - address % 8) ≡ 8 - address % 8 = min-eq_right (omega (arith, beyond.1)) in
          let rest_some : ltb (8 - address % 8) count ≡ true = lt-ltb (8 - address % 8) count beyond.1 in
          rw (none, beyond.0, front, rest_some) (refl, λ reply answers. (refl, λ second answered. given)))
    ]

-- a register has a longword
pub register_below : (state : VaxState) → IsState state → (number : ℕ) → register number state < 2 ^ 32
register_below state ok number = elim (cases_lt number (length state.r)) [
  | inl has ↦ All-get_or (λ value. value < 2 ^ 32) state.r number 0 has ok.longwords
  | inr past ↦ rw (get_or-eq_default state.r 0 past) (lit< tt)
]
