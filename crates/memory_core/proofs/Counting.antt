-- Numbers that are kept in place of a count without bound.
use Rattle.std.proofs.Common.{◌≡◌, ℕ, zero, suc, ◌<◌, ◌+◌, ◌%◌, ◌==◌, ◌&&◌, Bool, true, false, not, if◌then◌else◌, min, nat_lt, nat_le, List, refl, sym, ap, ◌∙◌, arith}
use Rattle.std.proofs.Math.Nat.{suc-mod, mod-lt, mod-eq_of_lt, mod_self}
use Rattle.std.proofs.lemmas.Bool.{eqb-true, eq-eqb}
use Rattle.std.proofs.lemmas.Bool.Decides.{nat_tests}
use Rattle.memory_core.specs.declared.entry.Entry.{Entry}
use Rattle.memory_core.specs.declared.entry.Kind.{Kind}
use Rattle.memory_core.specs.declared.entry.SetUp.{SetUp}
use Rattle.memory_core.specs.declared.reservation.Reservation.{Reservation}
use Rattle.memory_core.specs.Fields.{IsKept, next_taken}
use Rattle.memory_core.specs.Kinds.{is_conditional}
use Rattle.memory_core.specs.Order.{block_of, reserved, strikes, succeeds, tries}
use Rattle.memory_core.specs.Reservations.{holds, next_tries, counted_tries}

-- ---- store conditionals, modulo the miss number

below : (k x : ℕ) → x < suc k → (b : Bool) → nat_lt (suc x) (suc k) ≡ b → (if b then suc x else 0) ≡ suc x % suc k
below k x l true h = sym (mod-eq_of_lt (grind (arith, nat_tests)))
below k x l false h = let same : x ≡ k = grind (arith, nat_tests) in rw same (sym (mod_self (suc k)))

counted_is : (k n : ℕ) → counted_tries (suc k) n ≡ n % suc k
counted_is k zero = sym (mod-eq_of_lt (omega arith))
counted_is k (suc n) =
    let few : n % suc k < suc k = mod-lt n (omega arith) in
    ap (next_tries (suc k)) (counted_is k n)
    ∙ below k (n % suc k) few (nat_lt (suc (n % suc k)) (suc k)) refl
    ∙ sym (suc-mod n (suc k))

-- the miss rule strikes by what is counted as by how many there were
pub strikes_by_counted : (miss n : ℕ) → strikes miss (suc (counted_tries miss n)) ≡ strikes miss (suc n)
strikes_by_counted zero n = refl
strikes_by_counted (suc k) n =
    ap (λ (t : ℕ). not (suc k == 0) && (t == 0)) (ap (λ (c : ℕ). suc c % suc k) (counted_is k n) ∙ sym (suc-mod n (suc k)))

-- ---- bytes of input, of which some are behind

taken_step : (behind count all gets taken : ℕ) → all ≡ behind + count → behind + taken ≡ min gets (suc all) → (b : Bool) → nat_le taken count ≡ b
    → behind + (if b then suc taken else taken) ≡ min (suc gets) (suc all)
taken_step behind count all gets taken long is true h = grind (arith, nat_tests)
taken_step behind count all gets taken long is false h = grind (arith, nat_tests)

pub taken_more : (behind count all gets taken : ℕ) → all ≡ behind + count → behind + taken ≡ min gets (suc all) → behind + next_taken count taken ≡ min (suc gets) (suc all)
taken_more behind count all gets taken long is = taken_step behind count all gets taken long is (nat_le taken count) refl

-- a GET found each byte, and none found the end, where just so many were taken
all_taken_step : (behind count all gets taken : ℕ) → all ≡ behind + count → behind + taken ≡ min gets (suc all) → (b : Bool) → (taken == count) ≡ b → b ≡ (gets == all)
all_taken_step behind count all gets taken long is true h =
    let same : taken ≡ count = eqb-true taken count h in
    let all_read : gets ≡ all = grind (arith, nat_tests) in
    sym (eq-eqb gets all all_read)
all_taken_step behind count all gets taken long is false h = grind (arith, nat_tests)

pub all_taken : (behind count all gets taken : ℕ) → all ≡ behind + count → behind + taken ≡ min gets (suc all) → (taken == count) ≡ (gets == all)
all_taken behind count all gets taken long is = all_taken_step behind count all gets taken long is (taken == count) refl

-- ---- whether a store conditional succeeds

pub succeeds_by : (set_up : SetUp) (past : List Entry) (p : ℕ) (kind : Kind) (quad : ℕ) (r : Reservation) → IsKept set_up.miss past p r → is_conditional kind ≡ true
    → (holds r.block (block_of quad) && not (strikes set_up.miss (suc r.tries))) ≡ succeeds set_up past p kind quad
succeeds_by set_up past p kind quad r k is =
    ap (λ (b : Bool). b && not (strikes set_up.miss (suc r.tries))) (sym (k.block (block_of quad)))
    ∙ ap (λ (n : ℕ). reserved past p (block_of quad) && not (strikes set_up.miss (suc n))) (sym k.tries)
    ∙ ap (λ (b : Bool). reserved past p (block_of quad) && not b) (strikes_by_counted set_up.miss (tries past p))
    ∙ ap (λ (b : Bool). if b then reserved past p (block_of quad) && not (strikes set_up.miss (suc (tries past p))) else true) (sym is)
