-- Memory, byte by byte.
use Rattle.std.proofs.Common.{◌≡◌, ℕ, suc, ◌<◌, ◌≤◌, ◌+◌, ◌-◌, ◌*◌, ◌/◌, ◌%◌, ◌^◌, ◌==◌, Bool, true, false, Option, Some, if◌then◌else◌, cond, refl, sym, ap, ◌∙◌, arith, lit<}
use Rattle.std.specs.Prelude.{unwrap_or}
use Rattle.std.specs.BTreeMap.{BTreeMap, get, is_at}
use Rattle.std.specs.Ordering.{nat_cmp}
use Rattle.std.proofs.Math.Nat.{pow-le-pow_right}
use Rattle.std.proofs.Math.Path.{fun_ext}
use Rattle.std.proofs.lemmas.Bool.Decides.{nat_tests}
use Rattle.vax_meaning.specs.References.{with_byte, with_value}

stored : (b : Bool) (value : ℕ) (old : Option ℕ) (first : ℕ) → unwrap_or (cond b (Some value) old) first ≡ (if b then value else unwrap_or old first)
stored true value old first = refl
stored false value old first = refl

compared : (address at : ℕ) → is_at (nat_cmp address) at ≡ (at == address)
compared address at = grind (arith, nat_tests)

-- a map with one more byte, over the first bytes
pub byte_stored : (first : ℕ → ℕ) (old new : BTreeMap ℕ ℕ) (address value : ℕ)
    → ((at : ℕ) → get nat_cmp new at ≡ cond (is_at (nat_cmp address) at) (Some value) (get nat_cmp old at))
    → (λ (at : ℕ). unwrap_or (get nat_cmp new at) (first at)) ≡ with_byte (λ (at : ℕ). unwrap_or (get nat_cmp old at) (first at)) address value
byte_stored first old new address value updates =
    fun_ext (λ at. ap (λ o. unwrap_or o (first at)) (updates at)
    ∙ stored (is_at (nat_cmp address) at) value (get nat_cmp old at) (first at)
    ∙ ap (λ (b : Bool). if b then value else unwrap_or (get nat_cmp old at) (first at)) (compared address at))

pub value_fits : (value read b : ℕ) → value < 256 ^ read → read ≤ 7 → b < 256 → 256 * value + b < 2 ^ 64
value_fits value read b small few byte =
    let most : 256 ^ read ≤ 256 ^ 7 = pow-le-pow_right (lit< tt) few in
    let e : 256 ^ 7 ≡ 2 ^ 56 = refl in
    omega arith

-- the lowest byte of a number stored, and then the rest of it
pub store_more : (before after : ℕ → ℕ) (address count place rest : ℕ) → place < count
    → after ≡ with_byte before ((address + place) % 2 ^ 32) (rest % 256)
    → with_value before (address + place) (count - place) rest ≡ with_value after (address + (place + 1)) (count - (place + 1)) (rest / 256)
store_more before after address count place rest below is =
    let e : count - place ≡ suc (count - (place + 1)) = omega arith in
    let f : address + place + 1 ≡ address + (place + 1) = omega arith in
    ap (λ k. with_value before (address + place) k rest) e
    ∙ ap (λ b. with_value b (address + place + 1) (count - (place + 1)) (rest / 256)) (sym is)
    ∙ ap (λ a. with_value after a (count - (place + 1)) (rest / 256)) f
