-- Different addresses in read-only pages are at most as many as the bytes of those pages.
use Rattle.std.proofs.Common.{◌≡◌, ◌∙◌, ◌<◌, ◌≤◌, ◌+◌, ◌*◌, ◌/◌, ◌||◌, ℕ, Bool, not, cond, true, false, zero, suc, refl, sym, ap, ap₂, arith, List, [], ◌∷◌, ◌++◌, length, length-append, nat_eq, nat_le, nat_lt, leb-true, ltb-true, true≢false}
use Rattle.std.specs.List.{IsDistinct}
use Rattle.std.specs.Cmp.{nat_eq_equiv}
use Rattle.std.proofs.lemmas.Bool.{and_parts}
use Rattle.std.proofs.lemmas.List.Folds.{list_any-append}
use Rattle.std.proofs.lemmas.Map.Made.{length-le_from_is_member}
use Rattle.std.specs.List.{list_any}
use Rattle.std.proofs.Math.Bool.{or-true}
use Rattle.vax_form.specs.PageTable.{code_bytes, code_length, has_page}
use Rattle.vax_form.specs.Pages.{has_code}
use Rattle.vax_form.specs.declared.pages.PageRange.{PageRange}
use Rattle.vax_form.specs.Targets.{has}

-- so many numbers from a number on
abbrev counted_from : ℕ → ℕ → List ℕ
counted_from a zero = []
counted_from a (suc n) = a ∷ counted_from (a + 1) n

-- all addresses in the read-only ranges
abbrev addresses_of : List PageRange → List ℕ
addresses_of [] = []
addresses_of (r ∷ rest) = counted_from (512 * r.first) (code_bytes r) ++ addresses_of rest

counted_has : (a n x : ℕ) → a ≤ x → x < a + n → has (counted_from a n) x ≡ true
counted_has a zero x low high = absurd (omega arith)
counted_has a (suc n) x low high = go (nat_eq x a) refl (λ h. counted_has (a + 1) n x h (omega arith))
  where
    go : (b : Bool) → nat_eq x a ≡ b → (a + 1 ≤ x → has (counted_from (a + 1) n) x ≡ true) → (b || has (counted_from (a + 1) n) x) ≡ true
    go true e later = refl
    go false e later = later (grind arith)

counted_length : (a n : ℕ) → length (counted_from a n) ≡ n
counted_length a zero = refl
counted_length a (suc n) = ap suc (counted_length (a + 1) n)

length_addresses : (ranges : List PageRange) → length (addresses_of ranges) ≡ code_length ranges
length_addresses [] = refl
length_addresses (r ∷ rest) =
    length-append (counted_from (512 * r.first) (code_bytes r)) (addresses_of rest) ∙ ap₂ (λ x y. x + y) (counted_length (512 * r.first) (code_bytes r)) (length_addresses rest)

-- an address in a read-only range is among its bytes
range_has : (r : PageRange) (x : ℕ) → has_code x r ≡ true → has (counted_from (512 * r.first) (code_bytes r)) x ≡ true
range_has r x e =
    let parts = and_parts (has_page (x / 512) r) (not r.writable) e in
    let page = and_parts (nat_le r.first (x / 512)) (nat_lt (x / 512) (r.first + r.count)) parts.0 in
    let low : r.first ≤ x / 512 = leb-true r.first (x / 512) page.0 in
    let high : x / 512 < r.first + r.count = ltb-true (x / 512) (r.first + r.count) page.1 in
    readable r.writable parts.1 (counted_has (512 * r.first) (512 * r.count) x (omega arith) (omega arith))
  where
    readable : (writable : Bool) → not writable ≡ true → has (counted_from (512 * r.first) (512 * r.count)) x ≡ true
        → has (counted_from (512 * r.first) (cond writable 0 (512 * r.count))) x ≡ true
    readable true e h = absurd (true≢false (sym e))
    readable false e h = h

has_address : (ranges : List PageRange) (x : ℕ) → list_any (has_code x) ranges ≡ true → has (addresses_of ranges) x ≡ true
has_address [] x e = e
has_address (r ∷ rest) x e =
    list_any-append (nat_eq x) (counted_from (512 * r.first) (code_bytes r)) (addresses_of rest) ∙ go (has_code x r) refl e (has_address rest x)
  where
    go : (b : Bool) → has_code x r ≡ b → (b || list_any (has_code x) rest) ≡ true → (list_any (has_code x) rest ≡ true → has (addresses_of rest) x ≡ true)
        → (has (counted_from (512 * r.first) (code_bytes r)) x || has (addresses_of rest) x) ≡ true
    go true here e later = rw (range_has r x here) refl
    go false here e later = rw (later e) (or-true (has (counted_from (512 * r.first) (code_bytes r)) x))

pub few_in_pages : (ranges : List PageRange) (keys : List ℕ) → IsDistinct nat_eq keys → ((x : ℕ) → has keys x ≡ true → list_any (has_code x) ranges ≡ true) → length keys ≤ code_length ranges
few_in_pages ranges keys unique within =
    let small = length-le_from_is_member nat_eq_equiv keys (addresses_of ranges) unique (λ x h. has_address ranges x (within x h)) in
    let size = length_addresses ranges in
    omega arith
