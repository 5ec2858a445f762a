-- Where the bytes of a page table's read-only ranges stand.
use Rattle.std.proofs.Common.{subst, ◌≡◌, ℕ, ◌+◌, ◌-◌, ◌*◌, ◌/◌, ◌<◌, ◌≤◌, Bool, true, false, List, [], ◌∷◌, Some, length, refl, ap, sym, ◌∙◌, arith, nat_le, nat_lt, not, ◌||◌, cond}
use Rattle.std.specs.Prelude.{find, option_map, is_some, slice_index, take, drop}
use Rattle.std.specs.List.{list_any}
use Rattle.std.proofs.lemmas.Bool.{and_parts, ltb-true, leb-true, lt-ltb, le-leb, le-ltb}
use Rattle.std.proofs.lemmas.List.{get_or-take, get_or-drop, length-drop, length-take-le}
use Rattle.vax_form.specs.PageTable.{PageTable, has_page, code_bytes, code_length, AreRising, ArePlaced, IsPageTable}
use Rattle.vax_form.specs.Pages.{has_code, AreCode}
use Rattle.vax_form.specs.declared.pages.Pages.{Pages}
use Rattle.vax_form.specs.declared.pages.PageRange.{PageRange}

pub found_is_some : {X Y : Type 0} (f : X → Y) (test : X → Bool) (xs : List X) → is_some (option_map f (find test xs)) ≡ list_any test xs
found_is_some f test [] = refl
found_is_some f test (x ∷ xs) =
    elim (test x) as (λ b. is_some (option_map f (cond b (Some x) (find test xs))) ≡ (b || list_any test xs)) [ true ↦ refl | false ↦ found_is_some f test xs ]

pub found_passes : {X : Type 0} (test : X → Bool) (xs : List X) (x : X) → find test xs ≡ Some x → test x ≡ true
found_passes test [] x found = absurd cc
found_passes {X} test (y ∷ ys) x found =
    (elim (test y) as (λ b. test y ≡ b → cond b (Some y) (find test ys) ≡ Some x → test x ≡ true) [
      | true ↦ λ passes same. let here : y ≡ x = cc in ap test (sym here) ∙ passes
      | false ↦ λ fails later. found_passes test ys x later
    ]) refl found

read_only : (writable : Bool) (n : ℕ) → not writable ≡ true → cond writable 0 n ≡ n
read_only true n is = absurd cc
read_only false n is = refl

pub record IsCodeOf (address : ℕ) (r : PageRange) : Type 0 where
  pub above : 512 * r.first ≤ address
  pub below : address < 512 * (r.first + r.count)
  pub bytes : code_bytes r ≡ 512 * r.count

has_code_within : (address : ℕ) (r : PageRange) → has_code address r ≡ true → IsCodeOf address r
has_code_within address r has =
    let parts = and_parts (has_page (address / 512) r) (not r.writable) has in
    let places = and_parts (nat_le r.first (address / 512)) (nat_lt (address / 512) (r.first + r.count)) parts.0 in
    let low : r.first ≤ address / 512 = leb-true r.first (address / 512) places.0 in
    let high : address / 512 < r.first + r.count = ltb-true (address / 512) (r.first + r.count) places.1 in
    record { above = omega arith; below = omega arith; bytes = read_only r.writable (512 * r.count) parts.1 }

code_placed : (writable : Bool) (place at n : ℕ) → not writable ≡ true → at ≡ cond writable 0 place → at ≡ place
code_placed true place at n is placed = absurd cc
code_placed false place at n is placed = placed

placed_within : (ranges : List PageRange) (address place : ℕ) (r : PageRange) → ArePlaced place ranges → find (has_code address) ranges ≡ Some r
    → r.place + code_bytes r ≤ place + code_length ranges
placed_within [] address place r placed found = absurd cc
placed_within (s ∷ ss) address place r placed found =
    (elim (has_code address s) as (λ b. has_code address s ≡ b → cond b (Some s) (find (has_code address) ss) ≡ Some r → r.place + code_bytes r ≤ place + (code_bytes s + code_length ss)) [
      | true ↦ λ passes same.
          let here : s ≡ r = cc in
          let parts = and_parts (has_page (address / 512) s) (not s.writable) passes in
          let at : s.place ≡ place = code_placed s.writable place s.place 0 parts.1 placed.0 in
          let bound : s.place + code_bytes s ≤ place + (code_bytes s + code_length ss) = omega arith in
          let P : PageRange → Type 0 = λ t. t.place + code_bytes t ≤ place + (code_bytes s + code_length ss) in
          subst P here bound
      | false ↦ λ fails later.
          let rest = placed_within ss address (place + code_bytes s) r placed.1 later in
          omega arith
    ]) refl found

code_bytes_most : (writable : Bool) (n : ℕ) → cond writable 0 n ≤ n
code_bytes_most true n = omega arith
code_bytes_most false n = omega arith

pub code_length_bound : (ranges : List PageRange) (lowest : ℕ) → AreRising lowest ranges → lowest ≤ 4194304 → 512 * lowest + code_length ranges ≤ 2147483648
code_length_bound [] lowest rising low = omega arith
code_length_bound (r ∷ rs) lowest rising low =
    let here = code_bytes_most r.writable (512 * r.count) in
    let rest = code_length_bound rs (r.first + r.count) rising.3 rising.2 in
    omega arith

-- the byte's place in the code, and that of its range
pub record IsInCode (address : ℕ) (r : PageRange) (bytes : ℕ) : Type 0 where
  pub above : 512 * r.first ≤ address
  pub below : address < 512 * (r.first + r.count)
  pub within : r.place + (address - 512 * r.first) < bytes
  pub whole : r.place + 512 * r.count ≤ bytes
  pub bound : bytes ≤ 2147483648

pub found_in_code : (table : PageTable) (address : ℕ) (r : PageRange) → IsPageTable table → find (has_code address) table.ranges ≡ Some r
    → IsInCode address r (length table.code)
found_in_code table address r sound found =
    let of_range = has_code_within address r (found_passes (has_code address) table.ranges r found) in
    let placed = placed_within table.ranges address 0 r sound.placed found in
    let bound = code_length_bound table.ranges 0 sound.rising (omega arith) in
    let filled : length table.code ≡ code_length table.ranges = sound.filled in
    let above : 512 * r.first ≤ address = of_range.above in
    let below : address < 512 * (r.first + r.count) = of_range.below in
    let bytes : code_bytes r ≡ 512 * r.count = of_range.bytes in
    record { above = above; below = below; within = omega arith; whole = omega arith; bound = omega arith }

-- ---- the bytes up to the end of a range

pub record RisesFrom (lowest : ℕ) (r : PageRange) : Type 0 where
  pub above : lowest ≤ r.first
  pub low : r.first + r.count ≤ 4194304

pub found_rising : (ranges : List PageRange) (lowest address : ℕ) (r : PageRange) → AreRising lowest ranges → find (has_code address) ranges ≡ Some r → RisesFrom lowest r
found_rising [] lowest address r rising found = absurd cc
found_rising (s ∷ ss) lowest address r rising found =
    (elim (has_code address s) as (λ b. cond b (Some s) (find (has_code address) ss) ≡ Some r → RisesFrom lowest r) [
      | true ↦ λ same.
          let here : s ≡ r = cc in
          let of_first : RisesFrom lowest s = record { above = rising.0; low = rising.2 } in
          subst (RisesFrom lowest) here of_first
      | false ↦ λ later.
          let rest = found_rising ss (s.first + s.count) address r rising.3 later in
          let above : s.first + s.count ≤ r.first = rest.above in
          let lowest_first : lowest ≤ s.first = rising.0 in
          record { above = omega arith; low = rest.low }
    ]) found

has_code_further : (address k : ℕ) (r : PageRange) → has_code address r ≡ true → address + k < 512 * (r.first + r.count) → has_code (address + k) r ≡ true
has_code_further address k r has below =
    let parts = and_parts (has_page (address / 512) r) (not r.writable) has in
    let above = (has_code_within address r has).above in
    let low : nat_le r.first ((address + k) / 512) ≡ true = le-leb r.first ((address + k) / 512) (omega arith) in
    let high : nat_lt ((address + k) / 512) (r.first + r.count) ≡ true = lt-ltb ((address + k) / 512) (r.first + r.count) (omega arith) in
    rw (low, high, parts.1) refl

no_code_behind : (address : ℕ) (r : PageRange) → r.first + r.count ≤ address / 512 → has_code address r ≡ false
no_code_behind address r behind =
    let low : nat_le r.first (address / 512) ≡ true = le-leb r.first (address / 512) (omega arith) in
    let high : nat_lt (address / 512) (r.first + r.count) ≡ false = le-ltb (address / 512) (r.first + r.count) behind in
    rw (low, high) refl

found_further : (ranges : List PageRange) (lowest address k : ℕ) (r : PageRange) → AreRising lowest ranges → find (has_code address) ranges ≡ Some r
    → address + k < 512 * (r.first + r.count) → find (has_code (address + k)) ranges ≡ Some r
found_further [] lowest address k r rising found below = absurd cc
found_further (s ∷ ss) lowest address k r rising found below =
    (elim (has_code address s) as (λ b. has_code address s ≡ b → cond b (Some s) (find (has_code address) ss) ≡ Some r → find (has_code (address + k)) (s ∷ ss) ≡ Some r) [
      | true ↦ λ passes same.
          let here : r ≡ s = cc in
          let within : address + k < 512 * (s.first + s.count) = rw here at below in
          let still : has_code (address + k) s ≡ true = has_code_further address k s passes within in
          rw still same
      | false ↦ λ fails later.
          let above : s.first + s.count ≤ r.first = (found_rising ss (s.first + s.count) address r rising.3 later).above in
          let from : 512 * r.first ≤ address = (has_code_within address r (found_passes (has_code address) ss r later)).above in
          let behind : has_code (address + k) s ≡ false = no_code_behind (address + k) s (omega arith) in
          rw behind (found_further ss (s.first + s.count) address k r rising.3 later below)
    ]) refl found

-- the bytes from the address on up to the end of its range
pub run_is_code : (pages : Pages) (address count : ℕ) (r : PageRange) → IsPageTable pages → find (has_code address) pages.ranges ≡ Some r
    → address + count ≡ 512 * (r.first + r.count) → AreCode pages address (take count (drop (r.place + (address - 512 * r.first)) pages.code))
run_is_code pages address count r sound found is =
    let at = r.place + (address - 512 * r.first) in
    let place = found_in_code pages address r sound found in
    let above : 512 * r.first ≤ address = place.above in
    let below : address < 512 * (r.first + r.count) = place.below in
    let whole : r.place + 512 * r.count ≤ length pages.code = place.whole in
    let low : r.first + r.count ≤ 4194304 = (found_rising pages.ranges 0 address r sound.rising found).low in
    let size : length (take count (drop at pages.code)) ≡ count = length-take-le count (drop at pages.code) (omega (arith, length-drop at pages.code)) in
    record {
      some = omega (arith, size);
      low = omega (arith, size);
      stand = λ k within.
          let inside : k < count = omega (arith, size, within) in
          let further = found_further pages.ranges 0 address k r sound.rising found (omega arith) in
          let next : r.place + (address + k - 512 * r.first) ≡ at + k = omega arith in
          let byte : slice_index (take count (drop at pages.code)) k ≡ slice_index pages.code (at + k) =
          get_or-take count (drop at pages.code) k 0 inside ∙ get_or-drop at pages.code k 0 in
          ap (option_map (λ (q : PageRange). slice_index pages.code (q.place + (address + k - 512 * q.first)))) further
          ∙ ap (λ i. Some (slice_index pages.code i)) next ∙ ap Some (sym byte);
    }
