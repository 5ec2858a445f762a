-- Quadwords of a memory of bytes, and what references make of them.
use Rattle.std.proofs.Common.{◌≡◌, ◌≢◌, ℕ, zero, suc, ◌<◌, ◌≤◌, ◌+◌, ◌-◌, ◌*◌, ◌/◌, ◌%◌, ◌^◌, ◌==◌, Bool, true, false, if◌then◌else◌, refl, sym, ap, ◌∙◌, arith, lit<, min, ◌⊎◌, inl, inr, ⊎_elim, bit_and, bit_or}
use Rattle.std.proofs.lemmas.Bool.{cases_lt, eqb-true}
use Rattle.std.proofs.lemmas.Bool.Decides.{nat_tests}
use Rattle.std.proofs.lemmas.Nat.{or_lt, or_shr, or_mod, and_shr, and_mod, and_le_l, pow-add, pow_below, shl-shr, shr-shr, mod-pow-add, mod_below, from_le_bytes-to_le_bytes_8}
use Rattle.std.proofs.lemmas.Nat.Bits.{bit_at_mask_inside, bit_at_mask_below, bit_at_mask_above}
use Rattle.std.specs.Int.{bit_at, byte_at}
use Rattle.vt_words.proofs.Tests.{chosen_below}
use Rattle.memory_core.specs.Bytes.{quad_of, with_bytes, word_at}
use Rattle.memory_core.specs.Changes as quadwords
use Rattle.memory_core.specs.declared.entry.Change.TheVariants as changes
use Rattle.memory_core.proofs.Filling.{same_quad}
use Rattle.memory_core.proofs.Neighbours.{byte_at-lt, byte_at-quad_of, byte_at-with_bytes, not_one, others_stay}
pub use Rattle.memory_core.proofs.Neighbours.{byte_is}
use Rattle.vt_words.proofs.Spreads.{below_8}
use Rattle.vt_words.specs.Quad.{field_of}
use Rattle.vax_form.specs.declared.state.RefKind.{RefKind}
use Rattle.vax_form.specs.declared.state.RefKind.TheVariants.{Read, Write, Add, SetBit, ClearBit, Put, Get}
use Rattle.vax_form.specs.References.{value_at, with_byte, with_value, reply_by, changed_by, changed, AreBytes, byte_count_of, byte_count, FitsKind}
use Rattle.vax_driven.proofs.Changing.{elsewhere, with_value_elsewhere, others_stay as named_alone}
use Rattle.block_law.specs.References as block
use Rattle.system_model.specs.Quadwords.{quad_at, quad_address, change_by}
use Rattle.system_model.specs.Laws.{QuadwordChanges, OtherQuadwordsStay, QuadwordReplies}

-- ---- quadwords and their bytes

-- a quadword by its bytes
pub quad_of-bytes : (n : ℕ) → n < 2 ^ 64 → quad_of (λ k. byte_at k n) ≡ n
quad_of-bytes n small = from_le_bytes-to_le_bytes_8 n small

pub quad_of-lt : (f : ℕ → ℕ) → ((k : ℕ) → k < 8 → f k < 256) → quad_of f < 2 ^ 64
quad_of-lt f h =
    let a0 : f 0 < 256 = h 0 (lit< tt) in
    let a1 : f 1 < 256 = h 1 (lit< tt) in
    let a2 : f 2 < 256 = h 2 (lit< tt) in
    let a3 : f 3 < 256 = h 3 (lit< tt) in
    let a4 : f 4 < 256 = h 4 (lit< tt) in
    let a5 : f 5 < 256 = h 5 (lit< tt) in
    let a6 : f 6 < 256 = h 6 (lit< tt) in
    let a7 : f 7 < 256 = h 7 (lit< tt) in
    omega arith

-- a byte of a quadword of memory
pub byte_at-quad_at : (byte : ℕ → ℕ) (quad k : ℕ) → AreBytes byte → k < 8 → byte_at k (quad_at byte quad) ≡ byte (quad + k)
byte_at-quad_at byte quad k are l = byte_at-quad_of (λ at. byte (quad + at)) (λ at _. are (quad + at)) k l

pub quad_at-lt : (byte : ℕ → ℕ) (quad : ℕ) → AreBytes byte → quad_at byte quad < 2 ^ 64
quad_at-lt byte quad are = quad_of-lt (λ at. byte (quad + at)) (λ at _. are (quad + at))

-- ---- numbers in memory

next_byte : (j value : ℕ) → j < 8 → byte_at j (value / 256) ≡ byte_at (suc j) value
next_byte j value l =
    below_8 (λ j. byte_at j (value / 256) ≡ byte_at (suc j) value)
    (omega arith) (omega arith) (omega arith) (omega arith) (omega arith) (omega arith) (omega arith) (omega arith) j l

put_there : (byte : ℕ → ℕ) (address at value : ℕ) → address ≡ at → with_byte byte address value at ≡ value
put_there byte address at value same = grind (arith, nat_tests)

pub with_value_inside : (byte : ℕ → ℕ) (address count value j : ℕ) → address + count ≤ 2 ^ 32 → count ≤ 8 → j < count → with_value byte address count value (address + j) ≡ byte_at j value
with_value_inside byte address zero value j small few l = absurd (omega arith)
with_value_inside byte address (suc count) value zero small few l =
    let here : address % 2 ^ 32 ≡ address + 0 = omega arith in
    with_value_elsewhere (with_byte byte (address % 2 ^ 32) (value % 256)) (address + 1) count (value / 256) (address + 0) (omega arith) (inl (omega arith))
    ∙ put_there byte (address % 2 ^ 32) (address + 0) (value % 256) here
with_value_inside byte address (suc count) value (suc j) small few l =
    let e : address + suc j ≡ address + 1 + j = omega arith in
    ap (with_value (with_byte byte (address % 2 ^ 32) (value % 256)) (address + 1) count (value / 256)) e
    ∙ with_value_inside (with_byte byte (address % 2 ^ 32) (value % 256)) (address + 1) count (value / 256) j (omega arith) (omega arith) (omega arith)
    ∙ next_byte j value (omega arith)

-- a number read from a quadword's bytes
pub value_at-field : (byte : ℕ → ℕ) (quad place count : ℕ) → AreBytes byte → quad + 8 ≤ 2 ^ 32 → place + count ≤ 8 → value_at byte (quad + place) count ≡ field_of (quad_at byte quad) place count
value_at-field byte quad place zero are small within = let m = mod_below (quad_at byte quad / 2 ^ (8 * place)) 1 (lit< tt) in omega arith
value_at-field byte quad place (suc count) are small within =
    let x = quad_at byte quad in
    let l : place < 8 = omega arith in
    let here : (quad + place) % 2 ^ 32 ≡ quad + place = omega arith in
    let low : byte ((quad + place) % 2 ^ 32) ≡ x / 2 ^ (8 * place) % 2 ^ 8 =
    ap byte here ∙ sym (byte_at-quad_at byte quad place are l) ∙ byte_is place x l in
    let next : quad + place + 1 ≡ quad + (place + 1) = omega arith in
    let shift : 8 * place + 8 ≡ 8 * (place + 1) = omega arith in
    let high : value_at byte (quad + place + 1) count ≡ x / 2 ^ (8 * place) / 2 ^ 8 % 2 ^ (8 * count) =
    ap (λ a. value_at byte a count) next ∙ value_at-field byte quad (place + 1) count are small (omega arith)
    ∙ ap (λ k. x / 2 ^ k % 2 ^ (8 * count)) (sym shift) ∙ ap (λ n. n % 2 ^ (8 * count)) (sym (shr-shr x (8 * place) 8)) in
    let split = mod-pow-add (x / 2 ^ (8 * place)) (8 * count) 8 in
    let width : 8 * count + 8 ≡ 8 * suc count = omega arith in
    let whole : x / 2 ^ (8 * place) % 2 ^ (8 * suc count) ≡ (x / 2 ^ (8 * place) / 2 ^ 8 % 2 ^ (8 * count)) * 2 ^ 8 + x / 2 ^ (8 * place) % 2 ^ 8 =
    ap (λ k. x / 2 ^ (8 * place) % 2 ^ k) (sym width) ∙ split in
    sum_turned (byte ((quad + place) % 2 ^ 32)) (value_at byte (quad + place + 1) count) (x / 2 ^ (8 * place) % 2 ^ 8) (x / 2 ^ (8 * place) / 2 ^ 8 % 2 ^ (8 * count)) (x / 2 ^ (8 * place) % 2 ^ (8 * suc count)) low high whole
  where
    sum_turned : (a b c d e : ℕ) → a ≡ c → b ≡ d → e ≡ d * 2 ^ 8 + c → a + 256 * b ≡ e
    sum_turned a b c d e p q r = omega arith

-- a byte of a shifted number
shifted_byte : (value place j : ℕ) → place + j < 8 → byte_at (place + j) (value * 2 ^ (8 * place)) ≡ byte_at j value
shifted_byte value place j l =
    let e : 8 * (place + j) ≡ 8 * place + 8 * j = omega arith in
    byte_is (place + j) (value * 2 ^ (8 * place)) l
    ∙ ap (λ k. value * 2 ^ (8 * place) / 2 ^ k % 2 ^ 8) e
    ∙ ap (λ n. n % 2 ^ 8) (sym (shr-shr (value * 2 ^ (8 * place)) (8 * place) (8 * j)))
    ∙ ap (λ n. n / 2 ^ (8 * j) % 2 ^ 8) (shl-shr value (8 * place))
    ∙ sym (byte_is j value (omega arith))

chosen : (b : ℕ) (x y : ℕ) → b ≡ 1 → (if b == 1 then x else y) ≡ x
chosen b x y h = rw h refl

-- the bytes of a quadword that a mask from a place on names, and the others
pub masked_inside : (place count value before k : ℕ) → k < 8 → place ≤ k → k < place + count → byte_at k (with_bytes (2 ^ (place + count) - 2 ^ place) (value * 2 ^ (8 * place)) before) ≡ byte_at (k - place) value
masked_inside place count value before k l low high =
    let e : place + (k - place) ≡ k = omega arith in
    byte_at-with_bytes (2 ^ (place + count) - 2 ^ place) (value * 2 ^ (8 * place)) before k l
    ∙ chosen (bit_at (2 ^ (place + count) - 2 ^ place) k) (byte_at k (value * 2 ^ (8 * place))) (byte_at k before) (bit_at_mask_inside place (place + count) k low high)
    ∙ ap (λ n. byte_at n (value * 2 ^ (8 * place))) (sym e)
    ∙ shifted_byte value place (k - place) (omega arith)

pub masked_outside : (place count value before k : ℕ) → k < 8 → (k < place) ⊎ (place + count ≤ k) → byte_at k (with_bytes (2 ^ (place + count) - 2 ^ place) (value * 2 ^ (8 * place)) before) ≡ byte_at k before
masked_outside place count value before k l apart =
    byte_at-with_bytes (2 ^ (place + count) - 2 ^ place) (value * 2 ^ (8 * place)) before k l
    ∙ not_one (bit_at (2 ^ (place + count) - 2 ^ place) k) (byte_at k (value * 2 ^ (8 * place))) (byte_at k before)
    (⊎_elim (λ h. bit_at_mask_below place (place + count) k h) (λ h. bit_at_mask_above place (place + count) k h) apart)

pub word_mask : (place : ℕ) → 3 * 2 ^ place ≡ 2 ^ (place + 2) - 2 ^ place
word_mask place = let p = pow-add 2 place 2 in omega arith

-- a masked quadword is a quadword of bytes
pub with_bytes-lt : (mask value before : ℕ) → with_bytes mask value before < 2 ^ 64
unfolding with_bytes
with_bytes-lt mask value before = quad_of-lt (λ at. if bit_at mask at == 1 then byte_at at value else byte_at at before) (λ at l. chosen_below (bit_at mask at == 1) (byte_at at value) (byte_at at before) 256 (byte_at-lt at value) (byte_at-lt at before))

-- a quadword of memory is the number that has its bytes
pub quad_at-is : (byte : ℕ → ℕ) (quad n : ℕ) → n < 2 ^ 64 → ((k : ℕ) → k < 8 → byte (quad + k) ≡ byte_at k n) → quad_at byte quad ≡ n
quad_at-is byte quad n small same = same_quad (λ at. byte (quad + at)) (λ at. byte_at at n) same ∙ quad_of-bytes n small

-- ---- what a reference makes of its quadword

module _ (byte : ℕ → ℕ) (quad place : ℕ) (are : AreBytes byte) (small : quad + 8 ≤ 2 ^ 32) where
  written_byte : (count value k : ℕ) → place + count ≤ 8 → k < 8 → (k < place) ⊎ (place ≤ k) → (k < place + count) ⊎ (place + count ≤ k)
      → with_value byte (quad + place) count value (quad + k) ≡ byte_at k (with_bytes (2 ^ (place + count) - 2 ^ place) (value * 2 ^ (8 * place)) (quad_at byte quad))
  written_byte count value k within l (inl low) side =
      with_value_elsewhere byte (quad + place) count value (quad + k) (omega arith) (inl (omega arith))
      ∙ sym (byte_at-quad_at byte quad k are l) ∙ sym (masked_outside place count value (quad_at byte quad) k l (inl low))
  written_byte count value k within l (inr low) (inl high) =
      let e : quad + k ≡ quad + place + (k - place) = omega arith in
      ap (with_value byte (quad + place) count value) e
      ∙ with_value_inside byte (quad + place) count value (k - place) (omega arith) (omega arith) (omega arith)
      ∙ sym (masked_inside place count value (quad_at byte quad) k l low high)
  written_byte count value k within l (inr low) (inr high) =
      with_value_elsewhere byte (quad + place) count value (quad + k) (omega arith) (inr (omega arith))
      ∙ sym (byte_at-quad_at byte quad k are l) ∙ sym (masked_outside place count value (quad_at byte quad) k l (inr high))

  written : (count value : ℕ) → place + count ≤ 8 → quad_at (with_value byte (quad + place) count value) quad ≡ with_bytes (2 ^ (place + count) - 2 ^ place) (value * 2 ^ (8 * place)) (quad_at byte quad)
  written count value within =
      quad_at-is (with_value byte (quad + place) count value) quad (with_bytes (2 ^ (place + count) - 2 ^ place) (value * 2 ^ (8 * place)) (quad_at byte quad))
      (with_bytes-lt (2 ^ (place + count) - 2 ^ place) (value * 2 ^ (8 * place)) (quad_at byte quad))
      (λ k l. written_byte count value k within l (cases_lt k place) (cases_lt k (place + count)))

  -- one byte of the quadword replaced
  replaced : (value n : ℕ) → place < 8 → n < 2 ^ 64 → byte_at place n ≡ value → ((k : ℕ) → k < 8 → (k == place) ≡ false → byte_at k n ≡ byte_at k (quad_at byte quad))
      → quad_at (with_byte byte ((quad + place) % 2 ^ 32) value) quad ≡ n
  replaced value n l fits is others =
      quad_at-is (with_byte byte ((quad + place) % 2 ^ 32) value) quad n fits (λ k b. each k b (k == place) refl)
    where
      apart : (k place : ℕ) → (k == place) ≡ false → (k < place) ⊎ (place < k)
      apart k place h = ⊎_elim (λ (l : k < place). inl l) (λ (l : place ≤ k). inr (grind (arith, nat_tests))) (cases_lt k place)

      moved : (k : ℕ) → (k < place) ⊎ (place < k) → (quad + k < (quad + place) % 2 ^ 32) ⊎ ((quad + place) % 2 ^ 32 < quad + k)
      moved k a = ⊎_elim (λ (before : k < place). inl (omega arith)) (λ (behind : place < k). inr (omega arith)) a

      each : (k : ℕ) → k < 8 → (b : Bool) → (k == place) ≡ b → with_byte byte ((quad + place) % 2 ^ 32) value (quad + k) ≡ byte_at k n
      each k b true h =
          let e : k ≡ place = eqb-true k place h in
          let there : (quad + place) % 2 ^ 32 ≡ quad + k = omega arith in
          put_there byte ((quad + place) % 2 ^ 32) (quad + k) value there ∙ sym is ∙ ap (λ m. byte_at m n) (sym e)
      each k b false h =
          elsewhere byte ((quad + place) % 2 ^ 32) value (quad + k) (moved k (apart k place h))
          ∙ sym (byte_at-quad_at byte quad k are b) ∙ sym (others k b h)

  -- the byte of an interlocked reference
  set_place : (bit : ℕ) → place < 8 → bit < 8 → byte_at place (bit_or (quad_at byte quad) (2 ^ (8 * place + bit))) ≡ bit_or (byte ((quad + place) % 2 ^ 32)) (2 ^ bit)
  set_place bit l b =
      let x = quad_at byte quad in
      let e : 8 * place + bit ≡ bit + 8 * place = omega arith in
      let shifted : 2 ^ (8 * place + bit) / 2 ^ (8 * place) ≡ 2 ^ bit = ap (λ k. 2 ^ k / 2 ^ (8 * place)) e ∙ ap (λ n. n / 2 ^ (8 * place)) (pow-add 2 bit (8 * place)) ∙ shl-shr (2 ^ bit) (8 * place) in
      let under : 2 ^ bit < 2 ^ 8 = pow_below bit 8 b in
      let whole : 2 ^ bit % 2 ^ 8 ≡ 2 ^ bit = omega arith in
      let there : (quad + place) % 2 ^ 32 ≡ quad + place = omega arith in
      byte_is place (bit_or x (2 ^ (8 * place + bit))) l
      ∙ ap (λ n. n % 2 ^ 8) (or_shr x (2 ^ (8 * place + bit)) (8 * place))
      ∙ or_mod (x / 2 ^ (8 * place)) (2 ^ (8 * place + bit) / 2 ^ (8 * place)) 8
      ∙ ap (λ n. bit_or (x / 2 ^ (8 * place) % 2 ^ 8) (n % 2 ^ 8)) shifted
      ∙ ap (bit_or (x / 2 ^ (8 * place) % 2 ^ 8)) whole
      ∙ ap (λ n. bit_or n (2 ^ bit)) (sym (byte_is place x l) ∙ byte_at-quad_at byte quad place are l ∙ ap byte (sym there))

  cleared_mask : (place bit : ℕ) → place < 8 → bit < 8 → (2 ^ 64 - 1 - 2 ^ (8 * place + bit)) / 2 ^ (8 * place) % 2 ^ 8 ≡ 255 - 2 ^ bit
  cleared_mask place bit l b =
      below_8 (λ p. (2 ^ 64 - 1 - 2 ^ (8 * p + bit)) / 2 ^ (8 * p) % 2 ^ 8 ≡ 255 - 2 ^ bit)
      (below_8 (λ k. (2 ^ 64 - 1 - 2 ^ (8 * 0 + k)) / 2 ^ (8 * 0) % 2 ^ 8 ≡ 255 - 2 ^ k) refl refl refl refl refl refl refl refl bit b)
      (below_8 (λ k. (2 ^ 64 - 1 - 2 ^ (8 * 1 + k)) / 2 ^ (8 * 1) % 2 ^ 8 ≡ 255 - 2 ^ k) refl refl refl refl refl refl refl refl bit b)
      (below_8 (λ k. (2 ^ 64 - 1 - 2 ^ (8 * 2 + k)) / 2 ^ (8 * 2) % 2 ^ 8 ≡ 255 - 2 ^ k) refl refl refl refl refl refl refl refl bit b)
      (below_8 (λ k. (2 ^ 64 - 1 - 2 ^ (8 * 3 + k)) / 2 ^ (8 * 3) % 2 ^ 8 ≡ 255 - 2 ^ k) refl refl refl refl refl refl refl refl bit b)
      (below_8 (λ k. (2 ^ 64 - 1 - 2 ^ (8 * 4 + k)) / 2 ^ (8 * 4) % 2 ^ 8 ≡ 255 - 2 ^ k) refl refl refl refl refl refl refl refl bit b)
      (below_8 (λ k. (2 ^ 64 - 1 - 2 ^ (8 * 5 + k)) / 2 ^ (8 * 5) % 2 ^ 8 ≡ 255 - 2 ^ k) refl refl refl refl refl refl refl refl bit b)
      (below_8 (λ k. (2 ^ 64 - 1 - 2 ^ (8 * 6 + k)) / 2 ^ (8 * 6) % 2 ^ 8 ≡ 255 - 2 ^ k) refl refl refl refl refl refl refl refl bit b)
      (below_8 (λ k. (2 ^ 64 - 1 - 2 ^ (8 * 7 + k)) / 2 ^ (8 * 7) % 2 ^ 8 ≡ 255 - 2 ^ k) refl refl refl refl refl refl refl refl bit b)
      place l

  clear_place : (bit : ℕ) → place < 8 → bit < 8 → byte_at place (bit_and (quad_at byte quad) (2 ^ 64 - 1 - 2 ^ (8 * place + bit))) ≡ bit_and (byte ((quad + place) % 2 ^ 32)) (255 - 2 ^ bit)
  clear_place bit l b =
      let x = quad_at byte quad in
      let mask = 2 ^ 64 - 1 - 2 ^ (8 * place + bit) in
      let there : (quad + place) % 2 ^ 32 ≡ quad + place = omega arith in
      byte_is place (bit_and x mask) l
      ∙ ap (λ n. n % 2 ^ 8) (and_shr x mask (8 * place))
      ∙ and_mod (x / 2 ^ (8 * place)) (mask / 2 ^ (8 * place)) 8
      ∙ ap (bit_and (x / 2 ^ (8 * place) % 2 ^ 8)) (cleared_mask place bit l b)
      ∙ ap (λ n. bit_and n (255 - 2 ^ bit)) (sym (byte_is place x l) ∙ byte_at-quad_at byte quad place are l ∙ ap byte (sym there))

  apart_byte : (bit k : ℕ) → bit < 8 → (k == place) ≡ false → (k == (8 * place + bit) / 8) ≡ false
  apart_byte bit k b h = let e : (8 * place + bit) / 8 ≡ place = omega arith in rw e h

  bit_set : (bit : ℕ) → place < 8 → bit < 8 → quad_at (with_byte byte ((quad + place) % 2 ^ 32) (bit_or (byte ((quad + place) % 2 ^ 32)) (2 ^ bit))) quad ≡ bit_or (quad_at byte quad) (2 ^ (8 * place + bit))
  bit_set bit l b =
      let n = 8 * place + bit in
      let few : n < 64 = omega arith in
      replaced (bit_or (byte ((quad + place) % 2 ^ 32)) (2 ^ bit)) (bit_or (quad_at byte quad) (2 ^ n)) l
      (or_lt 64 (quad_at byte quad) (2 ^ n) (quad_at-lt byte quad are) (pow_below n 64 few))
      (set_place bit l b)
      (λ k under other. others_stay (changes.SetBit n) (quad_at byte quad) k few under (apart_byte bit k b other))

  bit_cleared : (bit : ℕ) → place < 8 → bit < 8 → quad_at (with_byte byte ((quad + place) % 2 ^ 32) (bit_and (byte ((quad + place) % 2 ^ 32)) (255 - 2 ^ bit))) quad ≡ bit_and (quad_at byte quad) (2 ^ 64 - 1 - 2 ^ (8 * place + bit))
  bit_cleared bit l b =
      let n = 8 * place + bit in
      let few : n < 64 = omega arith in
      let x = quad_at byte quad in
      let whole = quad_at-lt byte quad are in
      let less = and_le_l x (2 ^ 64 - 1 - 2 ^ n) in
      replaced (bit_and (byte ((quad + place) % 2 ^ 32)) (255 - 2 ^ bit)) (bit_and x (2 ^ 64 - 1 - 2 ^ n)) l
      (omega arith)
      (clear_place bit l b)
      (λ k under other. others_stay (changes.ClearBit n) x k few under (apart_byte bit k b other))

  changes_alike : (kind : RefKind) (count : ℕ) → block.is_of_memory kind ≡ true → place < 8 → place + byte_count_of kind count ≤ 8 → FitsKind kind
      → quad_at (changed_by kind byte (quad + place) count) quad ≡ quadwords.changed (change_by kind place count) (quad_at byte quad)
  changes_alike Read count m l within fits = refl
  changes_alike (Write value) count m l within fits = written count value within
  changes_alike (Add value) count m l within fits =
      let sum : (value_at byte (quad + place) 2 + value) % 2 ^ 16 ≡ (word_at place (quad_at byte quad) + value) % 2 ^ 16 =
      ap (λ n. (n + value) % 2 ^ 16) (value_at-field byte quad place 2 are small within) in
      written 2 ((value_at byte (quad + place) 2 + value) % 2 ^ 16) within
      ∙ ap (λ mask. with_bytes mask ((value_at byte (quad + place) 2 + value) % 2 ^ 16 * 2 ^ (8 * place)) (quad_at byte quad)) (sym (word_mask place))
      ∙ ap (λ n. with_bytes (3 * 2 ^ place) (n * 2 ^ (8 * place)) (quad_at byte quad)) sum
  changes_alike (SetBit bit) count m l within fits =
      let same : bit % 8 ≡ bit = omega arith in
      ap (λ k. quad_at (with_byte byte ((quad + place) % 2 ^ 32) (bit_or (byte ((quad + place) % 2 ^ 32)) (2 ^ k))) quad) same ∙ bit_set bit l fits
  changes_alike (ClearBit bit) count m l within fits =
      let same : bit % 8 ≡ bit = omega arith in
      ap (λ k. quad_at (with_byte byte ((quad + place) % 2 ^ 32) (bit_and (byte ((quad + place) % 2 ^ 32)) (255 - 2 ^ k))) quad) same ∙ bit_cleared bit l fits
  changes_alike (Put value) count m l within fits = absurd (cc m)
  changes_alike Get count m l within fits = absurd (cc m)

  -- the byte that an interlocked reference found
  byte_found : place < 8 → byte ((quad + place) % 2 ^ 32) ≡ field_of (quad_at byte quad) place 1
  byte_found l =
      let there : (quad + place) % 2 ^ 32 ≡ quad + place = omega arith in
      ap byte there ∙ sym (byte_at-quad_at byte quad place are l) ∙ byte_is place (quad_at byte quad) l

  replies_alike : (kind : RefKind) (count next_input : ℕ) → block.is_of_memory kind ≡ true → place < 8 → place + byte_count_of kind count ≤ 8
      → reply_by kind byte next_input (quad + place) count ≡ block.reply_by kind place count (quad_at byte quad)
  replies_alike Read count next_input m l within =
      let whole : min count 8 ≡ count = omega arith in
      ap (value_at byte (quad + place)) whole ∙ value_at-field byte quad place count are small within
  replies_alike (Write value) count next_input m l within = refl
  replies_alike (Add value) count next_input m l within = value_at-field byte quad place 2 are small within
  replies_alike (SetBit bit) count next_input m l within = byte_found l
  replies_alike (ClearBit bit) count next_input m l within = byte_found l
  replies_alike (Put value) count next_input m l within = absurd (cc m)
  replies_alike Get count next_input m l within = absurd (cc m)

-- ---- the laws

split : (address : ℕ) → address ≡ address - address % 8 + address % 8
split address = omega arith

ends : (address : ℕ) → address < 2 ^ 32 → address - address % 8 + 8 ≤ 2 ^ 32
ends address small = omega arith

pub quadword_changes : QuadwordChanges
quadword_changes reference byte fits are names =
    let a = reference.address in
    ap (λ n. quad_at (changed_by reference.kind byte n reference.count) (quad_address reference)) (split a)
    ∙ changes_alike byte (a - a % 8) (a % 8) are (ends a fits.longword) reference.kind reference.count names (mod_below a 8 (lit< tt)) fits.within fits.bit

pub quadword_replies : QuadwordReplies
quadword_replies reference byte next_input fits are names =
    let a = reference.address in
    ap (λ n. reply_by reference.kind byte next_input n reference.count) (split a)
    ∙ replies_alike byte (a - a % 8) (a % 8) are (ends a fits.longword) reference.kind reference.count next_input names (mod_below a 8 (lit< tt)) fits.within

outside : (address count quad k : ℕ) → address % 8 + count ≤ 8 → quad % 8 ≡ 0 → quad ≢ address - address % 8 → k < 8 → (quad + k < address) ⊎ (address + count ≤ quad + k)
outside address count quad k within aligned other l =
    ⊎_elim
    (λ (h : quad < address - address % 8). inl (omega arith))
    (λ (h : address - address % 8 ≤ quad).
    ⊎_elim
    (λ (g : address - address % 8 < quad). inr (omega arith))
    (λ (g : quad ≤ address - address % 8). absurd (other (omega arith)))
    (cases_lt (address - address % 8) quad))
    (cases_lt quad (address - address % 8))

pub other_quadwords_stay : OtherQuadwordsStay
other_quadwords_stay reference byte quad fits aligned other =
    same_quad (λ at. changed reference byte (quad + at)) (λ at. byte (quad + at))
    (λ k l. named_alone reference byte (quad + k) fits (outside reference.address (byte_count reference) quad k fits.within aligned other l))
