-- Fields of quadwords, as changes of memory.
use Rattle.std.proofs.Common.{◌≡◌, ℕ, zero, suc, ◌<◌, ◌≤◌, ◌+◌, ◌-◌, ◌*◌, ◌/◌, ◌%◌, ◌^◌, ◌==◌, Bool, true, false, if◌then◌else◌, refl, sym, ap, ◌∙◌, subst, arith, lit<, ⊎_elim, bit_and, bit_or}
use Rattle.std.proofs.lemmas.Nat.{or_lt, and_le_l, and_le_r, pow-add, pow_below, pow_pos, shl-shr, mod_below}
use Rattle.std.proofs.lemmas.Nat.Bits.{bit_at-lt}
use Rattle.std.specs.Int.{bit_at, byte_at}
use Rattle.std.specs.Int.Bits.{or_zero_l, or_zero_r}
use Rattle.std.proofs.lemmas.Bool.{eqb-true}
use Rattle.vt_words.specs.Quad.{byte_of, spread, kept, cleared, field_of, with_field_of}
use Rattle.vt_words.proofs.Laws.{byte_of_or, byte_of_and, byte_of_kept, byte_of_cleared, same_from_bytes}
use Rattle.vt_words.proofs.Fields.{IsRun, run_of, replaced_run}
use Rattle.vt_words.proofs.Spreads.{bit_cases}
use Rattle.memory_core.specs.Bytes.{with_bytes, word_at}
use Rattle.memory_core.specs.Changes.{changed}
use Rattle.memory_core.specs.declared.entry.Change.{Change}
use Rattle.memory_core.specs.declared.entry.Change.TheVariants as changes
use Rattle.memory_core.proofs.Neighbours.{below_8, byte_at-with_bytes, others_stay}
use Rattle.vax_form.specs.declared.state.RefKind.{RefKind}
use Rattle.vax_form.specs.declared.state.RefKind.TheVariants.{Read, Write, Add, SetBit, ClearBit, Put, Get}
use Rattle.vax_form.specs.References.{FitsKind, byte_count_of}
use Rattle.block_law.specs.References as block
use Rattle.system_model.specs.Quadwords.{change_by}
use Rattle.system_model.proofs.Quads.{byte_is, with_bytes-lt}
use Rattle.legal_history.proofs.Quads.{changed-lt}

choose_byte : (b x y : ℕ) → b < 2 → (if b == 1 then x else y) ≡ bit_or (b * x) ((1 - b) * y)
choose_byte b x y h = ⊎_elim (λ (e : b ≡ 0). zero_case b e) (λ (e : b ≡ 1). one_case b e) (bit_cases b h)
  where
    zero_case : (b : ℕ) → b ≡ 0 → (if b == 1 then x else y) ≡ bit_or (b * x) ((1 - b) * y)
    zero_case b e = subst (λ n. (if n == 1 then x else y) ≡ bit_or (n * x) ((1 - n) * y)) (sym e) (zero_now)
      where
        zero_now : y ≡ bit_or (0 * x) ((1 - 0) * y)
        zero_now =
            let a : 0 * x ≡ 0 = omega arith in
            let c : (1 - 0) * y ≡ y = omega arith in
            sym (ap (λ n. bit_or n ((1 - 0) * y)) a ∙ ap (bit_or 0) c ∙ or_zero_l y)

    one_case : (b : ℕ) → b ≡ 1 → (if b == 1 then x else y) ≡ bit_or (b * x) ((1 - b) * y)
    one_case b e = subst (λ n. (if n == 1 then x else y) ≡ bit_or (n * x) ((1 - n) * y)) (sym e) (one_now)
      where
        one_now : x ≡ bit_or (1 * x) ((1 - 1) * y)
        one_now =
            let a : 1 * x ≡ x = omega arith in
            let c : (1 - 1) * y ≡ 0 = omega arith in
            sym (ap (λ n. bit_or n ((1 - 1) * y)) a ∙ ap (bit_or x) c ∙ or_zero_r x)

-- the bytes that a mask names, as the byte instructions replace them
masked : (mask value before : ℕ) → kept mask value < 2 ^ 64 → before < 2 ^ 64 → with_bytes mask value before ≡ bit_or (kept mask value) (cleared mask before)
masked mask value before small_kept small =
    let small_cleared : cleared mask before < 2 ^ 64 = omega (arith, and_le_l before (2 ^ 64 - 1 - spread mask)) in
    same_from_bytes (with_bytes mask value before) (bit_or (kept mask value) (cleared mask before)) (with_bytes-lt mask value before) (or_lt 64 (kept mask value) (cleared mask before) small_kept small_cleared)
    (λ k l.
    sym (byte_is k (with_bytes mask value before) l) ∙ byte_at-with_bytes mask value before k l
    ∙ ap (λ x. if bit_at mask k == 1 then x else byte_at k before) (byte_is k value l) ∙ ap (λ y. if bit_at mask k == 1 then byte_of k value else y) (byte_is k before l)
    ∙ choose_byte (bit_at mask k) (byte_of k value) (byte_of k before) (bit_at-lt mask k)
    ∙ ap (λ x. bit_or x ((1 - bit_at mask k) * byte_of k before)) (sym (byte_of_kept mask value k l)) ∙ ap (bit_or (byte_of k (kept mask value))) (sym (byte_of_cleared mask before k l))
    ∙ sym (byte_of_or k (kept mask value) (cleared mask before)))

nothing_left : (n : ℕ) → n - n ≡ 0
nothing_left n = omega arith

none_run : (at : ℕ) → IsRun ((2 ^ 0 - 1) * 2 ^ at) at 0
unfolding spread
none_run at =
    let none : (2 ^ 0 - 1) * 2 ^ at ≡ 0 = omega arith in
    let same : 8 * 0 + 8 * at ≡ 8 * at = omega arith in
    subst (λ m. IsRun m at 0) (sym none) (record { bits = sym (ap (λ n. 2 ^ n - 2 ^ (8 * at)) same ∙ nothing_left (2 ^ (8 * at))); below = lit< tt; byte = lit< tt })

run : (at count : ℕ) → at + count ≤ 8 → IsRun ((2 ^ count - 1) * 2 ^ at) at count
run at zero within = none_run at
run at (suc c) within = run_of at (suc c) (omega arith) within

shifted_field : (v at count : ℕ) → field_of (v * 2 ^ (8 * at)) at count ≡ v % 2 ^ (8 * count)
shifted_field v at count = ap (λ n. n % 2 ^ (8 * count)) (shl-shr v (8 * at))

mask_is : (at count : ℕ) → 2 ^ (at + count) - 2 ^ at ≡ (2 ^ count - 1) * 2 ^ at
mask_is at count =
    let p : 2 ^ (at + count) ≡ 2 ^ at * 2 ^ count = pow-add 2 at count in
    let some : 1 ≤ 2 ^ count = pow_pos count in
    let split : 2 ^ count ≡ 2 ^ count - 1 + 1 = omega arith in
    ap (λ n. n - 2 ^ at) (p ∙ ap (λ n. 2 ^ at * n) split) ∙ times_less (2 ^ at) (2 ^ count - 1)
  where
    times_less : (a b : ℕ) → a * (b + 1) - a ≡ b * a
    times_less a b = omega arith

run_field : (q at count v : ℕ) → q < 2 ^ 64 → at + count ≤ 8 → with_bytes ((2 ^ count - 1) * 2 ^ at) (v * 2 ^ (8 * at)) q ≡ with_field_of q at count v
run_field q at count v small within =
    let mask = (2 ^ count - 1) * 2 ^ at in
    let r = run at count within in
    let small_kept : kept mask (v * 2 ^ (8 * at)) < 2 ^ 64 = omega (arith, and_le_r (v * 2 ^ (8 * at)) (spread mask), r.below) in
    masked mask (v * 2 ^ (8 * at)) q small_kept small ∙ replaced_run mask at count q (v * 2 ^ (8 * at)) v r small (shifted_field v at count)

-- a field replaced is its bytes stored
pub field_stored : (q at count v : ℕ) → q < 2 ^ 64 → at + count ≤ 8 → with_bytes (2 ^ (at + count) - 2 ^ at) (v * 2 ^ (8 * at)) q ≡ with_field_of q at count v
field_stored q at count v small within = ap (λ m. with_bytes m (v * 2 ^ (8 * at)) q) (mask_is at count) ∙ run_field q at count v small within

-- ---- one bit of one byte
-- the byte of a bit
bit_byte : (at n : ℕ) → n < 8 → byte_of at (2 ^ (8 * at + n)) ≡ 2 ^ n
bit_byte at n l =
    let small : 2 ^ n < 2 ^ 8 = pow_below n 8 l in
    let swap : 2 ^ (8 * at) * 2 ^ n ≡ 2 ^ n * 2 ^ (8 * at) = omega arith in
    ap (λ m. m / 2 ^ (8 * at) % 2 ^ 8) (pow-add 2 (8 * at) n ∙ swap) ∙ ap (λ m. m % 2 ^ 8) (shl-shr (2 ^ n) (8 * at)) ∙ mod_small (2 ^ n) small
  where
    mod_small : (m : ℕ) → m < 2 ^ 8 → m % 2 ^ 8 ≡ m
    mod_small m h = omega arith

complement_byte : (m at : ℕ) → m < 2 ^ 64 → at < 8 → byte_of at (2 ^ 64 - 1 - m) ≡ 255 - byte_of at m
complement_byte m at s l =
    below_8 (λ at. byte_of at (2 ^ 64 - 1 - m) ≡ 255 - byte_of at m) (omega arith) (omega arith) (omega arith) (omega arith) (omega arith) (omega arith) (omega arith) (omega arith) at l

place_of_bit : (at n : ℕ) → n < 8 → (8 * at + n) / 8 ≡ at
place_of_bit at n l = omega arith

-- a byte of the quadword replaced, by its bytes
byte_stored : (q at v k : ℕ) → q < 2 ^ 64 → at < 8 → k < 8 → byte_of k (with_field_of q at 1 v) ≡ (if bit_at (2 ^ (at + 1) - 2 ^ at) k == 1 then byte_at k (v * 2 ^ (8 * at)) else byte_at k q)
byte_stored q at v k small l l' =
    ap (byte_of k) (sym (field_stored q at 1 v small (omega arith))) ∙ sym (byte_is k (with_bytes (2 ^ (at + 1) - 2 ^ at) (v * 2 ^ (8 * at)) q) l') ∙ byte_at-with_bytes (2 ^ (at + 1) - 2 ^ at) (v * 2 ^ (8 * at)) q k l'

mask_bit : (at k : ℕ) → at < 8 → k < 8 → bit_at (2 ^ (at + 1) - 2 ^ at) k ≡ (if k == at then 1 else 0)
mask_bit at k l l' =
    below_8 (λ at. (k : ℕ) → k < 8 → bit_at (2 ^ (at + 1) - 2 ^ at) k ≡ (if k == at then 1 else 0))
    (below_8 (λ k. bit_at (2 ^ (0 + 1) - 2 ^ 0) k ≡ (if k == 0 then 1 else 0)) refl refl refl refl refl refl refl refl)
    (below_8 (λ k. bit_at (2 ^ (1 + 1) - 2 ^ 1) k ≡ (if k == 1 then 1 else 0)) refl refl refl refl refl refl refl refl)
    (below_8 (λ k. bit_at (2 ^ (2 + 1) - 2 ^ 2) k ≡ (if k == 2 then 1 else 0)) refl refl refl refl refl refl refl refl)
    (below_8 (λ k. bit_at (2 ^ (3 + 1) - 2 ^ 3) k ≡ (if k == 3 then 1 else 0)) refl refl refl refl refl refl refl refl)
    (below_8 (λ k. bit_at (2 ^ (4 + 1) - 2 ^ 4) k ≡ (if k == 4 then 1 else 0)) refl refl refl refl refl refl refl refl)
    (below_8 (λ k. bit_at (2 ^ (5 + 1) - 2 ^ 5) k ≡ (if k == 5 then 1 else 0)) refl refl refl refl refl refl refl refl)
    (below_8 (λ k. bit_at (2 ^ (6 + 1) - 2 ^ 6) k ≡ (if k == 6 then 1 else 0)) refl refl refl refl refl refl refl refl)
    (below_8 (λ k. bit_at (2 ^ (7 + 1) - 2 ^ 7) k ≡ (if k == 7 then 1 else 0)) refl refl refl refl refl refl refl refl)
    at l k l'

mod_of : (v at : ℕ) → v < 2 ^ 8 → byte_of at (v * 2 ^ (8 * at)) ≡ v
mod_of v at h = ap (λ m. m % 2 ^ 8) (shl-shr v (8 * at)) ∙ small
  where
    small : v % 2 ^ 8 ≡ v
    small = omega arith

-- what changes one byte as it says, and no other, replaces that byte
by_byte : (change : Change) (q at v : ℕ) → q < 2 ^ 64 → at < 8 → v < 2 ^ 8 → changed change q < 2 ^ 64 → byte_of at (changed change q) ≡ v
    → ((k : ℕ) → k < 8 → (k == at) ≡ false → byte_at k (changed change q) ≡ byte_at k q) → with_field_of q at 1 v ≡ changed change q
by_byte change q at v small l lv lc here apart =
    same_from_bytes (with_field_of q at 1 v) (changed change q) whole lc (λ k l'. byte_stored q at v k small l l' ∙ ap (λ b. if b == 1 then byte_at k (v * 2 ^ (8 * at)) else byte_at k q) (mask_bit at k l l') ∙ at_place k l' (k == at) refl)
  where
    whole : with_field_of q at 1 v < 2 ^ 64
    whole = subst (λ n. n < 2 ^ 64) (field_stored q at 1 v small (omega arith)) (with_bytes-lt (2 ^ (at + 1) - 2 ^ at) (v * 2 ^ (8 * at)) q)

    at_place : (k : ℕ) → k < 8 → (b : Bool) → (k == at) ≡ b → (if (if b then 1 else 0) == 1 then byte_at k (v * 2 ^ (8 * at)) else byte_at k q) ≡ byte_of k (changed change q)
    at_place k l' true e =
        let same = eqb-true k at e in
        byte_is k (v * 2 ^ (8 * at)) l' ∙ ap (λ n. byte_of n (v * 2 ^ (8 * at))) same ∙ mod_of v at lv ∙ sym here ∙ ap (λ n. byte_of n (changed change q)) (sym same)
    at_place k l' false e = sym (apart k l' e) ∙ byte_is k (changed change q) l'

set_stored : (q at n : ℕ) → q < 2 ^ 64 → at < 8 → n < 8 → with_field_of q at 1 (bit_or (field_of q at 1) (2 ^ n)) ≡ changed (changes.SetBit (8 * at + n)) q
set_stored q at n small l ln =
    let bit : 8 * at + n < 64 = omega arith in
    let unit : 2 ^ n < 2 ^ 8 = pow_below n 8 ln in
    let byte : field_of q at 1 < 2 ^ 8 = mod_below (q / 2 ^ (8 * at)) (2 ^ 8) (lit< tt) in
    by_byte (changes.SetBit (8 * at + n)) q at (bit_or (field_of q at 1) (2 ^ n)) small l (or_lt 8 (field_of q at 1) (2 ^ n) byte unit) (changed-lt (changes.SetBit (8 * at + n)) q bit small)
    (byte_of_or at q (2 ^ (8 * at + n)) ∙ ap (bit_or (byte_of at q)) (bit_byte at n ln))
    (λ k l' e. others_stay (changes.SetBit (8 * at + n)) q k bit l' (ap (λ m. k == m) (place_of_bit at n ln) ∙ e))

clear_stored : (q at n : ℕ) → q < 2 ^ 64 → at < 8 → n < 8 → with_field_of q at 1 (bit_and (field_of q at 1) (255 - 2 ^ n)) ≡ changed (changes.ClearBit (8 * at + n)) q
clear_stored q at n small l ln =
    let bit : 8 * at + n < 64 = omega arith in
    let unit : 2 ^ (8 * at + n) < 2 ^ 64 = pow_below (8 * at + n) 64 bit in
    let byte : field_of q at 1 < 2 ^ 8 = mod_below (q / 2 ^ (8 * at)) (2 ^ 8) (lit< tt) in
    by_byte (changes.ClearBit (8 * at + n)) q at (bit_and (field_of q at 1) (255 - 2 ^ n)) small l (omega (arith, and_le_l (field_of q at 1) (255 - 2 ^ n), byte)) (changed-lt (changes.ClearBit (8 * at + n)) q bit small)
    (byte_of_and at q (2 ^ 64 - 1 - 2 ^ (8 * at + n)) ∙ ap (bit_and (byte_of at q)) (complement_byte (2 ^ (8 * at + n)) at unit l ∙ ap (λ m. 255 - m) (bit_byte at n ln)))
    (λ k l' e. others_stay (changes.ClearBit (8 * at + n)) q k bit l' (ap (λ m. k == m) (place_of_bit at n ln) ∙ e))

-- what a reference leaves of its quadword is what its change makes of it
pub left_changed : (what : RefKind) (q at count : ℕ) → q < 2 ^ 64 → at + byte_count_of what count ≤ 8 → FitsKind what → block.is_of_memory what ≡ true → block.left_by what at count q ≡ changed (change_by what at count) q
left_changed Read q at count small within fits m = refl
left_changed (Write value) q at count small within fits m = sym (field_stored q at count value small within)
left_changed (Add value) q at count small within fits m = sym (run_field q at 2 ((word_at at q + value) % 2 ^ 16) small within)
left_changed (SetBit n) q at count small within fits m = set_stored q at n small (omega arith) fits
left_changed (ClearBit n) q at count small within fits m = clear_stored q at n small (omega arith) fits
left_changed (Put byte) q at count small within fits m = absurd (cc m)
left_changed Get q at count small within fits m = absurd (cc m)
