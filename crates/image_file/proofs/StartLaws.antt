-- Starts of threads that are read are those that were written, in either version.
use Rattle.std.proofs.Common.{◌≡◌, ◌≢◌, ℕ, zero, suc, ◌+◌, ◌-◌, ◌^◌, ◌<◌, ◌≤◌, Bool, true, false, cond, List, [], ◌++◌, length, take, drop, refl, sym, ap, ◌∙◌, arith, lit<, lit≤, replicate}
use Rattle.std.specs.Prelude.{◌==◌}
use Rattle.std.specs.List.{flat_map, AllByRecursion}
use Rattle.std.specs.Int.{w32, to_le_bytes}
use Rattle.std.proofs.lemmas.Bool.{eqb-true, ne_eqb}
use Rattle.std.proofs.lemmas.List.{length-drop}
use Rattle.image_file.specs.declared.image.Start.{Start}
use Rattle.image_file.specs.Limits.{start_width}
use Rattle.image_file.specs.Spelling.{first_bytes, start_bytes}
use Rattle.image_file.specs.Whole.{IsStart}
use Rattle.image_file.specs.Reading.{word, table_in, first_in, start_in}
use Rattle.image_file.proofs.FieldLaws.{IsBytes, IsBytes-drop, take_join, word_back, word_fits, word_again, length-table, table_back, table_all, table_again, length-written}

abbrev IsLong : ℕ → Type 0
IsLong value = value < 2 ^ 32

pub start_wide : (version : ℕ) → 8 ≤ start_width version
start_wide version = elim (version == 1) as (λ b. 8 ≤ cond b 8 64) [ true ↦ lit≤ tt | false ↦ lit≤ tt ]

pub first_of_1 : (version : ℕ) (bytes : List ℕ) → version ≡ 1 → first_in version bytes ≡ replicate 14 0
unfolding first_in
first_of_1 version bytes one = ap (λ v. first_in v bytes) one

pub first_of_2 : (version : ℕ) (bytes : List ℕ) → version ≢ 1 → first_in version bytes ≡ table_in 4 word 14 bytes
unfolding first_in
first_of_2 version bytes other = rw (ne_eqb version 1 other) refl

-- ---- what is read, written again

back_by : (b : Bool) (bytes : List ℕ) → cond b 8 64 ≤ 8 + length bytes → IsBytes bytes
    → cond b [] (flat_map (to_le_bytes w32) (cond b (replicate 14 0) (table_in 4 word 14 bytes))) ≡ take (cond b 8 64 - 8) bytes
back_by true bytes long fits = refl
back_by false bytes long fits = table_back 4 word (to_le_bytes w32) word_back 14 bytes (omega arith) fits

first_back : (version : ℕ) (bytes : List ℕ) → start_width version ≤ 8 + length bytes → IsBytes bytes → first_bytes version (first_in version bytes) ≡ take (start_width version - 8) bytes
unfolding first_in
first_back version bytes long fits = back_by (version == 1) bytes long fits

pub start_back : (version : ℕ) (bytes : List ℕ) → start_width version ≤ length bytes → IsBytes bytes → start_bytes version (start_in version bytes) ≡ take (start_width version) bytes
start_back version bytes long fits =
    let wide = start_wide version in
    let first = first_back version (drop 8 bytes) (omega (arith, length-drop 8 bytes)) (IsBytes-drop 8 bytes fits) in
    let whole : 8 + (start_width version - 8) ≡ start_width version = omega (arith, wide) in
    (λ i. word_back bytes (omega (arith, wide)) fits i ++ word_back (drop 4 bytes) (omega (arith, wide, length-drop 4 bytes)) (IsBytes-drop 4 bytes fits) i ++ first i)
    ∙ (λ i. take_join 4 4 bytes i ++ take (start_width version - 8) (drop 8 bytes))
    ∙ take_join 8 (start_width version - 8) bytes
    ∙ ap (λ n. take n bytes) whole

-- ---- what is written, read again

again_by : (b : Bool) (first rest : List ℕ) → length first ≡ 14 → AllByRecursion IsLong first → (b ≡ true → first ≡ replicate 14 0)
    → cond b (replicate 14 0) (table_in 4 word 14 (cond b [] (flat_map (to_le_bytes w32) first) ++ rest)) ≡ first
again_by true first rest count fits cleared = sym (cleared refl)
again_by false first rest count fits cleared =
    ap (λ n. table_in 4 word n (flat_map (to_le_bytes w32) first ++ rest)) (sym count) ∙ table_again IsLong 4 word (to_le_bytes w32) word_again (λ x fit. refl) first rest fits

pub start_again : (version : ℕ) (t : Start) (rest : List ℕ) → IsStart version t → start_in version (start_bytes version t ++ rest) ≡ t
unfolding first_in
start_again version t rest is =
    let first = again_by (version == 1) t.first rest is.fits.count is.fits.first (λ one. is.cleared (eqb-true version 1 one)) in
    λ i. record {
      pc = word_again t.pc (to_le_bytes w32 t.sp ++ (first_bytes version t.first ++ rest)) is.fits.pc i;
      sp = word_again t.sp (first_bytes version t.first ++ rest) is.fits.sp i;
      first = first i;
    }

long_by : (b : Bool) (first : List ℕ) → length first ≡ 14 → AllByRecursion IsLong first → 8 + length (cond b [] (flat_map (to_le_bytes w32) first)) ≡ cond b 8 64
long_by true first count fits = refl
long_by false first count fits = omega (arith, count, length-written IsLong 4 (to_le_bytes w32) (λ x fit. refl) first fits)

pub start_long : (version : ℕ) (t : Start) → IsStart version t → length (start_bytes version t) ≡ start_width version
start_long version t is = omega (arith, long_by (version == 1) t.first is.fits.count is.fits.first)

-- ---- what is read is a start

zeros : (n : ℕ) → AllByRecursion IsLong (replicate n 0)
zeros zero = tt
zeros (suc n) = (lit< tt, zeros n)

pub is_start : (version : ℕ) (bytes : List ℕ) → IsBytes bytes → IsStart version (start_in version bytes)
unfolding first_in
is_start version bytes fits = record {
  fits = record {
    pc = word_fits bytes fits;
    sp = word_fits (drop 4 bytes) (IsBytes-drop 4 bytes fits);
    count = elim (version == 1) as (λ b. length (cond b (replicate 14 0) (table_in 4 word 14 (drop 8 bytes))) ≡ 14) [ true ↦ refl | false ↦ length-table 4 word 14 (drop 8 bytes) ];
    first = elim (version == 1) as (λ b. AllByRecursion IsLong (cond b (replicate 14 0) (table_in 4 word 14 (drop 8 bytes)))) [
      | true ↦ zeros 14
      | false ↦ table_all IsLong 4 word word_fits 14 (drop 8 bytes) (IsBytes-drop 8 bytes fits)
    ];
  };
  cleared = first_of_1 version (drop 8 bytes);
}
