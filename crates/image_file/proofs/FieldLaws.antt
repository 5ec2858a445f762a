-- Numbers and tables that are read are those that were written.
use Rattle.std.proofs.Common.{◌≡◌, ℕ, zero, suc, ◌+◌, ◌*◌, ◌^◌, ◌<◌, ◌≤◌, List, [], ◌∷◌, ◌++◌, length, get_or, take, drop, refl, sym, ap, ◌∙◌, arith, append_assoc}
use Rattle.std.specs.List.{flat_map, AllByRecursion}
use Rattle.std.specs.Int.{w16, w32, to_le_bytes, from_le_bytes}
use Rattle.std.proofs.lemmas.Bool.{cases_lt}
use Rattle.std.proofs.Common.{inl, inr}
use Rattle.std.proofs.lemmas.List.{take_at, drop_at, length-append, length-take, length-drop, get_or-drop, get_or-take, get_or_past}
use Rattle.std.proofs.lemmas.Nat.{le_bytes_2, le_bytes_4, from_le_bytes-to_le_bytes_4}
use Rattle.image_file.specs.Spelling.{row_bytes}
use Rattle.image_file.specs.Reading.{half, word, table_in, row_in}

abbrev pub IsBytes : List ℕ → Type 0
IsBytes bytes = (i : ℕ) → get_or bytes i 0 < 256

pub IsBytes-drop : (n : ℕ) (bytes : List ℕ) → IsBytes bytes → IsBytes (drop n bytes)
IsBytes-drop n bytes fits i = rw get_or-drop (fits (n + i))

pub IsBytes-take : (n : ℕ) (bytes : List ℕ) → IsBytes bytes → IsBytes (take n bytes)
IsBytes-take n bytes fits i =
    elim (cases_lt i n) [
      | inl lt ↦ rw (get_or-take n bytes i 0 lt) (fits i)
      | inr le ↦ rw (get_or_past (take n bytes) i 0 (omega (arith, length-take n bytes))) (omega arith)
    ]

take_nil : (n : ℕ) → take {A = ℕ} n [] ≡ []
take_nil zero = refl
take_nil (suc n) = refl

-- two parts in a row
pub take_join : (a b : ℕ) (bytes : List ℕ) → take a bytes ++ take b (drop a bytes) ≡ take (a + b) bytes
take_join zero b bytes = let none : b ≡ 0 + b = omega arith in ap (λ n. take n bytes) none
take_join (suc a) b [] = take_nil b ∙ sym (take_nil (suc a + b))
take_join (suc a) b (x ∷ xs) = let one : suc (a + b) ≡ suc a + b = omega arith in ap (λ rest. x ∷ rest) (take_join a b xs) ∙ ap (λ n. take n (x ∷ xs)) one

pub half_back : (bytes : List ℕ) → 2 ≤ length bytes → IsBytes bytes → to_le_bytes w16 (half bytes) ≡ take 2 bytes
half_back bytes long fits = le_bytes_2 (take 2 bytes) (half bytes) (omega (arith, length-take 2 bytes)) (IsBytes-take 2 bytes fits) refl

pub word_back : (bytes : List ℕ) → 4 ≤ length bytes → IsBytes bytes → to_le_bytes w32 (word bytes) ≡ take 4 bytes
word_back bytes long fits = le_bytes_4 (take 4 bytes) (word bytes) (omega (arith, length-take 4 bytes)) (IsBytes-take 4 bytes fits) refl

pub word_fits : (bytes : List ℕ) → IsBytes bytes → word bytes < 2 ^ 32
word_fits bytes fits = let part : IsBytes (take 4 bytes) = IsBytes-take 4 bytes fits in omega (arith, part 0, part 1, part 2, part 3)

pub word_again : (n : ℕ) (rest : List ℕ) → n < 2 ^ 32 → word (to_le_bytes w32 n ++ rest) ≡ n
word_again n rest fits = ap (from_le_bytes w32) (take_at (to_le_bytes w32 n) rest 4 refl) ∙ from_le_bytes-to_le_bytes_4 n fits

-- ---- tables

pub length-table : {X : Type 0} (width : ℕ) (read : List ℕ → X) (count : ℕ) (bytes : List ℕ) → length (table_in width read count bytes) ≡ count
length-table width read zero bytes = refl
length-table width read (suc count) bytes = ap suc (length-table width read count (drop width bytes))

one_more : (width count : ℕ) → width + width * count ≡ width * suc count
one_more width count = omega arith

pub table_back : {X : Type 0} (width : ℕ) (read : List ℕ → X) (write : X → List ℕ) → ((bytes : List ℕ) → width ≤ length bytes → IsBytes bytes → write (read bytes) ≡ take width bytes)
    → (count : ℕ) (bytes : List ℕ) → width * count ≤ length bytes → IsBytes bytes → flat_map write (table_in width read count bytes) ≡ take (width * count) bytes
table_back width read write back zero bytes long fits = let none : 0 ≡ width * 0 = omega arith in ap (λ n. take n bytes) none
table_back width read write back (suc count) bytes long fits =
    (λ i. back bytes (omega arith) fits i ++ table_back width read write back count (drop width bytes) (omega (arith, length-drop width bytes)) (IsBytes-drop width bytes fits) i)
    ∙ take_join width (width * count) bytes ∙ ap (λ n. take n bytes) (one_more width count)

pub table_all : {X : Type 0} (P : X → Type 0) (width : ℕ) (read : List ℕ → X) → ((bytes : List ℕ) → IsBytes bytes → P (read bytes))
    → (count : ℕ) (bytes : List ℕ) → IsBytes bytes → AllByRecursion P (table_in width read count bytes)
table_all P width read each zero bytes fits = tt
table_all P width read each (suc count) bytes fits = (each bytes fits, table_all P width read each count (drop width bytes) (IsBytes-drop width bytes fits))

pub table_again : {X : Type 0} (P : X → Type 0) (width : ℕ) (read : List ℕ → X) (write : X → List ℕ)
    → ((x : X) (rest : List ℕ) → P x → read (write x ++ rest) ≡ x) → ((x : X) → P x → length (write x) ≡ width)
    → (xs : List X) (rest : List ℕ) → AllByRecursion P xs → table_in width read (length xs) (flat_map write xs ++ rest) ≡ xs
table_again P width read write again wide [] rest fits = refl
table_again P width read write again wide (x ∷ xs) rest fits =
    let whole : flat_map write (x ∷ xs) ++ rest ≡ write x ++ (flat_map write xs ++ rest) = append_assoc (write x) (flat_map write xs) rest in
    ap (table_in width read (suc (length xs))) whole
    ∙ (λ i. again x (flat_map write xs ++ rest) fits.0 i ∷ table_in width read (length xs) (drop_at (write x) (flat_map write xs ++ rest) width (wide x fits.0) i))
    ∙ ap (λ ys. x ∷ ys) (table_again P width read write again wide xs rest fits.1)

pub length-written : {X : Type 0} (P : X → Type 0) (width : ℕ) (write : X → List ℕ) → ((x : X) → P x → length (write x) ≡ width)
    → (xs : List X) → AllByRecursion P xs → length (flat_map write xs) ≡ width * length xs
length-written P width write wide [] fits = omega arith
length-written P width write wide (x ∷ xs) fits = omega (arith, length-append (write x) (flat_map write xs), wide x fits.0, length-written P width write wide xs fits.1)

pub row_back : (bytes : List ℕ) → 16 ≤ length bytes → IsBytes bytes → row_bytes (row_in bytes) ≡ take 16 bytes
row_back bytes long fits =
    (λ i. word_back bytes (omega arith) fits i ++ word_back (drop 4 bytes) (omega (arith, length-drop 4 bytes)) (IsBytes-drop 4 bytes fits) i
    ++ word_back (drop 8 bytes) (omega (arith, length-drop 8 bytes)) (IsBytes-drop 8 bytes fits) i ++ word_back (drop 12 bytes) (omega (arith, length-drop 12 bytes)) (IsBytes-drop 12 bytes fits) i)
    ∙ (λ i. take_join 4 4 bytes i ++ take 4 (drop 8 bytes) ++ take 4 (drop 12 bytes))
    ∙ (λ i. take_join 8 4 bytes i ++ take 4 (drop 12 bytes))
    ∙ take_join 12 4 bytes
