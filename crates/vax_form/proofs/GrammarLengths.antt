-- An instruction has at most 61 bytes, so more of them are never wanted.
use Rattle.std.proofs.Common.{◌≡◌, ℕ, ◌+◌, ◌%◌, ◌<◌, ◌≤◌, leb, List, [], ◌∷◌, length, Option, Some, None, refl, ap, inl, inr, arith}
use Rattle.std.proofs.lemmas.Bool.{leb-false}
use Rattle.std.specs.Option.{option_map}
use Rattle.std.proofs.lemmas.Option.{some_pair_parts}
use Rattle.vax_form.specs.Size.{bytes_of}
use Rattle.vax_form.specs.GrammarModes.{extension_size, is_reserved_base, is_reserved_mode, mode_of}
use Rattle.vax_form.specs.GrammarReading.{read_base, read_by_mode, read_displacement, read_extension, read_general, read_number, read_plain, read_specifier, reserved}
use Rattle.vax_form.proofs.GrammarFinds.{IsExtension, chosen, option_map-some, read_extension-some}
use Rattle.vax_form.specs.declared.mode.Mode.{Mode}
use Rattle.vax_form.specs.declared.mode.Mode.TheVariants as mode
use Rattle.vax_form.specs.declared.instr.Size.{Size}
use Rattle.vax_form.specs.declared.instr.Size.TheVariants.{Byte, Word, Long, Quad}
use Rattle.vax_form.specs.declared.instr.Access.{Access}
use Rattle.vax_form.specs.declared.instr.Access.TheVariants as access

pub option_map-none : {A B : Type 0} (f : A → B) (o : Option A) → option_map f o ≡ None → o ≡ None
option_map-none f None e = refl
option_map-none f (Some x) e = absurd cc

pub bytes_of-most : (size : Size) → bytes_of size ≤ 8
bytes_of-most Byte = omega arith
bytes_of-most Word = omega arith
bytes_of-most Long = omega arith
bytes_of-most Quad = omega arith

-- ---- how many bytes are read

read_number-none : (size : Size) (bytes : List ℕ) → read_number size bytes ≡ None → length bytes < 8
unfolding read_number
read_number-none size bytes e = elim (chosen (leb (bytes_of size) (length bytes)) _ _ _ e) [
  | inl h ↦ absurd (let none = h.1 in cc)
  | inr h ↦ (let short = leb-false _ _ h.0 in omega (arith, bytes_of-most size))
]

read_extension-none : (o : Option Size) (bytes : List ℕ) → read_extension o bytes ≡ None → length bytes < 8
unfolding read_extension
read_extension-none None bytes e = absurd cc
read_extension-none (Some size) bytes e = read_number-none size bytes (option_map-none _ (read_number size bytes) e)

IsExtension-most : (o : Option Size) (rest : List ℕ) (value len : ℕ) → IsExtension o rest value len → len ≤ 8
IsExtension-most None rest value len x = omega (arith, x.1)
IsExtension-most (Some size) rest value len x = omega (arith, x.1, bytes_of-most size)

-- more bytes are wanted only where there are few
abbrev pub IsShort : ℕ → List ℕ → {X : Type 0} → Option (X × ℕ) → Type 0
IsShort most bytes None = length bytes < most
IsShort most bytes (Some r) = r.1 ≤ most

pub IsShort-from : {X : Type 0} (most : ℕ) (bytes : List ℕ) (o : Option (X × ℕ)) → (o ≡ None → length bytes < most)
    → ((x : X) (n : ℕ) → o ≡ Some (x, n) → n ≤ most) → IsShort most bytes o
IsShort-from most bytes None none some = none refl
IsShort-from most bytes (Some r) none some = some r.0 r.1 refl

read_plain-short : (a : Access) (size : Size) (at first : ℕ) (m : Mode) (rest : List ℕ)
    → IsShort 9 (first ∷ rest) (read_plain a size at first m rest)
unfolding read_plain
read_plain-short a size at first m rest =
    let bad = is_reserved_mode a size (first % 16) m in
    let o = extension_size size m in
    IsShort-from 9 (first ∷ rest) (read_plain a size at first m rest)
    (λ e. elim (chosen bad _ _ _ e) [
      | inl h ↦ absurd (let none = h.1 in cc)
      | inr h ↦ (let short = read_extension-none o rest (option_map-none _ (read_extension o rest) h.1) in omega arith)
    ])
    (λ x n e. elim (chosen bad _ _ _ e) [
      | inl h ↦ (let p = some_pair_parts reserved x 1 n h.1 in omega (arith, p.1))
      | inr h ↦ (
          let y = option_map-some _ (read_extension o rest) _ h.1 in
          let most = IsExtension-most o rest y.0.0 y.0.1 (read_extension-some o rest y.0.0 y.0.1 y.1) in
          omega (arith, ap (λ p. p.1) y.2))
    ])

read_base-short : (size : Size) (at x first : ℕ) (rest : List ℕ) → IsShort 10 (first ∷ rest) (read_base size at x rest)
unfolding read_base
read_base-short size at x first [] = omega arith
read_base-short size at x first (byte ∷ rest) =
    let bad = is_reserved_base x (byte % 16) (mode_of byte) in
    let o = extension_size size (mode_of byte) in
    IsShort-from 10 (first ∷ byte ∷ rest) (read_base size at x (byte ∷ rest))
    (λ e. elim (chosen bad _ _ _ e) [
      | inl h ↦ absurd (let none = h.1 in cc)
      | inr h ↦ (let short = read_extension-none o rest (option_map-none _ (read_extension o rest) h.1) in omega arith)
    ])
    (λ x n e. elim (chosen bad _ _ _ e) [
      | inl h ↦ (let p = some_pair_parts reserved x 2 n h.1 in omega (arith, p.1))
      | inr h ↦ (
          let y = option_map-some _ (read_extension o rest) _ h.1 in
          let most = IsExtension-most o rest y.0.0 y.0.1 (read_extension-some o rest y.0.0 y.0.1 y.1) in
          omega (arith, ap (λ p. p.1) y.2))
    ])

IsShort-more : {X : Type 0} (few most : ℕ) (bytes : List ℕ) (o : Option (X × ℕ)) → few ≤ most → IsShort few bytes o → IsShort most bytes o
IsShort-more few most bytes None le h = omega arith
IsShort-more few most bytes (Some r) le h = omega arith

read_by_mode-short : (a : Access) (size : Size) (at first : ℕ) (m : Mode) (rest : List ℕ)
    → IsShort 10 (first ∷ rest) (read_by_mode a size at first m rest)
unfolding read_by_mode
read_by_mode-short a size at first mode.Index rest = read_base-short size (at + 1) (first % 16) first rest
read_by_mode-short a size at first m rest =
    IsShort-more 9 10 (first ∷ rest) (read_plain a size at first m rest) (omega arith) (read_plain-short a size at first m rest)

read_general-short : (a : Access) (size : Size) (at : ℕ) (bytes : List ℕ) → IsShort 10 bytes (read_general a size at bytes)
unfolding read_general
read_general-short a size at [] = omega arith
read_general-short a size at (first ∷ rest) = read_by_mode-short a size at first (mode_of first) rest

read_displacement-short : (size : Size) (at : ℕ) (bytes : List ℕ) → IsShort 10 bytes (read_displacement size at bytes)
unfolding read_displacement
read_displacement-short size at bytes =
    IsShort-from 10 bytes (read_displacement size at bytes)
    (λ e. let short = read_number-none size bytes (option_map-none _ (read_number size bytes) e) in omega arith)
    (λ x n e. let y = option_map-some _ (read_number size bytes) _ e in omega (arith, ap (λ p. p.1) y.2, bytes_of-most size))

pub read_specifier-short : (a : Access) (size : Size) (at : ℕ) (bytes : List ℕ) → IsShort 10 bytes (read_specifier a size at bytes)
unfolding read_specifier
read_specifier-short access.Branch size at bytes = read_displacement-short size at bytes
read_specifier-short a size at bytes = read_general-short a size at bytes
