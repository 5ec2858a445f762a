-- What one more instruction adds to the numbers of opcodes.
use Rattle.std.proofs.Common.{◌≡◌, ◌≢◌, ◌<◌, ◌≤◌, ◌+◌, ℕ, zero, suc, Bool, true, false, cond, List, [], ◌∷◌, ◌&&◌, drop, get_or, replicate, length, nat_eq, sym, ap, ap₂, ◌∙◌, arith, inl, inr, get_or-set_other, get_or-set_same}
use Rattle.std.specs.Prelude.{filter, slice_set}
use Rattle.std.proofs.Math.Bool.{and-false}
use Rattle.std.proofs.lemmas.List.{get_or-replicate}
use Rattle.std.proofs.lemmas.Bool.{cases_eq, eq-eqb, ne_eqb}
use Rattle.vax_form.specs.declared.instr.Instr.{Instr}
use Rattle.vax_form.specs.declared.pages.Pages.{Pages}
use Rattle.image_text.specs.Text.{has_opcode, is_interpreted}

one_in : (p : Instr → Bool) (xs : List Instr) (i : ℕ) (d : Instr) → i < length xs → p (get_or xs i d) ≡ true → length (filter p (drop i xs)) ≡ 1 + length (filter p (drop (i + 1) xs))
one_in p [] i d h t = absurd (omega arith)
one_in p (x ∷ xs) zero d h t =
    let more : suc (length (filter p xs)) ≡ 1 + length (filter p xs) = omega arith in
    ap (λ b. length (cond b (x ∷ filter p xs) (filter p xs))) t ∙ more
one_in p (x ∷ xs) (suc i) d h t =
    let next : suc (i + 1) ≡ suc i + 1 = omega arith in
    one_in p xs i d (omega arith) t ∙ ap (λ n. 1 + length (filter p (drop n (x ∷ xs)))) next

one_out : (p : Instr → Bool) (xs : List Instr) (i : ℕ) (d : Instr) → i < length xs → p (get_or xs i d) ≡ false → length (filter p (drop i xs)) ≡ length (filter p (drop (i + 1) xs))
one_out p [] i d h t = absurd (omega arith)
one_out p (x ∷ xs) zero d h t = ap (λ b. length (cond b (x ∷ filter p xs) (filter p xs))) t
one_out p (x ∷ xs) (suc i) d h t =
    let next : suc (i + 1) ≡ suc i + 1 = omega arith in
    one_out p xs i d (omega arith) t ∙ ap (λ n. length (filter p (drop n (x ∷ xs)))) next

-- before the first instruction
pub none_counted : (pages : Pages) (counts : List ℕ) (xs : List Instr) (k : ℕ) → counts ≡ replicate 256 0 → k < 256 → get_or counts k 0 + length (filter (has_opcode pages k) xs) ≡ length (filter (has_opcode pages k) xs)
none_counted pages counts xs k zeros h =
    let none : get_or counts k 0 ≡ 0 = ap (λ v. get_or v k 0) zeros ∙ get_or-replicate 256 k 0 0 h in
    omega (arith, none)

pub none_yet : (counts : List ℕ) (k : ℕ) → counts ≡ replicate 256 0 → k < 256 → get_or counts k 0 ≤ 0
none_yet counts k zeros h =
    let none : get_or counts k 0 ≡ 0 = ap (λ v. get_or v k 0) zeros ∙ get_or-replicate 256 k 0 0 h in
    omega (arith, none)

-- an instruction that has a block
pub left_out : (pages : Pages) (counts : List ℕ) (xs : List Instr) (i k all : ℕ) (d : Instr) → i < length xs → is_interpreted pages (get_or xs i d) ≡ false
    → get_or counts k 0 + length (filter (has_opcode pages k) (drop i xs)) ≡ all → get_or counts k 0 + length (filter (has_opcode pages k) (drop (i + 1) xs)) ≡ all
left_out pages counts xs i k all d h t before =
    let none : has_opcode pages k (get_or xs i d) ≡ false = ap (λ b. nat_eq (get_or xs i d).opcode k && b) t ∙ and-false (nat_eq (get_or xs i d).opcode k) in
    ap (λ n. get_or counts k 0 + n) (sym (one_out (has_opcode pages k) xs i d h none)) ∙ before

-- one without
pub counted : (pages : Pages) (counts : List ℕ) (xs : List Instr) (i k all opcode : ℕ) (d : Instr) → i < length xs → is_interpreted pages (get_or xs i d) ≡ true → opcode ≡ (get_or xs i d).opcode
    → opcode < length counts
    → get_or counts k 0 + length (filter (has_opcode pages k) (drop i xs)) ≡ all
    → get_or (slice_set counts opcode (get_or counts opcode 0 + 1)) k 0 + length (filter (has_opcode pages k) (drop (i + 1) xs)) ≡ all
counted pages counts xs i k all opcode d h t is within before = elim (cases_eq opcode k) [
  | inl same ↦ (
      let has : has_opcode pages k (get_or xs i d) ≡ true = ap₂ (λ a b. a && b) (eq-eqb (get_or xs i d).opcode k (sym is ∙ same)) t in
      let here : get_or (slice_set counts opcode (get_or counts opcode 0 + 1)) k 0 ≡ get_or counts k 0 + 1 =
      ap (λ n. get_or (slice_set counts opcode (get_or counts opcode 0 + 1)) n 0) (sym same)
      ∙ get_or-set_same counts opcode (get_or counts opcode 0 + 1) 0 within ∙ ap (λ n. get_or counts n 0 + 1) same in
      omega (arith, here, before, one_in (has_opcode pages k) xs i d h has))
  | inr apart ↦ (
      let other : k ≢ opcode = λ e. apart (sym e) in
      let none : has_opcode pages k (get_or xs i d) ≡ false = ap (λ b. b && is_interpreted pages (get_or xs i d)) (ne_eqb (get_or xs i d).opcode k (λ e. apart (is ∙ e))) in
      ap₂ (λ m n. m + n) (get_or-set_other counts opcode k (get_or counts opcode 0 + 1) 0 other) (sym (one_out (has_opcode pages k) xs i d h none)) ∙ before)
]

pub most_counted : (counts : List ℕ) (k opcode most : ℕ) → opcode < length counts → get_or counts opcode 0 ≤ most → get_or counts k 0 ≤ most
    → get_or (slice_set counts opcode (get_or counts opcode 0 + 1)) k 0 ≤ most + 1
most_counted counts k opcode most within here there = elim (cases_eq opcode k) [
  | inl same ↦ (
      let more : get_or (slice_set counts opcode (get_or counts opcode 0 + 1)) k 0 ≡ get_or counts opcode 0 + 1 =
      ap (λ n. get_or (slice_set counts opcode (get_or counts opcode 0 + 1)) n 0) (sym same) ∙ get_or-set_same counts opcode (get_or counts opcode 0 + 1) 0 within in
      omega (arith, more, here))
  | inr apart ↦ (
      let other : k ≢ opcode = λ e. apart (sym e) in
      let same : get_or (slice_set counts opcode (get_or counts opcode 0 + 1)) k 0 ≡ get_or counts k 0 = get_or-set_other counts opcode k (get_or counts opcode 0 + 1) 0 other in
      omega (arith, same, there))
]
