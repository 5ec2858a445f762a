-- The quadwords that an image starts with, by its sections.
use Rattle.std.proofs.Common.{◌≡◌, ℕ, ◌≤◌, ◌+◌, ◌-◌, ◌/◌, ◌%◌, Bool, true, false, cond, List, [], ◌∷◌, Option, Some, None, option_map, unwrap_or, slice_index, find, map, sym, ap, ◌∙◌, subst, arith}
use Rattle.std.proofs.lemmas.Bool.Decides.{nat_tests}
use Rattle.std.specs.List.{list_all}
use Rattle.vax_form.proofs.PageTable.{found_passes}
use Rattle.image_file.specs.Memory.{has_address, byte_in}
use Rattle.image_file.specs.Rows.{is_sound, has_page}
use Rattle.image_file.specs.Spelling.{row_of}
use Rattle.image_file.specs.Values.{SectionValue, ImageValue}
use Rattle.image_file.specs.Whole.{IsWhole}
use Rattle.memory_core.specs.Bytes.{quad_of}
use Rattle.memory_core.specs.Opening.{opening}
use Rattle.memory_core.proofs.Choices.{first_true, second_true}
use Rattle.memory_core.proofs.Filling.{same_quad}

abbrev byte_of : Option SectionValue → ℕ → ℕ
byte_of found address = unwrap_or (option_map (λ (s : SectionValue). slice_index s.stored (address - s.start)) found) 0

-- all bytes of a quadword stand in the same section
module _ (image : ImageValue) (address : ℕ) (aligned : address % 8 ≡ 0) where
  opening_is : opening image address ≡ quad_of (λ at. byte_of (find (has_address address) image.sections) (address + at))
  unfolding opening
  opening_is =
      same_quad (λ at. byte_in image (address + at)) (λ at. byte_of (find (has_address address) image.sections) (address + at))
      (λ at l. let page : (address + at) / 512 ≡ address / 512 = omega arith in
      ap (λ (p : ℕ). byte_of (find (λ (s : SectionValue). has_page p (row_of s)) image.sections) (address + at)) page)

  pub opening_outside : find (has_address address) image.sections ≡ None → 0 ≡ opening image address
  opening_outside h = sym (opening_is ∙ ap (λ (f : Option SectionValue). quad_of (λ at. byte_of f (address + at))) h)

  pub opening_inside : (s : SectionValue) (offset : ℕ) → find (has_address address) image.sections ≡ Some s → s.start ≤ address → offset ≡ address - s.start → quad_of (λ at. slice_index s.stored (offset + at)) ≡ opening image address
  opening_inside s offset h l o =
      sym (opening_is ∙ ap (λ (f : Option SectionValue). quad_of (λ at. byte_of f (address + at))) h
      ∙ same_quad (λ at. slice_index s.stored (address + at - s.start)) (λ at. slice_index s.stored (offset + at))
      (λ at _. let e : address + at - s.start ≡ offset + at = omega arith in ap (slice_index s.stored) e))

-- ---- a section that is found begins at the address or below

found_step : {A : Type 0} (P : A → Type 0) (y x : A) (rest : Option A) → P y → (rest ≡ Some x → P x) → (b : Bool) → cond b (Some y) rest ≡ Some x → P x
found_step P y x rest here later true h = let same : y ≡ x = cc h in subst P same here
found_step P y x rest here later false h = later h

-- what passes a test is found by another, and what all pass
found_among : {A B : Type 0} (test : A → Bool) (form : A → B) (all : B → Bool) (xs : List A) (x : A) → list_all all (map form xs) ≡ true → find test xs ≡ Some x → all (form x) ≡ true
found_among test form all [] x a h = absurd (cc h)
found_among test form all (y ∷ ys) x a h =
    found_step (λ z. all (form z) ≡ true) y x (find test ys) (first_true (all (form y)) (list_all all (map form ys)) a)
    (found_among test form all ys x (second_true (all (form y)) (list_all all (map form ys)) a)) (test y) h

low : (s : SectionValue) (address : ℕ) → is_sound (row_of s) ≡ true → has_address address s ≡ true → s.start ≤ address
low s address h t =
    let at_page : s.start % 512 ≡ 0 = grind (arith, nat_tests) in
    let first : s.start / 512 ≤ address / 512 = grind (arith, nat_tests) in
    omega arith

pub found_low : (image : ImageValue) → IsWhole image → (address : ℕ) (s : SectionValue) → find (has_address address) image.sections ≡ Some s → s.start ≤ address
found_low image whole address s h =
    low s address (found_among (has_address address) row_of is_sound image.sections s whole.laid_out.sound h) (found_passes (has_address address) image.sections s h)
