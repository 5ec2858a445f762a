-- Regions as the sections of an image have them.
use Rattle.std.proofs.Common.{◌≡◌, ℕ, zero, suc, ◌<◌, ◌≤◌, ◌+◌, ◌-◌, ◌*◌, ◌/◌, ◌%◌, ◌&&◌, Bool, true, false, List, [], ◌∷◌, ◌++◌, Option, Some, if◌then◌else◌, length, map, take, get_or, slice_index, nat_le, nat_lt, refl, sym, ap, ◌∙◌, subst, arith}
use Rattle.std.specs.Prelude.{find, option_map, replicate, unwrap_or}
use Rattle.std.specs.List.{list_all}
use Rattle.std.proofs.lemmas.Bool.Decides.{nat_tests}
use Rattle.std.proofs.lemmas.List.{length-append, length-replicate, take_more, take_all}
use Rattle.std.proofs.Math.Path.{fun_ext}
use Rattle.image_file.specs.Memory as images
use Rattle.image_file.specs.Memory.{byte_at, byte_in}
use Rattle.image_file.specs.Pages.{section_bytes}
use Rattle.image_file.specs.Rows.{is_sound, page_bytes, page_count}
use Rattle.image_file.specs.Spelling.{row_of}
use Rattle.image_file.specs.Values.{SectionValue, ImageValue}
use Rattle.stored_runs.specs.Memory.{IsRegion, byte_among, has_address}
use Rattle.stored_runs.specs.declared.memory.Region.{Region}

-- a region for each section
abbrev pub AreRegions : List SectionValue → List Region → Type 0
AreRegions [] [] = Unit {0}
AreRegions [] (r ∷ regions) = ⊥
AreRegions (s ∷ sections) [] = ⊥
AreRegions (s ∷ sections) (r ∷ regions) = IsRegion s r × AreRegions sections regions

joined : (sections : List SectionValue) (regions : List Region) (s : SectionValue) (r : Region) → AreRegions sections regions → IsRegion s r
    → AreRegions (sections ++ s ∷ []) (regions ++ r ∷ [])
joined [] [] s r are is = (is, tt)
joined [] (q ∷ regions) s r are is = absurd are
joined (t ∷ sections) [] s r are is = absurd are
joined (t ∷ sections) (q ∷ regions) s r are is = (are.0, joined sections regions s r are.1 is)

pub one_more : (sections : List SectionValue) (i : ℕ) (s : SectionValue) (regions more : List Region) (r : Region) → i < length sections → s ≡ get_or sections i s
    → AreRegions (take i sections) regions → IsRegion s r → more ≡ regions ++ r ∷ [] → AreRegions (take (i + 1) sections) more
one_more sections i s regions more r below at are is all =
    let e : take (i + 1) sections ≡ take i sections ++ s ∷ [] = take_more sections i s below ∙ ap (λ t. take i sections ++ t ∷ []) (sym at) in
    subst (λ l. AreRegions (take (i + 1) sections) l) (sym all)
    (subst (λ l. AreRegions l (regions ++ r ∷ [])) (sym e) (joined (take i sections) regions s r are is))

-- ---- what a section stores fits its pages
pub stored_fits : (s : SectionValue) → is_sound (row_of s) ≡ true → length s.stored ≤ s.size
stored_fits s sound = grind (arith, nat_tests, sound)

starts_at_page : (s : SectionValue) → is_sound (row_of s) ≡ true → s.start % 512 ≡ 0
starts_at_page s sound = grind (arith, nat_tests, sound)

bytes_of_pages : (s : SectionValue) → is_sound (row_of s) ≡ true → length (section_bytes s) ≡ page_bytes s.size
bytes_of_pages s sound =
    let fits = stored_fits s sound in
    let few : length s.stored ≤ page_bytes s.size = omega arith in
    let more = page_bytes s.size - length s.stored in
    let e : length s.stored + more ≡ page_bytes s.size = omega arith in
    length-append s.stored (replicate more 0) ∙ ap (λ n. length s.stored + n) (length-replicate more 0) ∙ e

-- addresses of whole pages
paged : (start at pages : ℕ) → start % 512 ≡ 0 → (nat_le start at && nat_lt (at - start) (512 * pages)) ≡ (nat_le (start / 512) (at / 512) && nat_lt (at / 512) (start / 512 + pages))
paged start at pages whole = grind (arith, nat_tests)

has_is : (s : SectionValue) (r : Region) (at : ℕ) → IsRegion s r → is_sound (row_of s) ≡ true → has_address at r ≡ images.has_address at s
has_is s r at is sound =
    ap (λ n. nat_le n at && nat_lt (at - n) (length r.bytes.items)) is.start
    ∙ ap (λ n. nat_le s.start at && nat_lt (at - s.start) n) (ap length is.bytes ∙ bytes_of_pages s sound)
    ∙ paged s.start at (page_count s.size) (starts_at_page s sound)

zeros : (count n : ℕ) → slice_index (replicate count 0) n ≡ 0
zeros zero n = refl
zeros (suc count) zero = refl
zeros (suc count) (suc n) = zeros count n

before_zeros : (stored : List ℕ) (count n : ℕ) → slice_index (stored ++ replicate count 0) n ≡ slice_index stored n
before_zeros [] count n = zeros count n
before_zeros (b ∷ stored) count zero = refl
before_zeros (b ∷ stored) count (suc n) = before_zeros stored count n

byte_is : (s : SectionValue) (r : Region) (at : ℕ) → IsRegion s r → slice_index r.bytes.items (at - r.start) ≡ byte_at at s
byte_is s r at is =
    ap (λ l. slice_index l (at - r.start)) is.bytes ∙ ap (λ n. slice_index (section_bytes s) (at - n)) is.start
    ∙ before_zeros s.stored (page_bytes s.size - length s.stored) (at - s.start)

chosen : (b : Bool) (byte rest : ℕ) (s : SectionValue) (later : Option SectionValue) (at : ℕ) → byte ≡ byte_at at s → rest ≡ unwrap_or (option_map (byte_at at) later) 0
    → (if b then byte else rest) ≡ unwrap_or (option_map (byte_at at) (if b then Some s else later)) 0
chosen true byte rest s later at here there = here
chosen false byte rest s later at here there = there

both_true : (a b : Bool) → (a && b) ≡ true → (a ≡ true) × (b ≡ true)
both_true true true is = (refl, refl)
both_true true false is = absurd (cc is)
both_true false b is = absurd (cc is)

bytes_are : (sections : List SectionValue) (regions : List Region) (at : ℕ) → AreRegions sections regions → list_all is_sound (map row_of sections) ≡ true
    → byte_among regions at ≡ unwrap_or (option_map (byte_at at) (find (images.has_address at) sections)) 0
bytes_are [] [] at are sound = refl
bytes_are [] (r ∷ regions) at are sound = absurd are
bytes_are (s ∷ sections) [] at are sound = absurd are
bytes_are (s ∷ sections) (r ∷ regions) at are sound =
    let all = both_true (is_sound (row_of s)) (list_all is_sound (map row_of sections)) sound in
    ap (λ (b : Bool). if b then slice_index r.bytes.items (at - r.start) else byte_among regions at) (has_is s r at are.0 all.0)
    ∙ chosen (images.has_address at s) (slice_index r.bytes.items (at - r.start)) (byte_among regions at) s (find (images.has_address at) sections) at
    (byte_is s r at are.0) (bytes_are sections regions at are.1 all.1)

-- memory starts with the image's bytes
pub bytes_first : (image : ImageValue) (sections : List SectionValue) (i : ℕ) (regions : List Region) → sections ≡ image.sections → length sections ≤ i
    → AreRegions (take i sections) regions → list_all is_sound (map row_of image.sections) ≡ true → byte_among regions ≡ byte_in image
bytes_first image sections i regions same ends are sound =
    let whole : AreRegions image.sections regions =
    subst (λ l. AreRegions l regions) same (subst (λ l. AreRegions l regions) (take_all i sections ends) are) in
    fun_ext (λ at. bytes_are image.sections regions at whole sound)

-- each section is sound
pub sound_at : (sections : List SectionValue) (i : ℕ) (d : SectionValue) → i < length sections → list_all is_sound (map row_of sections) ≡ true
    → is_sound (row_of (get_or sections i d)) ≡ true
sound_at [] i d below sound = absurd (omega arith)
sound_at (s ∷ sections) zero d below sound = (both_true (is_sound (row_of s)) (list_all is_sound (map row_of sections)) sound).0
sound_at (s ∷ sections) (suc i) d below sound = sound_at sections i d (omega arith) (both_true (is_sound (row_of s)) (list_all is_sound (map row_of sections)) sound).1
