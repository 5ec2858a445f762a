-- The bytes of an image whose sections store bytes.
use Rattle.std.proofs.Common.{◌≡◌, ℕ, zero, suc, ◌<◌, ◌≤◌, ◌-◌, List, [], ◌∷◌, length, Bool, true, false, if◌then◌else◌, Option, Some, slice_index, refl, subst, arith, lit<}
use Rattle.std.specs.Prelude.{find, option_map, unwrap_or, slice_get}
use Rattle.image_file.specs.Memory.{has_address, byte_at, byte_in}
use Rattle.image_file.specs.Values.{SectionValue, ImageValue}
use Rattle.vax_form.specs.References.{AreBytes}

abbrev StoreBytes : List SectionValue → Type 0
StoreBytes sections = (k : ℕ) (s : SectionValue) → slice_get sections k ≡ Some s → AreBytes (slice_index s.stored)

found_byte : (address : ℕ) (sections : List SectionValue) → StoreBytes sections → unwrap_or (option_map (byte_at address) (find (has_address address) sections)) 0 < 256
found_byte address [] store = lit< tt
found_byte address (s ∷ sections) store = chosen (has_address address s) s (find (has_address address) sections) (store 0 s refl (address - s.start)) (found_byte address sections (λ k. store (suc k)))
  where
    chosen : (b : Bool) (s : SectionValue) (later : Option SectionValue) → byte_at address s < 256 → unwrap_or (option_map (byte_at address) later) 0 < 256
        → unwrap_or (option_map (byte_at address) (if b then Some s else later)) 0 < 256
    chosen true s later here there = here
    chosen false s later here there = there

pub image_bytes : (image : ImageValue) (sections : List SectionValue) (index : ℕ) → sections ≡ image.sections → length sections ≤ index
    → ((k : ℕ) (s : SectionValue) → k < index → slice_get sections k ≡ Some s → AreBytes (slice_index s.stored)) → AreBytes (byte_in image)
image_bytes image sections index same ends store address =
    subst (λ sections. unwrap_or (option_map (byte_at address) (find (has_address address) sections)) 0 < 256) same
    (found_byte address sections (λ k s at. store k s (got sections k s index at ends) at))
  where
    got : (sections : List SectionValue) (k : ℕ) (s : SectionValue) (index : ℕ) → slice_get sections k ≡ Some s → length sections ≤ index → k < index
    got [] k s index at ends = absurd (cc at)
    got (x ∷ sections) zero s index at ends = omega arith
    got (x ∷ sections) (suc k) s index at ends = let l : k < index - 1 = got sections k s (index - 1) at (omega arith) in omega arith
