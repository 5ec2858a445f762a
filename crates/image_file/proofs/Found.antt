-- An image that was read is whole, and the bytes are its spelling.
use Rattle.std.proofs.Common.{◌≡◌, List, ℕ, Result, Ok, Err}
use Rattle.std.specs.Prelude.{IfOk}
use Rattle.image_file.specs.declared.refusal.ImageRefusal.{ImageRefusal}
use Rattle.image_file.specs.Values.{ImageValue}
use Rattle.image_file.specs.Spelling.{spelling}
use Rattle.image_file.specs.Whole.{IsWhole}
use Rattle.image_file.specs.Reading.{Gives, image_of}
use Rattle.image_file.proofs.FieldLaws.{IsBytes}
use Rattle.image_file.proofs.ReadLaws.{image_ok}
use Rattle.image_file.proofs.SpelledLaws.{spelled_so, whole_image}

pub is_found : (bytes : List ℕ) (r : Result ImageValue ImageRefusal) → IsBytes bytes → Gives (λ i. i) r (image_of bytes) → IfOk r (λ image. IsWhole image × (bytes ≡ spelling image))
is_found bytes (Ok image) fits given = (whole_image bytes image fits (image_ok bytes image given), spelled_so bytes image fits (image_ok bytes image given))
is_found bytes (Err e) fits given = tt
