-- What reading answers, step by step.
use Rattle.std.proofs.Common.{◌≡◌, ℕ, ◌-◌, ◌≤◌, true, false, not, List, length, take, drop, refl, sym, ap, subst, ◌∙◌, arith, None, Result, Ok, Err, nat_lt}
use Rattle.std.specs.Prelude.{◌==◌}
use Rattle.std.proofs.lemmas.Bool.{eqb-true, le-ltb, ltb-false, not-false}
use Rattle.std.proofs.lemmas.List.{length-drop, take_all}
use Rattle.image_file.specs.Values.{ImageValue}
use Rattle.image_file.specs.Reading.{word, table_in, image_of}
use Rattle.image_file.specs.Steps.{refuse_if, refuse_at}
use Rattle.image_file.specs.declared.refusal.ImageRefusal.{ImageRefusal}
use Rattle.image_file.proofs.StepLaws.{bind_ok, passed, passed_at, done, ok_is}
use Rattle.translated_file.specs.declared.header.Header.{Header}
use Rattle.translated_file.specs.declared.refusal.TranslatedRefusal.{TranslatedRefusal}
use Rattle.translated_file.specs.declared.refusal.TranslatedRefusal.TheVariants.{Truncated, BadMagic, BadVersion, Inner, NotTheTranslation, Trailing, BadHint, WantOfMemory}
use Rattle.translated_file.specs.Limits.{MAGIC, HEADER, MOST_HINTS, is_version}
use Rattle.translated_file.specs.Values.{PartsValue}
use Rattle.translated_file.specs.Reading.{Gives, hints_at, tail_at, header_in, header_of, image_bytes_in, hints_in, of_image, first_fall, parts_in, parts_of}

image_passed : (r : Result ImageValue ImageRefusal) (image : ImageValue) → of_image r ≡ Ok image → r ≡ Ok image
image_passed (Ok x) image e = let same : x ≡ image = ok_is x image e in ap (λ (i : ImageValue). Ok i) same
image_passed (Err d) image e = absurd cc

-- ---- the header

pub record IsHeader (bytes : List ℕ) (header : Header) : Type 0 where
  pub magic : word bytes ≡ MAGIC
  pub version : is_version header.version ≡ true
  pub few : header.hints ≤ MOST_HINTS
  pub tail : tail_at header ≤ length bytes
  pub is : header_in bytes ≡ header

pub header_ok : (bytes : List ℕ) (header : Header) → header_of bytes ≡ Ok header → IsHeader bytes header
unfolding header_of
header_ok bytes header e =
    let a = bind_ok (refuse_if (nat_lt (length bytes) HEADER) (Truncated (length bytes))) _ header e in
    let b = bind_ok (refuse_if (not (word bytes == MAGIC)) BadMagic) _ header a.2 in
    let c = bind_ok (refuse_if (not (is_version (header_in bytes).version)) (BadVersion (header_in bytes).version)) _ header b.2 in
    let d = bind_ok (refuse_if (nat_lt MOST_HINTS (header_in bytes).hints) (BadHint MOST_HINTS)) _ header c.2 in
    let f = bind_ok (refuse_if (nat_lt (length bytes) (tail_at (header_in bytes))) (Truncated (length bytes))) _ header d.2 in
    let is : header_in bytes ≡ header = ok_is _ _ f.2 in
    record {
      magic = eqb-true _ _ (not-false _ (passed _ _ b.0 b.1));
      version = subst (λ (h : Header). is_version h.version ≡ true) is (not-false _ (passed _ _ c.0 c.1));
      few = subst (λ (h : Header). h.hints ≤ MOST_HINTS) is (ltb-false _ _ (passed _ _ d.0 d.1));
      tail = subst (λ (h : Header). tail_at h ≤ length bytes) is (ltb-false _ _ (passed _ _ f.0 f.1));
      is = is;
    }

pub header_pass : (bytes : List ℕ) (header : Header) → word bytes ≡ MAGIC → is_version header.version ≡ true → header.hints ≤ MOST_HINTS → tail_at header ≤ length bytes → header_in bytes ≡ header → header_of bytes ≡ Ok header
unfolding header_of
header_pass bytes header magic version few tail is =
    let long : nat_lt (length bytes) 16 ≡ false = le-ltb _ _ (omega (arith, tail)) in
    let magic_test : (word bytes == MAGIC) ≡ true = ap (λ n. n == MAGIC) magic in
    let version_test : is_version (header_in bytes).version ≡ true = ap (λ (h : Header). is_version h.version) is ∙ version in
    let few_test : nat_lt 32768 (header_in bytes).hints ≡ false = ap (λ (h : Header). nat_lt 32768 h.hints) is ∙ le-ltb _ _ few in
    let room : nat_lt (length bytes) (tail_at (header_in bytes)) ≡ false = ap (λ h. nat_lt (length bytes) (tail_at h)) is ∙ le-ltb _ _ tail in
    rw (long, magic_test, version_test, few_test, room) (ap done is)

-- ---- the parts

pub record IsRead (bytes : List ℕ) (parts : PartsValue) : Type 0 where
  pub header : Header
  pub headed : header_of bytes ≡ Ok header
  pub image : ImageValue
  pub read : image_of (image_bytes_in header bytes) ≡ Ok image
  pub rising : first_fall (hints_in header bytes) ≡ None
  pub is : parts_in header image bytes ≡ parts

pub parts_ok : (bytes : List ℕ) (parts : PartsValue) → parts_of bytes ≡ Ok parts → IsRead bytes parts
unfolding parts_of
parts_ok bytes parts e =
    let a = bind_ok (header_of bytes) _ parts e in
    let b = bind_ok (of_image (image_of (image_bytes_in a.0 bytes))) _ parts a.2 in
    let c = bind_ok (refuse_at (first_fall (hints_in a.0 bytes)) (λ place. BadHint place)) _ parts b.2 in
    record {
      header = a.0;
      headed = a.1;
      image = b.0;
      read = image_passed (image_of (image_bytes_in a.0 bytes)) b.0 b.1;
      rising = passed_at _ _ c.0 c.1;
      is = ok_is _ _ c.2;
    }

pub parts_pass : (bytes : List ℕ) (header : Header) (image : ImageValue) → header_of bytes ≡ Ok header → image_of (image_bytes_in header bytes) ≡ Ok image → first_fall (hints_in header bytes) ≡ None → parts_of bytes ≡ Ok (parts_in header image bytes)
unfolding parts_of
parts_pass bytes header image headed read rising = rw (headed, read, rising) refl

-- ---- what the code found

rest : (bytes : List ℕ) (at : ℕ) → take (length bytes - at) (drop at bytes) ≡ drop at bytes
rest bytes at = take_all (length bytes - at) (drop at bytes) (omega (arith, length-drop at bytes))

-- the image and the hints were found in the bytes, of which the hints have the place `at`
pub record IsFound (bytes : List ℕ) (header : Header) (image : ImageValue) (hints : List ℕ) (at : ℕ) : Type 0 where
  pub headed : Ok header ≡ header_of bytes
  pub at_is : at ≡ hints_at header
  pub read : of_image (image_of (take (at - 16) (drop 16 bytes))) ≡ Ok image
  pub are : hints ≡ table_in 4 word header.hints (take (length bytes - at) (drop at bytes))

found_image : (bytes : List ℕ) (header : Header) (image : ImageValue) (hints : List ℕ) (at : ℕ) → IsFound bytes header image hints at → image_of (image_bytes_in header bytes) ≡ Ok image
found_image bytes header image hints at found =
    let size : header.image_bytes ≡ at - 16 = omega (arith, found.at_is) in
    ap (λ n. image_of (take n (drop 16 bytes))) size ∙ image_passed (image_of (take (at - 16) (drop 16 bytes))) image found.read

found_hints : (bytes : List ℕ) (header : Header) (image : ImageValue) (hints : List ℕ) (at : ℕ) → IsFound bytes header image hints at → hints ≡ hints_in header bytes
found_hints bytes header image hints at found = found.are ∙ ap (table_in 4 word header.hints) (rest bytes at ∙ ap (λ n. drop n bytes) found.at_is)

abbrev pub bad_hint : ℕ → TranslatedRefusal
bad_hint place = BadHint place

gives_refusal : (d : TranslatedRefusal) (read : Result PartsValue TranslatedRefusal) → read ≡ Err d → Gives {X = PartsValue} (λ p. p) (Err d) read
gives_refusal (Truncated at) read is = is
gives_refusal BadMagic read is = is
gives_refusal (BadVersion found) read is = is
gives_refusal (Inner refusal) read is = is
gives_refusal (NotTheTranslation place found wanted) read is = is
gives_refusal (Trailing at) read is = is
gives_refusal (BadHint place) read is = is
gives_refusal WantOfMemory read is = tt

hints_refused : (bytes : List ℕ) (header : Header) (image : ImageValue) (d : TranslatedRefusal) → header_of bytes ≡ Ok header → image_of (image_bytes_in header bytes) ≡ Ok image → refuse_at (first_fall (hints_in header bytes)) bad_hint ≡ Err d
    → parts_of bytes ≡ Err d
unfolding parts_of
hints_refused bytes header image d headed read refuses = rw (headed, read, refuses) refl

pub hints_refuse : (bytes : List ℕ) (header : Header) (image : ImageValue) (hints checked : List ℕ) (at : ℕ) (d : TranslatedRefusal) → IsFound bytes header image hints at → checked ≡ hints → Err d ≡ refuse_at (first_fall checked) bad_hint
    → Gives {X = PartsValue} (λ p. p) (Err d) (parts_of bytes)
hints_refuse bytes header image hints checked at d found same refuses =
    let are = same ∙ found_hints bytes header image hints at found in
    gives_refusal d (parts_of bytes) (hints_refused bytes header image d (sym found.headed) (found_image bytes header image hints at found) (sym (refuses ∙ ap (λ hs. refuse_at (first_fall hs) bad_hint) are)))

abbrev pub parts_with : ℕ → ImageValue → List ℕ → List ℕ → PartsValue
parts_with version image hints tail = record { version = version; image = image; hints = hints; tail = tail }

pub parts_made : (bytes : List ℕ) (header : Header) (image : ImageValue) (hints checked tail : List ℕ) (at end : ℕ) (u : Unit {0}) → IsFound bytes header image hints at → checked ≡ hints → Ok u ≡ refuse_at (first_fall checked) bad_hint
    → end ≡ tail_at header → tail ≡ take (length bytes - end) (drop end bytes) → parts_of bytes ≡ Ok (parts_with header.version image hints tail)
parts_made bytes header image hints checked tail at end u found same passes end_is tail_is =
    let are = found_hints bytes header image hints at found in
    let rising = ap first_fall (sym are ∙ sym same) ∙ passed_at (first_fall checked) bad_hint u (sym passes) in
    let behind = tail_is ∙ rest bytes end ∙ ap (λ n. drop n bytes) end_is in
    parts_pass bytes header image (sym found.headed) (found_image bytes header image hints at found) rising ∙ (λ i. Ok (parts_with header.version image (sym are i) (sym behind i)))
