-- A file that is cut: what stands in front of the cut, and the refusal.
use Rattle.std.proofs.Common.{◌≡◌, ℕ, zero, suc, ◌+◌, ◌-◌, ◌*◌, ◌/◌, ◌<◌, ◌≤◌, true, false, cond, List, [], ◌∷◌, length, take, drop, refl, ap, ◌∙◌, arith, inl, inr, Some, None, Ok, Err, nat_lt}
use Rattle.std.specs.Prelude.{◌==◌}
use Rattle.std.proofs.lemmas.Bool.{cases_lt, lt-ltb, le-ltb}
use Rattle.std.proofs.lemmas.List.{length-take, length-drop, take-take}
use Rattle.address_map.specs.Pairs.{Pair}
use Rattle.image_file.specs.Spelling as Image
use Rattle.image_file.specs.Reading.{word, table_in, image_of}
use Rattle.image_file.proofs.FieldLaws.{length-table}
use Rattle.image_file.proofs.LengthLaws.{read_length}
use Rattle.image_file.proofs.Prefixes.{cut, word_front, front_at, table_front, table_at, cut_length}
use Rattle.image_file.proofs.StepLaws.{bind_ok}
use Rattle.translated_file.specs.declared.header.Header.{Header}
use Rattle.translated_file.specs.declared.refusal.TranslatedRefusal.{TranslatedRefusal}
use Rattle.translated_file.specs.declared.refusal.TranslatedRefusal.TheVariants.{Truncated}
use Rattle.translated_file.specs.Limits.{MAGIC, HEADER, MOST_HINTS, is_version}
use Rattle.translated_file.specs.Values.{PartsValue}
use Rattle.translated_file.specs.Spelling.{tail_words}
use Rattle.translated_file.specs.Reading.{hints_at, tail_at, header_in, header_of, image_bytes_in, hints_in, first_fall, parts_in, parts_of}
use Rattle.translated_file.specs.Comparing.{whole_words, first_difference, tail_compared, tail_place, compared, accepted}
use Rattle.translated_file.specs.Laws.{PrefixesAreRefused}
use Rattle.translated_file.proofs.PartsLaws.{header_ok, header_pass, IsRead, parts_ok, parts_pass}
use Rattle.translated_file.proofs.BothWays.{Agrees, tail_ok}

-- ---- what stands in front of the cut

header_kept : (bytes : List ℕ) (header : Header) (kept : ℕ) → header_in bytes ≡ header → 16 ≤ kept → header_in (take kept bytes) ≡ header
header_kept bytes header kept is long = (λ i. record {
  version = front_at 4 word word_front 4 kept bytes (omega arith) i;
  image_bytes = front_at 4 word word_front 8 kept bytes (omega arith) i;
  hints = front_at 4 word word_front 12 kept bytes (omega arith) i;
}) ∙ is

-- ---- cut in front of the tail

header_cut : (bytes : List ℕ) → length bytes < 16 → parts_of bytes ≡ Err (Truncated (length bytes))
unfolding parts_of header_of
header_cut bytes short = let long : nat_lt (length bytes) HEADER ≡ true = lt-ltb _ _ short in rw long refl

front_cut : (bytes : List ℕ) (header : Header) → 16 ≤ length bytes → word bytes ≡ MAGIC → is_version header.version ≡ true → header.hints ≤ MOST_HINTS → header_in bytes ≡ header → length bytes < tail_at header → parts_of bytes ≡ Err (Truncated (length bytes))
unfolding parts_of header_of
front_cut bytes header long magic version few is short =
    let long_test : nat_lt (length bytes) 16 ≡ false = le-ltb _ _ long in
    let magic_test : (word bytes == MAGIC) ≡ true = ap (λ n. n == MAGIC) magic in
    let version_test : is_version (header_in bytes).version ≡ true = ap (λ (h : Header). is_version h.version) is ∙ version in
    let few_test : nat_lt 32768 (header_in bytes).hints ≡ false = ap (λ (h : Header). nat_lt 32768 h.hints) is ∙ le-ltb _ _ few in
    let room : nat_lt (length bytes) (tail_at (header_in bytes)) ≡ true = ap (λ h. nat_lt (length bytes) (tail_at h)) is ∙ lt-ltb _ _ short in
    rw (long_test, magic_test, version_test, few_test, room) refl

refused_before : (bytes words : List ℕ) (pairs : List Pair) (d : TranslatedRefusal) → parts_of bytes ≡ Err d → accepted bytes words pairs ≡ Err d
refused_before bytes words pairs d read = rw read refl

compared_behind : (bytes words : List ℕ) (pairs : List Pair) (parts : PartsValue) → parts_of bytes ≡ Ok parts → accepted bytes words pairs ≡ compared parts words pairs
compared_behind bytes words pairs parts read = rw read refl

-- ---- cut in the tail

fewer_words : (place : ℕ) (wanted found : List ℕ) (count : ℕ) → first_difference place wanted found ≡ None → first_difference place wanted (take count found) ≡ None
fewer_words place [] found count same = refl
fewer_words place (w ∷ ws) [] zero same = refl
fewer_words place (w ∷ ws) [] (suc count) same = refl
fewer_words place (w ∷ ws) (x ∷ xs) zero same = refl
fewer_words place (w ∷ ws) (x ∷ xs) (suc count) same =
    (elim (x == w) as (λ b. cond b (first_difference (place + 1) ws xs) (Some (place, x, w)) ≡ None → cond b (first_difference (place + 1) ws (take count xs)) (Some (place, x, w)) ≡ None) [
      | true ↦ λ same. fewer_words (place + 1) ws xs count same
      | false ↦ λ same. same
    ]) same

table_take : (few count : ℕ) (bytes : List ℕ) → few ≤ count → table_in 4 word few bytes ≡ take few (table_in 4 word count bytes)
table_take zero count bytes le = refl
table_take (suc few) zero bytes le = absurd (omega arith)
table_take (suc few) (suc count) bytes le = ap (λ rest. word bytes ∷ rest) (table_take few count (drop 4 bytes) (omega arith))

words_cut : (kept : ℕ) (tail : List ℕ) → kept < length tail → whole_words (take kept tail) ≡ take (kept / 4) (whole_words tail)
words_cut kept tail short =
    let long = cut_length kept tail short in
    ap (λ n. table_in 4 word (n / 4) (take kept tail)) long
    ∙ table_front 4 word word_front (kept / 4) kept tail (omega arith)
    ∙ table_take (kept / 4) (length tail / 4) tail (omega (arith, short))

tail_cut : (at kept : ℕ) (tail wanted : List ℕ) → Agrees tail wanted → kept < length tail → tail_compared at (take kept tail) wanted ≡ Err (Truncated (at + kept))
unfolding tail_compared
tail_cut at kept tail wanted agrees short =
    let long = cut_length kept tail short in
    let same : first_difference 0 wanted (whole_words (take kept tail)) ≡ None = ap (first_difference 0 wanted) (words_cut kept tail short) ∙ fewer_words 0 wanted (whole_words tail) (kept / 4) agrees.same in
    let short_test : nat_lt (length (take kept tail)) (4 * length wanted) ≡ true = lt-ltb _ _ (omega (arith, long, agrees.long)) in
    rw (same, short_test) (ap (λ n. Err (Truncated (at + n))) long)

parts_kept : (bytes : List ℕ) (parts : PartsValue) (kept : ℕ) (read : IsRead bytes parts) → kept < length bytes → tail_at read.header ≤ kept
    → parts_of (take kept bytes) ≡ Ok (parts_in read.header read.image (take kept bytes))
parts_kept bytes parts kept read short long =
    let header = read.header in
    let is = header_ok bytes header read.headed in
    let length_is = cut_length kept bytes short in
    let headed = header_pass (take kept bytes) header (word_front kept bytes (omega arith) ∙ is.magic) is.version is.few (omega (arith, length_is)) (header_kept bytes header kept is.is (omega arith)) in
    let image : image_bytes_in header (take kept bytes) ≡ image_bytes_in header bytes = ap (take header.image_bytes) (cut 16 kept bytes (omega arith)) ∙ take-take header.image_bytes (kept - 16) (drop 16 bytes) (omega arith) in
    let hints : hints_in header (take kept bytes) ≡ hints_in header bytes = table_at 4 word word_front (hints_at header) header.hints kept bytes (omega arith) in
    parts_pass (take kept bytes) header read.image headed (ap image_of image ∙ read.read) (ap first_fall hints ∙ read.rising)

-- the tail stands where the header says
place_is : (bytes : List ℕ) (parts : PartsValue) (kept : ℕ) (read : IsRead bytes parts) → tail_place (parts_in read.header read.image (take kept bytes)) ≡ tail_at read.header
place_is bytes parts kept read =
    let header = read.header in
    let is = header_ok bytes header read.headed in
    let image : length (Image.spelling read.image) ≡ header.image_bytes = read_length (image_bytes_in header bytes) read.image read.read ∙ omega (arith, is.tail, length-take header.image_bytes (drop 16 bytes), length-drop 16 bytes) in
    let hints = length-table 4 word header.hints (drop (hints_at header) (take kept bytes)) in
    λ i. 16 + image i + 4 * hints i

kept_in_tail : (bytes words : List ℕ) (pairs : List Pair) (parts : PartsValue) (kept : ℕ) (read : IsRead bytes parts) → compared parts words pairs ≡ Ok tt → kept < length bytes → tail_at read.header ≤ kept
    → accepted (take kept bytes) words pairs ≡ Err (Truncated kept)
kept_in_tail bytes words pairs parts kept read same short long =
    let end = tail_at read.header in
    let agrees = tail_ok (tail_place parts) parts.tail (tail_words words pairs) same in
    let tail : drop end bytes ≡ parts.tail = ap (λ (p : PartsValue). p.tail) read.is in
    let agrees_too : Agrees (drop end bytes) (tail_words words pairs) = record {
      same = ap (λ t. first_difference 0 (tail_words words pairs) (whole_words t)) tail ∙ agrees.same;
      long = ap length tail ∙ agrees.long;
    } in
    let kept_is : end + (kept - end) ≡ kept = omega arith in
    compared_behind (take kept bytes) words pairs (parts_in read.header read.image (take kept bytes)) (parts_kept bytes parts kept read short long)
    ∙ (λ i. tail_compared (place_is bytes parts kept read i) (cut end kept bytes long i) (tail_words words pairs))
    ∙ tail_cut end (kept - end) (drop end bytes) (tail_words words pairs) agrees_too (omega (arith, length-drop end bytes))
    ∙ ap (λ n. Err (Truncated n)) kept_is

kept_in_front : (bytes : List ℕ) (parts : PartsValue) (kept : ℕ) (read : IsRead bytes parts) → kept < length bytes → kept < tail_at read.header → parts_of (take kept bytes) ≡ Err (Truncated (length (take kept bytes)))
kept_in_front bytes parts kept read short before =
    let header = read.header in
    let is = header_ok bytes header read.headed in
    let length_is = cut_length kept bytes short in
    elim (cases_lt kept 16) [
      | inl inside ↦ header_cut (take kept bytes) (omega (arith, length_is))
      | inr behind ↦ front_cut (take kept bytes) header (omega (arith, length_is)) (word_front kept bytes (omega arith) ∙ is.magic) is.version is.few (header_kept bytes header kept is.is behind) (omega (arith, length_is))
    ]

pub prefixes_are_refused : PrefixesAreRefused
prefixes_are_refused bytes words pairs kept all short =
    let a = bind_ok (parts_of bytes) _ tt all in
    let read = parts_ok bytes a.0 a.1 in
    elim (cases_lt kept (tail_at read.header)) [
      | inl before ↦ refused_before (take kept bytes) words pairs (Truncated kept) (kept_in_front bytes a.0 kept read short before ∙ ap (λ n. Err (Truncated n)) (cut_length kept bytes short))
      | inr behind ↦ kept_in_tail bytes words pairs a.0 kept read a.2 short behind
    ]
