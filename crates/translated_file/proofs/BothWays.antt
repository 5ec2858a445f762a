-- What is written reads as it was written, and what reads was so written.
use Rattle.std.proofs.Common.{◌≡◌, ℕ, ◌+◌, ◌*◌, ◌/◌, ◌^◌, ◌<◌, true, false, cond, List, [], ◌∷◌, ◌++◌, length, take, drop, refl, sym, ap, subst, ◌∙◌, arith, append_assoc, Some, None, Result, Ok, Err, nat_lt, inl, inr}
use Rattle.std.specs.Prelude.{◌==◌, ◌⊎◌, codes, IfOk}
use Rattle.std.specs.List.{flat_map, AllByRecursion}
use Rattle.std.specs.Int.{w32, to_le_bytes}
use Rattle.std.proofs.lemmas.Bool.{eqb-true, or_cases, eq-eqb, le-ltb, ltb-false}
use Rattle.std.proofs.lemmas.List.{length-append, length-take, length-drop, take_at, drop_at, take_all, append-nil, take-append-drop}
use Rattle.std.proofs.lemmas.Nat.{from_le_bytes-to_le_bytes_4}
use Rattle.address_map.specs.Pairs.{Pair}
use Rattle.image_file.specs.Values.{ImageValue}
use Rattle.image_file.specs.Spelling as Image
use Rattle.image_file.specs.Reading.{word, table_in, image_of}
use Rattle.image_file.specs.Steps.{refuse_if, refuse_at}
use Rattle.image_file.proofs.FieldLaws.{IsBytes, IsBytes-drop, IsBytes-take, take_join, word_back, word_fits, word_again, length-table, table_back, table_all, table_again, length-written}
use Rattle.image_file.proofs.AgainLaws as ImageAgain
use Rattle.image_file.proofs.Found as ImageFound
use Rattle.image_file.proofs.LengthLaws.{whole_length, whole_small}
use Rattle.image_file.proofs.StepLaws.{bind_ok, passed, passed_at, done}
use Rattle.translated_file.specs.declared.header.Header.{Header}
use Rattle.translated_file.specs.Limits.{is_version}
use Rattle.translated_file.specs.Values.{PartsValue}
use Rattle.translated_file.specs.Spelling.{word_bytes, header_bytes, front_bytes, parts_bytes, pair_words, tail_words, written_parts}
use Rattle.translated_file.specs.Reading.{Gives, hints_at, tail_at, header_in, header_of, image_bytes_in, hints_in, first_fall, parts_in, parts_of}
use Rattle.translated_file.specs.Comparing.{whole_words, first_difference, refusal_at, tail_compared, tail_place}
use Rattle.translated_file.specs.Whole.{IsLong, IsLongPair, AreHints, AreWhole, IsTranslation}
use Rattle.translated_file.specs.Laws.{WrittenIsAccepted, AcceptedIsWritten}
use Rattle.vax_form.specs.GrammarLaws.{AreBytes}
use Rattle.translated_file.specs.declared.refusal.TranslatedRefusal.{TranslatedRefusal}
use Rattle.translated_file.specs.declared.refusal.TranslatedRefusal.TheVariants.{Truncated}
use Rattle.translated_file.proofs.FallLaws.{none_falls, rises}
use Rattle.translated_file.proofs.PartsLaws.{IsHeader, header_ok, header_pass, parts_ok, parts_pass}

-- ---- what is written, read again

regroup : (a b c d : List ℕ) → a ++ b ++ c ++ d ≡ a ++ (b ++ (c ++ d))
regroup a b c d = simp append_assoc

-- a version is a longword
version_fits : (version : ℕ) → is_version version ≡ true → version < 2 ^ 32
version_fits version e = by (or_cases (version == 1) (version == 2) e)
  where
    by : ((version == 1) ≡ true) ⊎ ((version == 2) ≡ true) → version < 2 ^ 32
    by (inl one) = let is : version ≡ 1 = eqb-true version 1 one in omega arith
    by (inr two) = let is : version ≡ 2 = eqb-true version 2 two in omega arith

pub read_again : (parts : PartsValue) → AreWhole parts → parts_of (parts_bytes parts) ≡ Ok parts
unfolding front_bytes
read_again parts whole =
    let b : List ℕ = Image.spelling parts.image in
    let n : ℕ = length b in
    let h : ℕ = length parts.hints in
    let a : List ℕ = header_bytes parts.version n h in
    let c : List ℕ = word_bytes parts.hints in
    let d : List ℕ = parts.tail in
    let bytes : List ℕ = a ++ (b ++ (c ++ d)) in
    let header : Header = record { version = parts.version; image_bytes = n; hints = h } in
    let version = version_fits parts.version whole.version in
    let small : n < 2 ^ 31 = omega (arith, whole_length parts.image whole.image, whole_small parts.image whole.image) in
    let c_long : length c ≡ 4 * h = length-written IsLong 4 (to_le_bytes w32) (λ x fit. refl) parts.hints whole.hints.fit in
    let long : length bytes ≡ 16 + n + 4 * h + length d = omega (arith, length-append a (b ++ (c ++ d)), length-append b (c ++ d), length-append c d, c_long) in
    let numbers : header_in bytes ≡ header = λ i. record {
      version = from_le_bytes-to_le_bytes_4 parts.version (omega (arith, version)) i;
      image_bytes = from_le_bytes-to_le_bytes_4 n (omega (arith, small)) i;
      hints = from_le_bytes-to_le_bytes_4 h (omega (arith, whole.hints.few)) i;
    } in
    let headed : header_of bytes ≡ Ok header = header_pass bytes header refl whole.version whole.hints.few (omega (arith, long)) numbers in
    let read : image_of (image_bytes_in header bytes) ≡ Ok parts.image = ap image_of (take_at b (c ++ d) n refl) ∙ ImageAgain.read_again parts.image whole.image in
    let ab : bytes ≡ (a ++ b) ++ (c ++ d) = simp append_assoc in
    let abc : bytes ≡ (a ++ b ++ c) ++ d = simp append_assoc in
    let behind_b : drop (16 + n) bytes ≡ c ++ d = ap (drop (16 + n)) ab ∙ drop_at (a ++ b) (c ++ d) (16 + n) (omega (arith, length-append a b)) in
    let behind_c : drop (16 + n + 4 * h) bytes ≡ d = ap (drop (16 + n + 4 * h)) abc ∙ drop_at (a ++ b ++ c) d (16 + n + 4 * h) (omega (arith, length-append a b, length-append (a ++ b) c, c_long)) in
    let hints : hints_in header bytes ≡ parts.hints = ap (table_in 4 word h) behind_b ∙ table_again IsLong 4 word (to_le_bytes w32) word_again (λ x fit. refl) parts.hints d whole.hints.fit in
    let rising = ap first_fall hints ∙ none_falls parts.hints whole.hints.rise in
    let is : parts_in header parts.image bytes ≡ parts = λ i. record { version = parts.version; image = parts.image; hints = hints i; tail = behind_c i } in
    ap parts_of (regroup a b c d) ∙ parts_pass bytes header parts.image headed read rising ∙ ap done is

-- ---- the tail that is written, compared

no_difference : (place : ℕ) (words : List ℕ) → first_difference place words words ≡ None
no_difference place [] = refl
no_difference place (w ∷ ws) = ap (λ b. cond b (first_difference (place + 1) ws ws) (Some (place, w, w))) (eq-eqb w w refl) ∙ no_difference (place + 1) ws

words_again : (words : List ℕ) → AllByRecursion IsLong words → whole_words (word_bytes words) ≡ words
words_again words fit =
    let bytes = word_bytes words in
    let long : length bytes ≡ 4 * length words = length-written IsLong 4 (to_le_bytes w32) (λ x f. refl) words fit in
    let count : length bytes / 4 ≡ length words = omega (arith, long) in
    (λ i. table_in 4 word (count i) (sym (append-nil bytes) i)) ∙ table_again IsLong 4 word (to_le_bytes w32) word_again (λ x f. refl) words [] fit

pub tail_agrees : (at : ℕ) (words : List ℕ) → AllByRecursion IsLong words → tail_compared at (word_bytes words) words ≡ Ok tt
unfolding tail_compared
tail_agrees at words fit =
    let long : length (word_bytes words) ≡ 4 * length words = length-written IsLong 4 (to_le_bytes w32) (λ x f. refl) words fit in
    let same : first_difference 0 words (whole_words (word_bytes words)) ≡ None = ap (first_difference 0 words) (words_again words fit) ∙ no_difference 0 words in
    let short_test : nat_lt (length (word_bytes words)) (4 * length words) ≡ false = le-ltb _ _ (omega (arith, long)) in
    let long_test : nat_lt (4 * length words) (length (word_bytes words)) ≡ false = le-ltb _ _ (omega (arith, long)) in
    rw (same, short_test, long_test) refl

pub all_append : (a b : List ℕ) → AllByRecursion IsLong a → AllByRecursion IsLong b → AllByRecursion IsLong (a ++ b)
all_append [] b fit rest = rest
all_append (x ∷ xs) b fit rest = (fit.0, all_append xs b fit.1 rest)

pub pairs_fit : (pairs : List Pair) → AllByRecursion IsLongPair pairs → AllByRecursion IsLong (flat_map pair_words pairs)
pairs_fit [] fit = tt
pairs_fit (p ∷ ps) fit = (fit.0.0, (fit.0.1, pairs_fit ps fit.1))

tail_fits : (words : List ℕ) (pairs : List Pair) → IsTranslation words pairs → AllByRecursion IsLong (tail_words words pairs)
tail_fits words pairs is =
    let count : IsLong (length words) = omega (arith, is.few_words) in
    let pair_count : IsLong (length pairs) = omega (arith, is.few_pairs) in
    (count, all_append words (length pairs ∷ flat_map pair_words pairs) is.words_fit (pair_count, pairs_fit pairs is.pairs_fit))

pub written_is_accepted : WrittenIsAccepted
written_is_accepted version image hints words pairs is whole are translation =
    let parts = written_parts version image hints words pairs in
    (read_again parts (record { version = is; image = whole; hints = are }), tail_agrees (tail_place parts) (tail_words words pairs) (tail_fits words pairs translation))

-- ---- what is read is so written

header_back : (bytes : List ℕ) (header : Header) → IsBytes bytes → IsHeader bytes header → header_bytes header.version header.image_bytes header.hints ≡ take 16 bytes
header_back bytes header fits is =
    let magic : codes "VXTR" ≡ take 4 bytes = ap (to_le_bytes w32) (sym is.magic) ∙ word_back bytes (omega (arith, is.tail)) fits in
    let version : to_le_bytes w32 header.version ≡ take 4 (drop 4 bytes) = ap (λ (h : Header). to_le_bytes w32 h.version) (sym is.is) ∙ word_back (drop 4 bytes) (omega (arith, is.tail, length-drop 4 bytes)) (IsBytes-drop 4 bytes fits) in
    let image : to_le_bytes w32 header.image_bytes ≡ take 4 (drop 8 bytes) = ap (λ (h : Header). to_le_bytes w32 h.image_bytes) (sym is.is) ∙ word_back (drop 8 bytes) (omega (arith, is.tail, length-drop 8 bytes)) (IsBytes-drop 8 bytes fits) in
    let hints : to_le_bytes w32 header.hints ≡ take 4 (drop 12 bytes) = ap (λ (h : Header). to_le_bytes w32 h.hints) (sym is.is) ∙ word_back (drop 12 bytes) (omega (arith, is.tail, length-drop 12 bytes)) (IsBytes-drop 12 bytes fits) in
    (λ i. magic i ++ version i ++ image i ++ hints i)
    ∙ (λ i. take_join 4 4 bytes i ++ take 4 (drop 8 bytes) ++ take 4 (drop 12 bytes))
    ∙ (λ i. take_join 8 4 bytes i ++ take 4 (drop 12 bytes))
    ∙ take_join 12 4 bytes

four_joined : (a b c : ℕ) (bytes : List ℕ) → take a bytes ++ take b (drop a bytes) ++ take c (drop (a + b) bytes) ++ drop (a + b + c) bytes ≡ bytes
four_joined a b c bytes =
    (λ i. take_join a b bytes i ++ take c (drop (a + b) bytes) ++ drop (a + b + c) bytes)
    ∙ (λ i. take_join (a + b) c bytes i ++ drop (a + b + c) bytes)
    ∙ take-append-drop (a + b + c) bytes

made_so : (bytes : List ℕ) (header : Header) (image : ImageValue) → IsBytes bytes → IsHeader bytes header → image_bytes_in header bytes ≡ Image.spelling image → parts_bytes (parts_in header image bytes) ≡ bytes
unfolding front_bytes
made_so bytes header image fits is spelled =
    let n = header.image_bytes in
    let h = header.hints in
    let length_is : length (Image.spelling image) ≡ n = ap length (sym spelled) ∙ (omega (arith, is.tail, length-take n (drop 16 bytes), length-drop 16 bytes)) in
    let count_is : length (hints_in header bytes) ≡ h = length-table 4 word h (drop (16 + n) bytes) in
    let front : header_bytes header.version (length (Image.spelling image)) (length (hints_in header bytes)) ≡ take 16 bytes = (λ i. header_bytes header.version (length_is i) (count_is i)) ∙ header_back bytes header fits is in
    let hints : word_bytes (hints_in header bytes) ≡ take (4 * h) (drop (16 + n) bytes) = table_back 4 word (to_le_bytes w32) word_back h (drop (16 + n) bytes) (omega (arith, is.tail, length-drop (16 + n) bytes)) (IsBytes-drop (16 + n) bytes fits) in
    (λ i. front i ++ sym spelled i ++ hints i ++ drop (16 + n + 4 * h) bytes) ∙ four_joined 16 n (4 * h) bytes

pub found : (bytes : List ℕ) (parts : PartsValue) → AreBytes bytes → parts_of bytes ≡ Ok parts → AreWhole parts × (bytes ≡ parts_bytes parts)
found bytes parts fits read_so =
    let read = parts_ok bytes parts read_so in
    let header = read.header in
    let is = header_ok bytes header read.headed in
    let image = ImageFound.is_found (image_bytes_in header bytes) (Ok read.image) (IsBytes-take header.image_bytes (drop 16 bytes) (IsBytes-drop 16 bytes fits)) read.read in
    let count = length-table 4 word header.hints (drop (hints_at header) bytes) in
    let hints : AreHints (hints_in header bytes) = record {
      few = omega (arith, count, is.few);
      fit = table_all IsLong 4 word word_fits header.hints (drop (hints_at header) bytes) (IsBytes-drop (hints_at header) bytes fits);
      rise = rises (hints_in header bytes) read.rising;
    } in
    let whole : AreWhole (parts_in header read.image bytes) = record { version = is.version; image = image.0; hints = hints } in
    (subst AreWhole read.is whole, sym (made_so bytes header read.image fits is image.1) ∙ ap parts_bytes read.is)

-- what a call that reads has found
pub is_found : (bytes : List ℕ) (r : Result PartsValue TranslatedRefusal) → AreBytes bytes → Gives (λ p. p) r (parts_of bytes) → IfOk r (λ parts. AreWhole parts × (bytes ≡ parts_bytes parts))
is_found bytes (Ok parts) fits given = found bytes parts fits given
is_found bytes (Err e) fits given = tt

-- ---- a tail that compares is that of the translation

pub record Agrees (tail wanted : List ℕ) : Type 0 where
  pub same : first_difference 0 wanted (whole_words tail) ≡ None
  pub long : length tail ≡ 4 * length wanted

pub tail_ok : (at : ℕ) (tail wanted : List ℕ) → tail_compared at tail wanted ≡ Ok tt → Agrees tail wanted
unfolding tail_compared
tail_ok at tail wanted e =
    let a = bind_ok (refuse_at (first_difference 0 wanted (whole_words tail)) refusal_at) _ tt e in
    let b = bind_ok (refuse_if (nat_lt (length tail) (4 * length wanted)) (Truncated (at + length tail))) _ tt a.2 in
    record {
      same = passed_at _ _ a.0 a.1;
      long = omega (arith, ltb-false _ _ (passed _ _ b.0 b.1), ltb-false _ _ (passed _ _ tt b.2));
    }

same_words : (place : ℕ) (wanted found : List ℕ) → length found ≡ length wanted → first_difference place wanted found ≡ None → found ≡ wanted
same_words place [] [] long same = refl
same_words place [] (x ∷ xs) long same = absurd (omega arith)
same_words place (w ∷ ws) [] long same = absurd (omega arith)
same_words place (w ∷ ws) (x ∷ xs) long same =
    (elim (x == w) as (λ b. (x == w) ≡ b → cond b (first_difference (place + 1) ws xs) (Some (place, x, w)) ≡ None → x ∷ xs ≡ w ∷ ws) [
      | true ↦ λ is same. let rest = same_words (place + 1) ws xs (omega arith) same in λ i. eqb-true x w is i ∷ rest i
      | false ↦ λ is same. absurd cc
    ]) refl same

tail_is : (tail wanted : List ℕ) → IsBytes tail → Agrees tail wanted → tail ≡ word_bytes wanted
tail_is tail wanted fits agrees =
    let count : length tail / 4 ≡ length wanted = omega (arith, agrees.long) in
    let words : whole_words tail ≡ wanted = same_words 0 wanted (whole_words tail) (length-table 4 word (length tail / 4) tail ∙ count) agrees.same in
    let all : 4 * (length tail / 4) ≡ length tail = omega (arith, agrees.long) in
    let back : word_bytes (whole_words tail) ≡ tail = table_back 4 word (to_le_bytes w32) word_back (length tail / 4) tail (omega (arith, all)) fits ∙ take_all (4 * (length tail / 4)) tail (omega (arith, all)) in
    sym back ∙ ap word_bytes words

pub accepted_is_written : AcceptedIsWritten
accepted_is_written bytes parts words pairs fits read_so same =
    let is = found bytes parts fits read_so in
    let read = parts_ok bytes parts read_so in
    let tail_fits : IsBytes parts.tail = subst (λ (p : PartsValue). IsBytes p.tail) read.is (IsBytes-drop (tail_at read.header) bytes fits) in
    let tail = tail_is parts.tail (tail_words words pairs) tail_fits (tail_ok (tail_place parts) parts.tail (tail_words words pairs) same) in
    (is.0, is.1 ∙ ap (λ rest. front_bytes parts.version parts.image parts.hints ++ rest) tail)
