-- Hint files: what is written reads as it was written, what reads was so written, and what is cut is refused.
use Rattle.std.proofs.Common.{◌≡◌, ℕ, ◌+◌, ◌*◌, ◌<◌, ◌≤◌, true, false, not, List, [], ◌++◌, length, take, drop, refl, sym, ap, subst, ◌∙◌, arith, None, Result, Ok, Err, nat_lt, inl, inr}
use Rattle.std.specs.Prelude.{◌==◌, codes, IfOk}
use Rattle.std.specs.Int.{w32, to_le_bytes}
use Rattle.std.proofs.lemmas.Bool.{cases_lt, eqb-true, lt-ltb, le-ltb, ltb-false, not-false}
use Rattle.std.proofs.lemmas.List.{length-append, length-drop, drop_at, take_all, append-nil}
use Rattle.std.proofs.lemmas.Nat.{from_le_bytes-to_le_bytes_4}
use Rattle.vax_form.specs.GrammarLaws.{AreBytes}
use Rattle.image_file.specs.Reading.{word, table_in}
use Rattle.image_file.specs.Steps.{refuse_if, refuse_at}
use Rattle.image_file.proofs.FieldLaws.{IsBytes, IsBytes-drop, take_join, word_back, word_fits, word_again, length-table, table_back, table_all, table_again, length-written}
use Rattle.image_file.proofs.Prefixes.{word_front, front_at, cut_length}
use Rattle.image_file.proofs.StepLaws.{bind_ok, passed, passed_at, done, ok_is}
use Rattle.translated_file.specs.Limits.{MOST_HINTS}
use Rattle.translated_file.specs.Reading.{first_fall}
use Rattle.translated_file.specs.Spelling.{word_bytes}
use Rattle.translated_file.specs.Whole.{AreHints, IsLong}
use Rattle.translated_file.proofs.FallLaws.{none_falls, rises}
use Rattle.run_files.specs.declared.hint_refusal.HintRefusal.{HintRefusal}
use Rattle.run_files.specs.declared.hint_refusal.HintRefusal.TheVariants.{Truncated, BadMagic, BadVersion, TooMany, BadHint, Trailing}
use Rattle.run_files.specs.Limits.{HINT_MAGIC, HINT_HEADER, VERSION}
use Rattle.run_files.specs.Hints.{GivesHints, HintPrefixesAreRefused, ReadHintsAreWritten, WrittenHintsAreRead, count_in, count_of, hints_bytes, hints_header, hints_in, hints_length, hints_of}

-- ---- step by step

-- the header of a file with so many addresses
pub record IsHeaded (bytes : List ℕ) (count : ℕ) : Type 0 where
  pub magic : word bytes ≡ HINT_MAGIC
  pub version : word (drop 4 bytes) ≡ 1
  pub few : count ≤ 32768
  pub whole : 12 + 4 * count ≤ length bytes
  pub is : word (drop 8 bytes) ≡ count

count_ok : (bytes : List ℕ) (count : ℕ) → count_of bytes ≡ Ok count → IsHeaded bytes count
unfolding count_of
count_ok bytes count e =
    let a = bind_ok (refuse_if (nat_lt (length bytes) HINT_HEADER) (Truncated (length bytes))) _ count e in
    let b = bind_ok (refuse_if (not (word bytes == HINT_MAGIC)) BadMagic) _ count a.2 in
    let c = bind_ok (refuse_if (not (word (drop 4 bytes) == VERSION)) (BadVersion (word (drop 4 bytes)))) _ count b.2 in
    let d = bind_ok (refuse_if (nat_lt MOST_HINTS (count_in bytes)) (TooMany (count_in bytes))) _ count c.2 in
    let f = bind_ok (refuse_if (nat_lt (length bytes) (hints_length (count_in bytes))) (Truncated (length bytes))) _ count d.2 in
    let is : word (drop 8 bytes) ≡ count = ok_is _ _ f.2 in
    record {
      magic = eqb-true _ _ (not-false _ (passed _ _ b.0 b.1));
      version = eqb-true _ _ (not-false _ (passed _ _ c.0 c.1));
      few = subst (λ n. n ≤ 32768) is (ltb-false _ _ (passed _ _ d.0 d.1));
      whole = subst (λ n. 12 + 4 * n ≤ length bytes) is (ltb-false _ _ (passed _ _ f.0 f.1));
      is = is;
    }

count_pass : (bytes : List ℕ) (count : ℕ) → IsHeaded bytes count → count_of bytes ≡ Ok count
unfolding count_of
count_pass bytes count is =
    let headed : nat_lt (length bytes) 12 ≡ false = le-ltb _ _ (omega (arith, is.whole)) in
    let magic : (word bytes == HINT_MAGIC) ≡ true = ap (λ n. n == HINT_MAGIC) is.magic in
    let version : (word (drop 4 bytes) == 1) ≡ true = ap (λ n. n == 1) is.version in
    let few : nat_lt 32768 (word (drop 8 bytes)) ≡ false = ap (nat_lt 32768) is.is ∙ le-ltb _ _ is.few in
    let whole : nat_lt (length bytes) (12 + 4 * word (drop 8 bytes)) ≡ false = ap (λ n. nat_lt (length bytes) (12 + 4 * n)) is.is ∙ le-ltb _ _ is.whole in
    rw (headed, magic, version, few, whole) (ap done is.is)

pub record AreRead (bytes hints : List ℕ) : Type 0 where
  pub count : ℕ
  pub headed : IsHeaded bytes count
  pub rising : first_fall (hints_in count bytes) ≡ None
  pub ended : length bytes ≡ 12 + 4 * count
  pub are : hints_in count bytes ≡ hints

hints_ok : (bytes hints : List ℕ) → hints_of bytes ≡ Ok hints → AreRead bytes hints
unfolding hints_of
hints_ok bytes hints e =
    let a = bind_ok (count_of bytes) _ hints e in
    let b = bind_ok (refuse_at (first_fall (hints_in a.0 bytes)) (λ place. BadHint place)) _ hints a.2 in
    let c = bind_ok (refuse_if (nat_lt (hints_length a.0) (length bytes)) (Trailing (hints_length a.0))) _ hints b.2 in
    let headed = count_ok bytes a.0 a.1 in
    record {
      count = a.0;
      headed = headed;
      rising = passed_at _ _ b.0 b.1;
      ended = omega (arith, headed.whole, ltb-false _ _ (passed _ _ c.0 c.1));
      are = ok_is _ _ c.2;
    }

hints_pass : (bytes : List ℕ) (count : ℕ) → IsHeaded bytes count → first_fall (hints_in count bytes) ≡ None → length bytes ≡ 12 + 4 * count → hints_of bytes ≡ Ok (hints_in count bytes)
unfolding hints_of
hints_pass bytes count is rising all =
    let ended : nat_lt (12 + 4 * count) (length bytes) ≡ false = le-ltb _ _ (omega (arith, all)) in
    rw (count_pass bytes count is, rising, ended) refl

-- ---- what is written, read again

pub written_is_read : WrittenHintsAreRead
unfolding hints_bytes
written_is_read hints are =
    let h : ℕ = length hints in
    let a : List ℕ = hints_header h in
    let c : List ℕ = word_bytes hints in
    let bytes : List ℕ = a ++ c in
    let long : length c ≡ 4 * h = length-written IsLong 4 (to_le_bytes w32) (λ x fit. refl) hints are.fit in
    let all : length bytes ≡ 12 + 4 * h = omega (arith, length-append a c, long) in
    let is : IsHeaded bytes h = record {
      magic = refl;
      version = refl;
      few = are.few;
      whole = omega (arith, all);
      is = from_le_bytes-to_le_bytes_4 h (omega (arith, are.few));
    } in
    let behind : drop 12 bytes ≡ c = drop_at a c 12 refl in
    let read : hints_in h bytes ≡ hints = ap (table_in 4 word h) (behind ∙ sym (append-nil c)) ∙ table_again IsLong 4 word (to_le_bytes w32) word_again (λ x fit. refl) hints [] are.fit in
    let rising = ap first_fall read ∙ none_falls hints are.rise in
    hints_pass bytes h is rising all ∙ ap done read

-- ---- what is read is so written

header_back : (bytes : List ℕ) (count : ℕ) → IsBytes bytes → IsHeaded bytes count → hints_header count ≡ take 12 bytes
header_back bytes count fits is =
    let magic : codes "VXHT" ≡ take 4 bytes = ap (to_le_bytes w32) (sym is.magic) ∙ word_back bytes (omega (arith, is.whole)) fits in
    let version : to_le_bytes w32 1 ≡ take 4 (drop 4 bytes) = ap (to_le_bytes w32) (sym is.version) ∙ word_back (drop 4 bytes) (omega (arith, is.whole, length-drop 4 bytes)) (IsBytes-drop 4 bytes fits) in
    let number : to_le_bytes w32 count ≡ take 4 (drop 8 bytes) = ap (to_le_bytes w32) (sym is.is) ∙ word_back (drop 8 bytes) (omega (arith, is.whole, length-drop 8 bytes)) (IsBytes-drop 8 bytes fits) in
    (λ i. magic i ++ version i ++ number i)
    ∙ (λ i. take_join 4 4 bytes i ++ take 4 (drop 8 bytes))
    ∙ take_join 8 4 bytes

made_so : (bytes : List ℕ) (count : ℕ) → IsBytes bytes → IsHeaded bytes count → length bytes ≡ 12 + 4 * count → hints_bytes (hints_in count bytes) ≡ bytes
unfolding hints_bytes
made_so bytes count fits is all =
    let count_is : length (hints_in count bytes) ≡ count = length-table 4 word count (drop 12 bytes) in
    let front : hints_header (length (hints_in count bytes)) ≡ take 12 bytes = ap hints_header count_is ∙ header_back bytes count fits is in
    let hints : word_bytes (hints_in count bytes) ≡ take (4 * count) (drop 12 bytes) = table_back 4 word (to_le_bytes w32) word_back count (drop 12 bytes) (omega (arith, all, length-drop 12 bytes)) (IsBytes-drop 12 bytes fits) in
    (λ i. front i ++ hints i) ∙ take_join 12 (4 * count) bytes ∙ take_all (12 + 4 * count) bytes (omega (arith, all))

pub read_is_written : ReadHintsAreWritten
read_is_written bytes hints fits read_so =
    let read = hints_ok bytes hints read_so in
    let count_is = length-table 4 word read.count (drop 12 bytes) in
    let are : AreHints (hints_in read.count bytes) = record {
      few = omega (arith, count_is, read.headed.few);
      fit = table_all IsLong 4 word word_fits read.count (drop 12 bytes) (IsBytes-drop 12 bytes fits);
      rise = rises (hints_in read.count bytes) read.rising;
    } in
    (subst AreHints read.are are, sym (made_so bytes read.count fits read.headed read.ended) ∙ ap hints_bytes read.are)

-- what a call that reads has found
pub is_found : {X : Type 0} (bytes : List ℕ) (view : X → List ℕ) (r : Result X HintRefusal) → AreBytes bytes → GivesHints view r (hints_of bytes) → IfOk r (λ x. AreHints (view x) × (bytes ≡ hints_bytes (view x)))
is_found bytes view (Ok x) fits given = read_is_written bytes (view x) fits given
is_found bytes view (Err e) fits given = tt

-- ---- a file that is cut

header_cut : (bytes : List ℕ) → length bytes < 12 → hints_of bytes ≡ Err (Truncated (length bytes))
unfolding hints_of count_of
header_cut bytes short = let headed : nat_lt (length bytes) HINT_HEADER ≡ true = lt-ltb _ _ short in rw headed refl

hints_cut : (bytes : List ℕ) (count : ℕ) → 12 ≤ length bytes → word bytes ≡ HINT_MAGIC → word (drop 4 bytes) ≡ 1 → word (drop 8 bytes) ≡ count → count ≤ 32768 → length bytes < 12 + 4 * count → hints_of bytes ≡ Err (Truncated (length bytes))
unfolding hints_of count_of
hints_cut bytes count long magic version number few short =
    let headed : nat_lt (length bytes) 12 ≡ false = le-ltb _ _ long in
    let magic_test : (word bytes == HINT_MAGIC) ≡ true = ap (λ n. n == HINT_MAGIC) magic in
    let version_test : (word (drop 4 bytes) == 1) ≡ true = ap (λ n. n == 1) version in
    let few_test : nat_lt 32768 (word (drop 8 bytes)) ≡ false = ap (nat_lt 32768) number ∙ le-ltb _ _ few in
    let whole : nat_lt (length bytes) (12 + 4 * word (drop 8 bytes)) ≡ true = ap (λ n. nat_lt (length bytes) (12 + 4 * n)) number ∙ lt-ltb _ _ short in
    rw (headed, magic_test, version_test, few_test, whole) refl

pub prefixes_are_refused : HintPrefixesAreRefused
prefixes_are_refused bytes hints kept all short =
    let read = hints_ok bytes hints all in
    let is = read.headed in
    let length_is = cut_length kept bytes short in
    (elim (cases_lt kept 12) [
      | inl inside ↦ header_cut (take kept bytes) (omega (arith, length_is))
      | inr behind ↦ hints_cut (take kept bytes) read.count (omega (arith, length_is)) (word_front kept bytes (omega arith) ∙ is.magic) (front_at 4 word word_front 4 kept bytes (omega arith) ∙ is.version) (front_at 4 word word_front 8 kept bytes (omega arith) ∙ is.is) is.few (omega (arith, length_is, read.ended))
    ]) ∙ ap (λ n. Err (Truncated n)) length_is
