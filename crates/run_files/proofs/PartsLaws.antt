-- What reading answers, step by step.
use Rattle.std.proofs.Common.{◌≡◌, ℕ, ◌≤◌, ◌<◌, true, false, not, List, length, refl, ap, subst, ◌∙◌, arith, None, Ok, Err, nat_lt}
use Rattle.std.specs.Prelude.{◌==◌, position}
use Rattle.std.proofs.lemmas.Bool.{eqb-true, eq-eqb, lt-ltb, le-ltb, ltb-false, not-false}
use Rattle.image_file.specs.Reading.{word}
use Rattle.image_file.specs.Steps.{refuse_if, refuse_at}
use Rattle.image_file.proofs.StepLaws.{bind_ok, passed, passed_at, done, ok_is}
use Rattle.run_files.specs.declared.header.Header.{Header}
use Rattle.run_files.specs.declared.refusal.OrderRefusal.{OrderRefusal}
use Rattle.run_files.specs.declared.refusal.OrderRefusal.TheVariants.{Truncated, BadMagic, BadVersion, WrongThreads, TooManyPicks, Trailing, BadFlag, LargeCount, BadThread}
use Rattle.run_files.specs.Limits.{MAGIC, VERSION, HEADER, MOST_PICKS}
use Rattle.run_files.specs.Values.{OrderValue}
use Rattle.run_files.specs.Reading.{header_in, file_length, numbers_allowed, header_of, counts_in, flags_in, picks_in, is_bad_flag, is_large_count, is_of_no_thread, parts_allowed, order_in, order_of}

-- ---- the header

pub record AreAllowed (threads : ℕ) (header : Header) : Type 0 where
  pub version : header.version ≡ 1
  pub same : header.threads ≡ threads
  pub picks : header.picks ≤ 4194304
  pub input : header.input ≤ 65536

pub numbers_ok : (threads : ℕ) (header : Header) (u : Unit {0}) → numbers_allowed threads header ≡ Ok u → AreAllowed threads header
unfolding numbers_allowed
numbers_ok threads header u e =
    let a = bind_ok (refuse_if (not (header.version == VERSION)) (BadVersion header.version)) _ u e in
    let b = bind_ok (refuse_if (not (header.threads == threads)) (WrongThreads header.threads)) _ u a.2 in
    let c = bind_ok (refuse_if (nat_lt MOST_PICKS header.picks) (TooManyPicks header.picks)) _ u b.2 in
    record {
      version = eqb-true _ _ (not-false _ (passed _ _ a.0 a.1));
      same = eqb-true _ _ (not-false _ (passed _ _ b.0 b.1));
      picks = ltb-false _ _ (passed _ _ c.0 c.1);
      input = ltb-false _ _ (passed _ _ u c.2);
    }

pub numbers_pass : (threads : ℕ) (header : Header) → AreAllowed threads header → numbers_allowed threads header ≡ Ok tt
unfolding numbers_allowed
numbers_pass threads header are =
    let version : (header.version == 1) ≡ true = eq-eqb _ _ are.version in
    let same : (header.threads == threads) ≡ true = eq-eqb _ _ are.same in
    let picks : nat_lt 4194304 header.picks ≡ false = le-ltb _ _ are.picks in
    let input : nat_lt 65536 header.input ≡ false = le-ltb _ _ are.input in
    rw (version, same, picks, input) refl

pub record IsHeader (threads : ℕ) (bytes : List ℕ) (header : Header) : Type 0 where
  pub magic : word bytes ≡ MAGIC
  pub allowed : AreAllowed threads header
  pub long : length bytes ≡ file_length header
  pub is : header_in bytes ≡ header

pub header_ok : (threads : ℕ) (bytes : List ℕ) (header : Header) → header_of threads bytes ≡ Ok header → IsHeader threads bytes header
unfolding header_of
header_ok threads bytes header e =
    let a = bind_ok (refuse_if (nat_lt (length bytes) HEADER) (Truncated (length bytes))) _ header e in
    let b = bind_ok (refuse_if (not (word bytes == MAGIC)) BadMagic) _ header a.2 in
    let c = bind_ok (numbers_allowed threads (header_in bytes)) _ header b.2 in
    let d = bind_ok (refuse_if (nat_lt (length bytes) (file_length (header_in bytes))) (Truncated (length bytes))) _ header c.2 in
    let f = bind_ok (refuse_if (nat_lt (file_length (header_in bytes)) (length bytes)) (Trailing (file_length (header_in bytes)))) _ header d.2 in
    let is : header_in bytes ≡ header = ok_is _ _ f.2 in
    let long : length bytes ≡ file_length (header_in bytes) = omega (arith, ltb-false _ _ (passed _ _ d.0 d.1), ltb-false _ _ (passed _ _ f.0 f.1)) in
    record {
      magic = eqb-true _ _ (not-false _ (passed _ _ b.0 b.1));
      allowed = subst (λ h. AreAllowed threads h) is (numbers_ok threads (header_in bytes) c.0 c.1);
      long = long ∙ ap file_length is;
      is = is;
    }

pub header_pass : (threads : ℕ) (bytes : List ℕ) (header : Header) → IsHeader threads bytes header → header_of threads bytes ≡ Ok header
unfolding header_of
header_pass threads bytes header is =
    let headed : nat_lt (length bytes) 20 ≡ false = le-ltb _ _ (omega (arith, is.long)) in
    let magic : (word bytes == MAGIC) ≡ true = ap (λ n. n == MAGIC) is.magic in
    let allowed : numbers_allowed threads (header_in bytes) ≡ Ok tt = ap (numbers_allowed threads) is.is ∙ numbers_pass threads header is.allowed in
    let whole : nat_lt (length bytes) (file_length (header_in bytes)) ≡ false = ap (λ h. nat_lt (length bytes) (file_length h)) is.is ∙ le-ltb _ _ (omega (arith, is.long)) in
    let ended : nat_lt (file_length (header_in bytes)) (length bytes) ≡ false = ap (λ h. nat_lt (file_length h) (length bytes)) is.is ∙ le-ltb _ _ (omega (arith, is.long)) in
    rw (headed, magic, allowed, whole, ended) (ap done is.is)

-- ---- the parts

pub record ArePassed (header : Header) (bytes : List ℕ) : Type 0 where
  pub flags : position is_bad_flag (flags_in header.threads bytes) ≡ None
  pub counts : position is_large_count (counts_in header.threads bytes) ≡ None
  pub picks : position (is_of_no_thread header.threads) (picks_in header bytes) ≡ None

abbrev pub bad_flag : ℕ → OrderRefusal
bad_flag thread = BadFlag thread

abbrev pub large_count : ℕ → OrderRefusal
large_count thread = LargeCount thread

abbrev pub bad_thread : ℕ → OrderRefusal
bad_thread place = BadThread place

pub parts_ok : (header : Header) (bytes : List ℕ) (u : Unit {0}) → parts_allowed header bytes ≡ Ok u → ArePassed header bytes
unfolding parts_allowed
parts_ok header bytes u e =
    let a = bind_ok (refuse_at (position is_bad_flag (flags_in header.threads bytes)) bad_flag) _ u e in
    let b = bind_ok (refuse_at (position is_large_count (counts_in header.threads bytes)) large_count) _ u a.2 in
    record {
      flags = passed_at _ _ a.0 a.1;
      counts = passed_at _ _ b.0 b.1;
      picks = passed_at _ _ u b.2;
    }

pub parts_pass : (header : Header) (bytes : List ℕ) → ArePassed header bytes → parts_allowed header bytes ≡ Ok tt
unfolding parts_allowed
parts_pass header bytes are = rw (are.flags, are.counts, are.picks) refl

pub record IsRead (threads : ℕ) (bytes : List ℕ) (file : OrderValue) : Type 0 where
  pub header : Header
  pub headed : IsHeader threads bytes header
  pub passed : ArePassed header bytes
  pub is : order_in header bytes ≡ file

pub order_ok : (threads : ℕ) (bytes : List ℕ) (file : OrderValue) → order_of threads bytes ≡ Ok file → IsRead threads bytes file
unfolding order_of
order_ok threads bytes file e =
    let a = bind_ok (header_of threads bytes) _ file e in
    let b = bind_ok (parts_allowed a.0 bytes) _ file a.2 in
    record { header = a.0; headed = header_ok threads bytes a.0 a.1; passed = parts_ok a.0 bytes b.0 b.1; is = ok_is _ _ b.2 }

pub order_pass : (threads : ℕ) (bytes : List ℕ) (header : Header) → IsHeader threads bytes header → ArePassed header bytes → order_of threads bytes ≡ Ok (order_in header bytes)
unfolding order_of
order_pass threads bytes header is are = rw (header_pass threads bytes header is, parts_pass header bytes are) refl

-- ---- a file that is too short

pub header_cut : (threads : ℕ) (bytes : List ℕ) → length bytes < 20 → order_of threads bytes ≡ Err (Truncated (length bytes))
unfolding order_of header_of
header_cut threads bytes short = let long : nat_lt (length bytes) HEADER ≡ true = lt-ltb _ _ short in rw long refl

pub parts_cut : (threads : ℕ) (bytes : List ℕ) (header : Header) → 20 ≤ length bytes → word bytes ≡ MAGIC → AreAllowed threads header → header_in bytes ≡ header → length bytes < file_length header → order_of threads bytes ≡ Err (Truncated (length bytes))
unfolding order_of header_of
parts_cut threads bytes header long magic are is short =
    let headed : nat_lt (length bytes) 20 ≡ false = le-ltb _ _ long in
    let magic_test : (word bytes == MAGIC) ≡ true = ap (λ n. n == MAGIC) magic in
    let allowed : numbers_allowed threads (header_in bytes) ≡ Ok tt = ap (numbers_allowed threads) is ∙ numbers_pass threads header are in
    let whole : nat_lt (length bytes) (file_length (header_in bytes)) ≡ true = ap (λ h. nat_lt (length bytes) (file_length h)) is ∙ lt-ltb _ _ short in
    rw (headed, magic_test, allowed, whole) refl
