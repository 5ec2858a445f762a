-- What is written reads as it was written, and what reads was so written.
use Rattle.std.proofs.Common.{◌≡◌, ℕ, zero, suc, ◌+◌, ◌*◌, ◌^◌, ◌<◌, ◌≤◌, Bool, true, false, List, [], ◌∷◌, ◌++◌, length, map, take, drop, refl, sym, ap, subst, ◌∙◌, arith, append_assoc, Result, Ok, Err}
use Rattle.std.specs.Prelude.{codes, zip, IfOk}
use Rattle.std.specs.List.{flat_map, AllByRecursion}
use Rattle.std.specs.Int.{w32, w64, to_le_bytes, from_le_bytes}
use Rattle.std.proofs.lemmas.Bool.{lt-ltb, le-ltb, ltb-true, ltb-false, not-false}
use Rattle.std.proofs.lemmas.List.{length-append, length-take, length-drop, length-map, take_at, drop_at, take_all, take_more, append-nil}
use Rattle.std.proofs.lemmas.Nat.{le_bytes_8, from_le_bytes-to_le_bytes_4, from_le_bytes-to_le_bytes_8}
use Rattle.vax_form.specs.GrammarLaws.{AreBytes}
use Rattle.vax_form.specs.declared.state.Pick.{Pick}
use Rattle.image_file.specs.Reading.{word, table_in}
use Rattle.image_file.proofs.FieldLaws.{IsBytes, IsBytes-drop, IsBytes-take, take_join, word_back, length-table, table_back, table_again, length-written}
use Rattle.image_file.proofs.ListLaws.{position_none, none_position}
use Rattle.image_file.proofs.StepLaws.{done}
use Rattle.run_files.specs.declared.header.Header.{Header}
use Rattle.run_files.specs.declared.refusal.OrderRefusal.{OrderRefusal}
use Rattle.run_files.specs.Values.{OrderValue}
use Rattle.run_files.specs.Fits.{IsCount, IsPick, Fits}
use Rattle.run_files.specs.Spelling.{header_bytes, flag, end_bytes, pick_bytes, order_bytes}
use Rattle.run_files.specs.Reading.{Gives, quad, header_in, input_at, picks_at, flag_in, pick_in, counts_in, flags_in, input_in, picks_in, is_bad_flag, is_large_count, is_of_no_thread, is_set, order_in, order_of}
use Rattle.run_files.specs.Laws.{WrittenIsRead, ReadIsWritten}
use Rattle.run_files.proofs.PartsLaws.{IsHeader, ArePassed, order_ok, order_pass}
use Rattle.run_files.proofs.Tables.{NonePass}

-- ---- the ends of threads, written and read again

ends_length : (counts : List ℕ) (spent : List Bool) → length spent ≡ length counts → length (flat_map end_bytes (zip counts spent)) ≡ 9 * length counts
ends_length [] spent same = omega arith
ends_length (c ∷ cs) [] same = absurd (omega arith)
ends_length (c ∷ cs) (s ∷ ss) same = omega (arith, length-append (end_bytes (c, s)) (flat_map end_bytes (zip cs ss)), ends_length cs ss (omega arith))

-- a thread's end in front of the others
in_front : (c : ℕ) (s : Bool) (cs : List ℕ) (ss : List Bool) (rest : List ℕ) → flat_map end_bytes (zip (c ∷ cs) (s ∷ ss)) ++ rest ≡ end_bytes (c, s) ++ (flat_map end_bytes (zip cs ss) ++ rest)
in_front c s cs ss rest = append_assoc (end_bytes (c, s)) (flat_map end_bytes (zip cs ss)) rest

quad_again : (n : ℕ) (rest : List ℕ) → n < 2 ^ 64 → quad (to_le_bytes w64 n ++ rest) ≡ n
quad_again n rest fits = ap (from_le_bytes w64) (take_at (to_le_bytes w64 n) rest 8 refl) ∙ from_le_bytes-to_le_bytes_8 n fits

count_again : (c : ℕ) (s : Bool) (rest : List ℕ) → IsCount c → quad (end_bytes (c, s) ++ rest) ≡ c
count_again c s rest fits = ap quad (append_assoc (to_le_bytes w64 c) (flag s ∷ []) rest) ∙ quad_again c (flag s ∷ [] ++ rest) (omega arith)

counts_again : (counts : List ℕ) (spent : List Bool) (rest : List ℕ) → length spent ≡ length counts → AllByRecursion IsCount counts → table_in 9 quad (length counts) (flat_map end_bytes (zip counts spent) ++ rest) ≡ counts
counts_again [] spent rest same fit = refl
counts_again (c ∷ cs) [] rest same fit = absurd (omega arith)
counts_again (c ∷ cs) (s ∷ ss) rest same fit =
    let more : List ℕ = flat_map end_bytes (zip cs ss) ++ rest in
    ap (table_in 9 quad (suc (length cs))) (in_front c s cs ss rest)
    ∙ (λ i. count_again c s more fit.0 i ∷ table_in 9 quad (length cs) (drop_at (end_bytes (c, s)) more 9 refl i))
    ∙ ap (λ ys. c ∷ ys) (counts_again cs ss rest (omega arith) fit.1)

flags_again : (counts : List ℕ) (spent : List Bool) (rest : List ℕ) → length spent ≡ length counts → table_in 9 flag_in (length counts) (flat_map end_bytes (zip counts spent) ++ rest) ≡ map flag spent
flags_again [] [] rest same = refl
flags_again [] (s ∷ ss) rest same = absurd (omega arith)
flags_again (c ∷ cs) [] rest same = absurd (omega arith)
flags_again (c ∷ cs) (s ∷ ss) rest same =
    let more : List ℕ = flat_map end_bytes (zip cs ss) ++ rest in
    ap (table_in 9 flag_in (suc (length cs))) (in_front c s cs ss rest)
    ∙ ap (λ behind. flag s ∷ table_in 9 flag_in (length cs) behind) (drop_at (end_bytes (c, s)) more 9 refl)
    ∙ ap (λ ys. flag s ∷ ys) (flags_again cs ss rest (omega arith))

flag_again : (s : Bool) → is_set (flag s) ≡ s
flag_again true = refl
flag_again false = refl

spent_again : (spent : List Bool) → map is_set (map flag spent) ≡ spent
spent_again [] = refl
spent_again (s ∷ ss) = λ i. flag_again s i ∷ spent_again ss i

flag_good : (s : Bool) → is_bad_flag (flag s) ≡ false
flag_good true = refl
flag_good false = refl

flags_good : (spent : List Bool) → AllByRecursion (λ f. is_bad_flag f ≡ false) (map flag spent)
flags_good [] = tt
flags_good (s ∷ ss) = (flag_good s, flags_good ss)

counts_good : (counts : List ℕ) → AllByRecursion IsCount counts → AllByRecursion (λ c. is_large_count c ≡ false) counts
counts_good [] fit = tt
counts_good (c ∷ cs) fit = (le-ltb _ _ fit.0, counts_good cs fit.1)

-- ---- picks, written and read again

pick_again : (threads : ℕ) (p : Pick) (rest : List ℕ) → IsPick threads p → pick_in (pick_bytes p ++ rest) ≡ p
pick_again threads p rest fits = λ i. record { thread = p.thread; retired = quad_again p.retired rest fits.1 i }

pick_good : (threads : ℕ) (p : Pick) → IsPick threads p → is_of_no_thread threads p ≡ false
pick_good threads p fits = rw (lt-ltb p.thread threads fits.0) refl

picks_good : (threads : ℕ) (picks : List Pick) → AllByRecursion (IsPick threads) picks → AllByRecursion (λ p. is_of_no_thread threads p ≡ false) picks
picks_good threads [] fit = tt
picks_good threads (p ∷ ps) fit = (pick_good threads p fit.0, picks_good threads ps fit.1)

-- ---- a file, written and read again

regroup : (a b c d : List ℕ) → a ++ b ++ c ++ d ≡ a ++ (b ++ (c ++ d))
regroup a b c d = simp append_assoc

pub written_is_read : WrittenIsRead
unfolding order_bytes
written_is_read threads file fits =
    let n : ℕ = length file.counts in
    let k : ℕ = length file.picks in
    let m : ℕ = length file.input in
    let a : List ℕ = header_bytes n k m in
    let b : List ℕ = flat_map end_bytes (zip file.counts file.spent) in
    let c : List ℕ = file.input in
    let d : List ℕ = flat_map pick_bytes file.picks in
    let bytes : List ℕ = a ++ (b ++ (c ++ d)) in
    let header : Header = record { version = 1; threads = n; picks = k; input = m } in
    let same : length file.spent ≡ n = fits.spent ∙ sym fits.counts in
    let ends : length b ≡ 9 * n = ends_length file.counts file.spent same in
    let picks : length d ≡ 9 * k = length-written (IsPick threads) 9 pick_bytes (λ x f. refl) file.picks fits.picks in
    let numbers : header_in bytes ≡ header = λ i. record {
      version = 1;
      threads = from_le_bytes-to_le_bytes_4 n (omega (arith, fits.counts, fits.few.few_threads)) i;
      picks = from_le_bytes-to_le_bytes_4 k (omega (arith, fits.few.few_picks)) i;
      input = from_le_bytes-to_le_bytes_4 m (omega (arith, fits.few.short_input)) i;
    } in
    let is : IsHeader threads bytes header = record {
      magic = refl;
      allowed = record { version = refl; same = fits.counts; picks = fits.few.few_picks; input = fits.few.short_input };
      long = omega (arith, length-append a (b ++ (c ++ d)), length-append b (c ++ d), length-append c d, ends, picks);
      is = numbers;
    } in
    let abc : bytes ≡ (a ++ b ++ c) ++ d = simp append_assoc in
    let ab : bytes ≡ (a ++ b) ++ (c ++ d) = simp append_assoc in
    let behind_b : drop (20 + 9 * n) bytes ≡ c ++ d = ap (drop (20 + 9 * n)) ab ∙ drop_at (a ++ b) (c ++ d) (20 + 9 * n) (omega (arith, length-append a b, ends)) in
    let behind_c : drop (20 + 9 * n + m) bytes ≡ d = ap (drop (20 + 9 * n + m)) abc ∙ drop_at (a ++ b ++ c) d (20 + 9 * n + m) (omega (arith, length-append a b, length-append (a ++ b) c, ends)) in
    let counts : counts_in n bytes ≡ file.counts = counts_again file.counts file.spent (c ++ d) same fits.small in
    let flags : flags_in n bytes ≡ map flag file.spent = flags_again file.counts file.spent (c ++ d) same in
    let input : input_in header bytes ≡ file.input = ap (take m) behind_b ∙ take_at c d m refl in
    let order : picks_in header bytes ≡ file.picks =
    ap (table_in 9 pick_in k) (behind_c ∙ sym (append-nil d)) ∙ table_again (IsPick threads) 9 pick_in pick_bytes (pick_again threads) (λ x f. refl) file.picks [] fits.picks in
    let are : ArePassed header bytes = record {
      flags = none_position is_bad_flag (flags_in n bytes) (subst (λ fs. AllByRecursion (λ f. is_bad_flag f ≡ false) fs) (sym flags) (flags_good file.spent));
      counts = none_position is_large_count (counts_in n bytes) (subst (λ cs. AllByRecursion (λ c. is_large_count c ≡ false) cs) (sym counts) (counts_good file.counts fits.small));
      picks = none_position (is_of_no_thread n) (picks_in header bytes)
          (subst (λ ps. AllByRecursion (λ p. is_of_no_thread n p ≡ false) ps) (sym order) (subst (λ t. AllByRecursion (λ p. is_of_no_thread t p ≡ false) file.picks) (sym fits.counts) (picks_good threads file.picks fits.picks)));
    } in
    let file_is : order_in header bytes ≡ file = λ i. record { input = input i; counts = counts i; spent = (ap (λ fs. map is_set fs) flags ∙ spent_again file.spent) i; picks = order i } in
    ap (order_of threads) (regroup a b c d) ∙ order_pass threads bytes header is are ∙ ap done file_is

-- ---- what is read is so written

quad_back : (bytes : List ℕ) → 8 ≤ length bytes → IsBytes bytes → to_le_bytes w64 (quad bytes) ≡ take 8 bytes
quad_back bytes long fits = le_bytes_8 (take 8 bytes) (quad bytes) (omega (arith, length-take 8 bytes)) (IsBytes-take 8 bytes fits) refl

quad_fits : (bytes : List ℕ) → IsBytes bytes → quad bytes < 2 ^ 64
quad_fits bytes fits =
    let part : IsBytes (take 8 bytes) = IsBytes-take 8 bytes fits in
    omega (arith, part 0, part 1, part 2, part 3, part 4, part 5, part 6, part 7)

flag_back : (f : ℕ) → is_bad_flag f ≡ false → flag (is_set f) ≡ f
flag_back zero good = refl
flag_back (suc zero) good = refl
flag_back (suc (suc f)) good = absurd (omega (arith, ltb-false 1 (suc (suc f)) good))

end_back : (bytes : List ℕ) → 9 ≤ length bytes → IsBytes bytes → is_bad_flag (flag_in bytes) ≡ false → end_bytes (quad bytes, is_set (flag_in bytes)) ≡ take 9 bytes
end_back bytes long fits good =
    (λ i. quad_back bytes (omega arith) fits i ++ flag_back (flag_in bytes) good i ∷ []) ∙ sym (take_more bytes 8 0 (omega arith))

one_more : (count : ℕ) → 9 + 9 * count ≡ 9 * suc count
one_more count = omega arith

ends_back : (count : ℕ) (bytes : List ℕ) → 9 * count ≤ length bytes → IsBytes bytes → NonePass is_bad_flag 9 flag_in count bytes → flat_map end_bytes (zip (table_in 9 quad count bytes) (map is_set (table_in 9 flag_in count bytes))) ≡ take (9 * count) bytes
ends_back zero bytes long fits good = refl
ends_back (suc count) bytes long fits good =
    (λ i. end_back bytes (omega arith) fits good.0 i ++ ends_back count (drop 9 bytes) (omega (arith, length-drop 9 bytes)) (IsBytes-drop 9 bytes fits) good.1 i)
    ∙ take_join 9 (9 * count) bytes ∙ ap (λ n. take n bytes) (one_more count)

pick_back : (bytes : List ℕ) → 9 ≤ length bytes → IsBytes bytes → pick_bytes (pick_in bytes) ≡ take 9 bytes
pick_back [] long fits = absurd (omega arith)
pick_back (b ∷ bs) long fits = ap (λ rest. b ∷ rest) (quad_back bs (omega arith) (λ i. fits (suc i)))

picks_fit : (threads count : ℕ) (bytes : List ℕ) → IsBytes bytes → NonePass (is_of_no_thread threads) 9 pick_in count bytes → AllByRecursion (IsPick threads) (table_in 9 pick_in count bytes)
picks_fit threads zero bytes fits good = tt
picks_fit threads (suc count) bytes fits good =
    ((ltb-true _ _ (not-false _ good.0), quad_fits (drop 1 bytes) (IsBytes-drop 1 bytes fits)), picks_fit threads count (drop 9 bytes) (IsBytes-drop 9 bytes fits) good.1)

counts_small : (counts : List ℕ) → AllByRecursion (λ c. is_large_count c ≡ false) counts → AllByRecursion IsCount counts
counts_small [] good = tt
counts_small (c ∷ cs) good = (ltb-false _ _ good.0, counts_small cs good.1)

header_back : (threads : ℕ) (bytes : List ℕ) (header : Header) → IsBytes bytes → IsHeader threads bytes header → header_bytes header.threads header.picks header.input ≡ take 20 bytes
header_back threads bytes header fits is =
    let back : (at : ℕ) → at + 4 ≤ 20 → to_le_bytes w32 (word (drop at bytes)) ≡ take 4 (drop at bytes) = λ at within. word_back (drop at bytes) (omega (arith, is.long, length-drop at bytes)) (IsBytes-drop at bytes fits) in
    let magic : codes "VXOR" ≡ take 4 bytes = ap (to_le_bytes w32) (sym is.magic) ∙ back 0 (omega arith) in
    let version : to_le_bytes w32 1 ≡ take 4 (drop 4 bytes) = ap (to_le_bytes w32) (sym is.allowed.version ∙ ap (λ (h : Header). h.version) (sym is.is)) ∙ back 4 (omega arith) in
    let threads_are : to_le_bytes w32 header.threads ≡ take 4 (drop 8 bytes) = ap (λ (h : Header). to_le_bytes w32 h.threads) (sym is.is) ∙ back 8 (omega arith) in
    let picks : to_le_bytes w32 header.picks ≡ take 4 (drop 12 bytes) = ap (λ (h : Header). to_le_bytes w32 h.picks) (sym is.is) ∙ back 12 (omega arith) in
    let input : to_le_bytes w32 header.input ≡ take 4 (drop 16 bytes) = ap (λ (h : Header). to_le_bytes w32 h.input) (sym is.is) ∙ back 16 (omega arith) in
    (λ i. magic i ++ version i ++ threads_are i ++ picks i ++ input i)
    ∙ (λ i. take_join 4 4 bytes i ++ take 4 (drop 8 bytes) ++ take 4 (drop 12 bytes) ++ take 4 (drop 16 bytes))
    ∙ (λ i. take_join 8 4 bytes i ++ take 4 (drop 12 bytes) ++ take 4 (drop 16 bytes))
    ∙ (λ i. take_join 12 4 bytes i ++ take 4 (drop 16 bytes))
    ∙ take_join 16 4 bytes

four_joined : (a b c d : ℕ) (bytes : List ℕ) → a + b + c + d ≡ length bytes → take a bytes ++ take b (drop a bytes) ++ take c (drop (a + b) bytes) ++ take d (drop (a + b + c) bytes) ≡ bytes
four_joined a b c d bytes all =
    (λ i. take_join a b bytes i ++ take c (drop (a + b) bytes) ++ take d (drop (a + b + c) bytes))
    ∙ (λ i. take_join (a + b) c bytes i ++ take d (drop (a + b + c) bytes))
    ∙ take_join (a + b + c) d bytes ∙ take_all (a + b + c + d) bytes (omega (arith, all))

made_so : (threads : ℕ) (bytes : List ℕ) (header : Header) → IsBytes bytes → IsHeader threads bytes header → ArePassed header bytes → order_bytes (order_in header bytes) ≡ bytes
unfolding order_bytes
made_so threads bytes header fits is are =
    let n = header.threads in
    let k = header.picks in
    let m = header.input in
    let counts_length : length (counts_in n bytes) ≡ n = length-table 9 quad n (drop 20 bytes) in
    let picks_length : length (picks_in header bytes) ≡ k = length-table 9 pick_in k (drop (picks_at header) bytes) in
    let input_length : length (input_in header bytes) ≡ m = omega (arith, is.long, length-take m (drop (20 + 9 * n) bytes), length-drop (20 + 9 * n) bytes) in
    let front : header_bytes (length (counts_in n bytes)) (length (picks_in header bytes)) (length (input_in header bytes)) ≡ take 20 bytes =
    (λ i. header_bytes (counts_length i) (picks_length i) (input_length i)) ∙ header_back threads bytes header fits is in
    let ends = ends_back n (drop 20 bytes) (omega (arith, is.long, length-drop 20 bytes)) (IsBytes-drop 20 bytes fits) (position_none is_bad_flag (flags_in n bytes) are.flags) in
    let picks : flat_map pick_bytes (picks_in header bytes) ≡ take (9 * k) (drop (20 + 9 * n + m) bytes) =
    table_back 9 pick_in pick_bytes pick_back k (drop (20 + 9 * n + m) bytes) (omega (arith, is.long, length-drop (20 + 9 * n + m) bytes)) (IsBytes-drop (20 + 9 * n + m) bytes fits) in
    (λ i. front i ++ ends i ++ input_in header bytes ++ picks i) ∙ four_joined 20 (9 * n) m (9 * k) bytes (omega (arith, is.long))

pub read_is_written : ReadIsWritten
read_is_written threads bytes file few fits read_so =
    let read = order_ok threads bytes file read_so in
    let header = read.header in
    let is = read.headed in
    let n = header.threads in
    let same : n ≡ threads = is.allowed.same in
    let counts_length : length (counts_in n bytes) ≡ n = length-table 9 quad n (drop 20 bytes) in
    let flags_length : length (map is_set (flags_in n bytes)) ≡ n = length-map (flags_in n bytes) is_set ∙ length-table 9 flag_in n (drop 20 bytes) in
    let picks_length : length (picks_in header bytes) ≡ header.picks = length-table 9 pick_in header.picks (drop (picks_at header) bytes) in
    let picks = picks_fit n header.picks (drop (picks_at header) bytes) (IsBytes-drop (picks_at header) bytes fits) (position_none (is_of_no_thread n) (picks_in header bytes) read.passed.picks) in
    let fit : Fits threads (order_in header bytes) = record {
      few = record { few_threads = few; short_input = omega (arith, is.allowed.input, length-take header.input (drop (input_at header) bytes)); few_picks = omega (arith, picks_length, is.allowed.picks) };
      counts = counts_length ∙ same;
      spent = flags_length ∙ same;
      small = counts_small (counts_in n bytes) (position_none is_large_count (counts_in n bytes) read.passed.counts);
      input = IsBytes-take header.input (drop (input_at header) bytes) (IsBytes-drop (input_at header) bytes fits);
      picks = subst (λ t. AllByRecursion (IsPick t) (picks_in header bytes)) same picks;
    } in
    (subst (λ f. Fits threads f) read.is fit, sym (made_so threads bytes header fits is read.passed) ∙ ap order_bytes read.is)

-- what a call that reads has found
pub is_found : (threads : ℕ) (bytes : List ℕ) (r : Result OrderValue OrderRefusal) → threads ≤ 255 → AreBytes bytes → Gives (λ f. f) r (order_of threads bytes) → IfOk r (λ file. Fits threads file × (bytes ≡ order_bytes file))
is_found threads bytes (Ok file) few fits given = read_is_written threads bytes file few fits given
is_found threads bytes (Err e) few fits given = tt
