-- What is spelled so is read.
use Rattle.std.proofs.Common.{◌≡◌, ℕ, ◌+◌, ◌*◌, ◌^◌, ◌<◌, ◌≤◌, Bool, true, false, not, cond, List, [], ◌∷◌, ◌++◌, length, drop, refl, sym, ap, ◌∙◌, arith, append_assoc, map, None, Ok, nat_lt}
use Rattle.std.specs.Prelude.{position, ◌==◌}
use Rattle.std.specs.List.{flat_map, list_all, list_any}
use Rattle.std.specs.Int.{w32, to_le_bytes}
use Rattle.std.proofs.lemmas.Bool.Decides.{nat_tests}
use Rattle.std.proofs.lemmas.Bool.{le-ltb}
use Rattle.std.proofs.lemmas.List.{length-append, length-map, take_at, drop_at}
use Rattle.std.proofs.lemmas.Nat.{from_le_bytes-to_le_bytes_2}
use Rattle.image_file.specs.Limits.{MAGIC, MOST_SECTIONS, MOST_ENTRIES, is_version, most_threads, most_bytes, start_width}
use Rattle.image_file.specs.declared.rows.Row.{Row}
use Rattle.image_file.specs.declared.header.Counts.{Counts}
use Rattle.image_file.specs.Values.{SectionValue, ImageValue}
use Rattle.image_file.specs.Rows.{is_sound, has_code, first_overlap, total_bytes, stored_bytes}
use Rattle.image_file.specs.Spelling.{start_bytes, row_bytes, row_of, header_bytes, spelling}
use Rattle.image_file.specs.Pages.{pages_of}
use Rattle.image_file.specs.Whole.{IsStart, IsWhole}
use Rattle.image_file.specs.Reading.{half, word, tables_end, counts_in, counts_allowed, counts_of, start_in, row_in, table_in, threads_in, rows_in, entries_in, layout_of, sections_in, image_in, image_of}
use Rattle.image_file.proofs.ListLaws.{none_position, none_fails, each_passes}
use Rattle.image_file.proofs.RowLaws.{sound_row}
use Rattle.image_file.proofs.LengthLaws.{stored_of, whole_length}
use Rattle.image_file.proofs.FieldLaws.{word_again, table_again, length-written}
use Rattle.image_file.proofs.StartLaws.{start_again, start_long}
use Rattle.image_file.proofs.Versions.{few}
use Rattle.image_file.proofs.StepLaws.{done}
use Rattle.image_file.proofs.ReadLaws.{image_is}

above_zero : (n : ℕ) → 1 ≤ n → (n == 0) ≡ false
above_zero n some = grind (arith, nat_tests)

small_version : (version : ℕ) → is_version version ≡ true → version < 2 ^ 16
small_version version is = grind (arith, nat_tests)

-- the numbers of an image's threads, sections and entries
counts_for : ImageValue → Counts
counts_for image = record { version = image.version; threads = length image.threads; sections = length image.sections; entries = length image.entries }

pub allowed : (counts : Counts) → 1 ≤ counts.threads → counts.threads ≤ most_threads counts.version → counts.sections ≤ MOST_SECTIONS → counts.entries ≤ MOST_ENTRIES → counts_allowed counts ≡ Ok tt
unfolding counts_allowed
allowed counts some threads sections entries =
    let some_test : (counts.threads == 0) ≡ false = above_zero _ some in
    let threads_test : nat_lt (most_threads counts.version) counts.threads ≡ false = le-ltb _ _ threads in
    let sections_test : nat_lt 64 counts.sections ≡ false = le-ltb _ _ sections in
    let entries_test : nat_lt 4096 counts.entries ≡ false = le-ltb _ _ entries in
    rw (some_test, threads_test, sections_test, entries_test) refl

pub counts_pass : (bytes : List ℕ) (counts : Counts) → word bytes ≡ MAGIC → is_version counts.version ≡ true → counts_in bytes ≡ counts → counts_allowed counts ≡ Ok tt → tables_end counts ≤ length bytes
    → counts_of bytes ≡ Ok counts
unfolding counts_of
counts_pass bytes counts magic version is passes tables =
    let long : nat_lt (length bytes) 12 ≡ false = le-ltb _ _ (omega (arith, tables)) in
    let magic_test : (word bytes == MAGIC) ≡ true = ap (λ n. n == MAGIC) magic in
    let version_test : is_version (half (drop 4 bytes)) ≡ true = ap (λ (k : Counts). is_version k.version) is ∙ version in
    let passes_too : counts_allowed (counts_in bytes) ≡ Ok tt = ap counts_allowed is ∙ passes in
    let room : nat_lt (length bytes) (tables_end (counts_in bytes)) ≡ false = ap (λ k. nat_lt (length bytes) (tables_end k)) is ∙ le-ltb _ _ tables in
    rw (long, magic_test, version_test, passes_too, room) (ap done is)

pub layout_pass : (version : ℕ) (rows : List Row) (entries : List ℕ) → list_all is_sound rows ≡ true → first_overlap 0 rows ≡ None → total_bytes rows ≤ most_bytes version
    → list_all (λ (e : ℕ). list_any (has_code e) rows) entries ≡ true → layout_of version rows entries ≡ Ok tt
unfolding layout_of
layout_pass version rows entries sound apart small in_code =
    let sound_test : position (λ r. not (is_sound r)) rows ≡ None = none_position (λ r. not (is_sound r)) rows (none_fails is_sound rows sound) in
    let small_test : nat_lt (most_bytes version) (total_bytes rows) ≡ false = le-ltb _ _ small in
    let code_test : position (λ (e : ℕ). not (list_any (has_code e) rows)) entries ≡ None = none_position (λ (e : ℕ). not (list_any (has_code e) rows)) entries (none_fails (λ (e : ℕ). list_any (has_code e) rows) entries in_code) in
    rw (sound_test, apart, small_test, code_test) refl

record RowFits (r : Row) : Type 0 where
  start : r.start < 2 ^ 32
  size : r.size < 2 ^ 32
  stored : r.stored < 2 ^ 32
  flags : r.flags < 2 ^ 32

row_fits : (r : Row) → is_sound r ≡ true → RowFits r
row_fits r sound =
    let is = sound_row r sound in
    record { start = omega (arith, is.end); size = omega (arith, is.end); stored = omega (arith, is.end, is.stored); flags = omega (arith, is.flags) }

row_again : (r : Row) (rest : List ℕ) → is_sound r ≡ true → row_in (row_bytes r ++ rest) ≡ r
row_again r rest sound =
    let fits = row_fits r sound in
    λ i. record {
      start = word_again r.start (to_le_bytes w32 r.size ++ (to_le_bytes w32 r.stored ++ (to_le_bytes w32 r.flags ++ rest))) fits.start i;
      size = word_again r.size (to_le_bytes w32 r.stored ++ (to_le_bytes w32 r.flags ++ rest)) fits.size i;
      stored = word_again r.stored (to_le_bytes w32 r.flags ++ rest) fits.stored i;
      flags = word_again r.flags rest fits.flags i;
    }

flag_back : (writable : Bool) → (cond writable 1 0 == 1) ≡ writable
flag_back true = refl
flag_back false = refl

sections_again : (ss : List SectionValue) → sections_in (map row_of ss) (flat_map stored_of ss) ≡ ss
sections_again [] = refl
sections_again (s ∷ ss) =
    (λ i. record { start = s.start; size = s.size; writable = flag_back s.writable i; stored = take_at s.stored (flat_map stored_of ss) (length s.stored) refl i }
    ∷ sections_in (map row_of ss) (drop_at s.stored (flat_map stored_of ss) (length s.stored) refl i))
    ∙ ap (λ rest. s ∷ rest) (sections_again ss)

-- the five parts in a row
regroup : (a b c d e : List ℕ) → a ++ b ++ c ++ d ++ e ≡ a ++ (b ++ (c ++ (d ++ e)))
regroup a b c d e = simp append_assoc

pub read_again : (image : ImageValue) → IsWhole image → image_of (spelling image) ≡ Ok image
unfolding spelling counts_for
read_again image whole =
    let room = whole.room in
    let laid_out = whole.laid_out in
    let rows : List Row = map row_of image.sections in
    let a : List ℕ = header_bytes image.version (length image.threads) (length image.sections) (length image.entries) in
    let v : ℕ = image.version in
    let width : ℕ = start_width v in
    let b : List ℕ = flat_map (start_bytes v) image.threads in
    let c : List ℕ = flat_map row_bytes rows in
    let d : List ℕ = flat_map (to_le_bytes w32) image.entries in
    let e : List ℕ = flat_map stored_of image.sections in
    let bytes : List ℕ = a ++ (b ++ (c ++ (d ++ e))) in
    let counts : Counts = counts_for image in
    let t : ℕ = length image.threads in
    let n : ℕ = length image.sections in
    let k : ℕ = length image.entries in
    let rows_sound = each_passes is_sound rows laid_out.sound in
    let parts : spelling image ≡ bytes = regroup a b c d e in
    let b_long : length b ≡ width * t = length-written (IsStart v) width (start_bytes v) (start_long v) image.threads room.starts_fit in
    let c_long : length c ≡ 16 * n = length-written (λ r. is_sound r ≡ true) 16 row_bytes (λ x fit. refl) rows rows_sound ∙ ap (λ m. 16 * m) (length-map image.sections row_of) in
    let d_long : length d ≡ 4 * k = length-written (λ (m : ℕ). m < 2 ^ 32) 4 (to_le_bytes w32) (λ x fit. refl) image.entries room.entries_fit in
    let long : length bytes ≡ 12 + width * t + 16 * n + 4 * k + stored_bytes rows = ap length (sym parts) ∙ whole_length image whole in
    let threads_few : t ≤ 255 = few v t room.threads in
    let numbers : counts_in bytes ≡ counts = λ i. record {
      version = from_le_bytes-to_le_bytes_2 v (small_version v room.version) i;
      threads = from_le_bytes-to_le_bytes_2 t (omega (arith, threads_few)) i;
      sections = from_le_bytes-to_le_bytes_2 n (omega (arith, room.sections)) i;
      entries = from_le_bytes-to_le_bytes_2 k (omega (arith, room.entries)) i;
    } in
    let counted : counts_of bytes ≡ Ok counts = counts_pass bytes counts refl room.version numbers (allowed counts room.some_thread room.threads room.sections room.entries) (omega (arith, long)) in
    let ab : bytes ≡ (a ++ b) ++ (c ++ (d ++ e)) = simp append_assoc in
    let abc : bytes ≡ (a ++ b ++ c) ++ (d ++ e) = simp append_assoc in
    let abcd : bytes ≡ (a ++ b ++ c ++ d) ++ e = simp append_assoc in
    let behind_b : drop (12 + width * t) bytes ≡ c ++ (d ++ e) = ap (drop (12 + width * t)) ab ∙ drop_at (a ++ b) (c ++ (d ++ e)) (12 + width * t) (omega (arith, length-append a b, b_long)) in
    let behind_c : drop (12 + width * t + 16 * n) bytes ≡ d ++ e = ap (drop (12 + width * t + 16 * n)) abc ∙ drop_at (a ++ b ++ c) (d ++ e) (12 + width * t + 16 * n) (omega (arith, length-append a b, length-append (a ++ b) c, b_long, c_long)) in
    let behind_d : drop (tables_end counts) bytes ≡ e = ap (drop (tables_end counts)) abcd ∙ drop_at (a ++ b ++ c ++ d) e (tables_end counts) (omega (arith, length-append a b, length-append (a ++ b) c, length-append (a ++ b ++ c) d, b_long, c_long, d_long)) in
    let threads : threads_in counts bytes ≡ image.threads = table_again (IsStart v) width (start_in v) (start_bytes v) (start_again v) (start_long v) image.threads (c ++ (d ++ e)) room.starts_fit in
    let table : rows_in counts bytes ≡ rows =
    (λ i. table_in 16 row_in (sym (length-map image.sections row_of) i) (behind_b i)) ∙ table_again (λ r. is_sound r ≡ true) 16 row_in row_bytes row_again (λ x fit. refl) rows (d ++ e) rows_sound in
    let entries : entries_in counts bytes ≡ image.entries = ap (table_in 4 word k) behind_c ∙ table_again (λ (m : ℕ). m < 2 ^ 32) 4 word (to_le_bytes w32) word_again (λ x fit. refl) image.entries e room.entries_fit in
    let sections : sections_in (rows_in counts bytes) (drop (tables_end counts) bytes) ≡ image.sections = (λ i. sections_in (table i) (behind_d i)) ∙ sections_again image.sections in
    let laid : layout_of v (rows_in counts bytes) (entries_in counts bytes) ≡ Ok tt =
    (λ i. layout_of v (table i) (entries i)) ∙ layout_pass v rows image.entries laid_out.sound laid_out.apart laid_out.small laid_out.entries_in_code in
    let ended : length bytes ≡ tables_end counts + stored_bytes (rows_in counts bytes) = long ∙ ap (λ rs. tables_end counts + stored_bytes rs) (sym table) in
    let same : image_in counts bytes ≡ image = λ i. record { version = v; threads = threads i; sections = sections i; entries = entries i; pages = (ap pages_of sections ∙ sym laid_out.pages) i } in
    ap image_of parts ∙ image_is bytes counts tt counted laid ended ∙ ap done same
