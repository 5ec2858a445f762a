-- The length of an image's file, by its tables.
use Rattle.std.proofs.Common.{◌≡◌, ℕ, zero, suc, ◌+◌, ◌*◌, ◌^◌, ◌<◌, ◌≤◌, Bool, true, false, cond, List, [], ◌∷◌, ◌++◌, length, drop, refl, sym, ap, ◌∙◌, arith, map, replicate, Ok}
use Rattle.std.specs.Prelude.{◌==◌}
use Rattle.std.specs.List.{flat_map, AllByRecursion}
use Rattle.std.specs.Int.{w32, to_le_bytes}
use Rattle.std.proofs.lemmas.List.{length-append, length-drop, length-map}
use Rattle.image_file.specs.declared.image.Start.{Start}
use Rattle.image_file.specs.declared.rows.Row.{Row}
use Rattle.image_file.specs.Limits.{most_bytes, start_width}
use Rattle.image_file.specs.Values.{SectionValue, ImageValue}
use Rattle.image_file.specs.Rows.{is_sound, page_bytes, total_bytes, stored_bytes}
use Rattle.image_file.specs.Spelling.{first_bytes, start_bytes, row_bytes, row_of, header_bytes, spelling}
use Rattle.image_file.specs.Whole.{IsStart, IsWhole}
use Rattle.image_file.specs.Reading.{word, table_in, first_in, start_in, row_in, tables_end, rows_at, rows_in, image_in, image_of}
use Rattle.image_file.proofs.ListLaws.{each_passes}
use Rattle.image_file.proofs.RowLaws.{sound_row}
use Rattle.image_file.proofs.FieldLaws.{length-table, length-written}
use Rattle.image_file.proofs.StartLaws.{start_long}
use Rattle.image_file.proofs.ReadLaws.{image_ok, rows_again}

-- ---- the spelling of an image

any : {X : Type 0} (xs : List X) → AllByRecursion (λ x. Unit {0}) xs
any [] = tt
any (x ∷ xs) = (tt, any xs)

abbrev pub stored_of : SectionValue → List ℕ
stored_of s = s.stored

stored_length : (ss : List SectionValue) → length (flat_map stored_of ss) ≡ stored_bytes (map row_of ss)
stored_length [] = refl
stored_length (s ∷ ss) = omega (arith, length-append s.stored (flat_map stored_of ss), stored_length ss)

abbrev IsWide : ℕ → Start → Type 0
IsWide version t = length (start_bytes version t) ≡ start_width version

abbrev pub table_sum : ImageValue → ℕ
table_sum image = 12 + start_width image.version * length image.threads + 16 * length image.sections + 4 * length image.entries + stored_bytes (map row_of image.sections)

spelled_length : (image : ImageValue) → AllByRecursion (IsWide image.version) image.threads → length (spelling image) ≡ table_sum image
unfolding spelling
spelled_length image starts =
    let rows : List Row = map row_of image.sections in
    let a : List ℕ = header_bytes image.version (length image.threads) (length image.sections) (length image.entries) in
    let b : List ℕ = flat_map (start_bytes image.version) image.threads in
    let c : List ℕ = flat_map row_bytes rows in
    let d : List ℕ = flat_map (to_le_bytes w32) image.entries in
    let e : List ℕ = flat_map stored_of image.sections in
    let b_long : length b ≡ start_width image.version * length image.threads = length-written (IsWide image.version) (start_width image.version) (start_bytes image.version) (λ t wide. wide) image.threads starts in
    let c_long : length c ≡ 16 * length image.sections = length-written (λ r. Unit {0}) 16 row_bytes (λ r u. refl) rows (any rows) ∙ ap (λ n. 16 * n) (length-map image.sections row_of) in
    let d_long : length d ≡ 4 * length image.entries = length-written (λ n. Unit {0}) 4 (to_le_bytes w32) (λ n u. refl) image.entries (any image.entries) in
    let e_long : length e ≡ stored_bytes rows = stored_length image.sections in
    let ab : length (a ++ b) ≡ 12 + length b = length-append a b in
    let abc = length-append (a ++ b) c in
    let abcd = length-append (a ++ b ++ c) d in
    let all = length-append (a ++ b ++ c ++ d) e in
    omega (arith, ab, abc, abcd, all, b_long, c_long, d_long, e_long)

-- ---- of a whole image

whole_starts : (version : ℕ) (ts : List Start) → AllByRecursion (IsStart version) ts → AllByRecursion (IsWide version) ts
whole_starts version [] all = tt
whole_starts version (t ∷ ts) all = (start_long version t all.0, whole_starts version ts all.1)

pub whole_length : (image : ImageValue) → IsWhole image → length (spelling image) ≡ table_sum image
whole_length image whole = spelled_length image (whole_starts image.version image.threads whole.room.starts_fit)

stored_within : (r : Row) → is_sound r ≡ true → r.stored ≤ page_bytes r.size
stored_within r sound = let is = sound_row r sound in omega (arith, is.stored)

stored_small : (rows : List Row) → AllByRecursion (λ r. is_sound r ≡ true) rows → stored_bytes rows ≤ total_bytes rows
stored_small [] all = omega arith
stored_small (r ∷ rs) all = omega (arith, stored_within r all.0, stored_small rs all.1)

small : (version n : ℕ) → n ≤ most_bytes version → n ≤ 4194304
small version n = elim (version == 1) as (λ b. n ≤ cond b 1048576 4194304 → n ≤ 4194304) [ true ↦ λ le. omega arith | false ↦ λ le. omega arith ]

pub whole_stored : (image : ImageValue) → IsWhole image → stored_bytes (map row_of image.sections) ≤ 4194304
whole_stored image whole =
    let rows : List Row = map row_of image.sections in
    let within = stored_small rows (each_passes is_sound rows whole.laid_out.sound) in
    let most = small image.version (total_bytes rows) whole.laid_out.small in
    omega (arith, within, most)

few_by : (b : Bool) (w t : ℕ) → w ≡ cond b 8 64 → t ≤ cond b 16 32 → w * t ≤ 2048
few_by true w t is few = let same = ap (λ n. n * t) is in omega (arith, same)
few_by false w t is few = let same = ap (λ n. n * t) is in omega (arith, same)

pub whole_small : (image : ImageValue) → IsWhole image → table_sum image < 2 ^ 31
whole_small image whole =
    let threads : start_width image.version * length image.threads ≤ 2048 = few_by (image.version == 1) (start_width image.version) (length image.threads) refl whole.room.threads in
    omega (arith, threads, whole.room.sections, whole.room.entries, whole_stored image whole)

-- ---- of an image that was read

read_wide : (version : ℕ) (bytes : List ℕ) → IsWide version (start_in version bytes)
unfolding first_in
read_wide version bytes =
    let by : 8 + length (first_bytes version (first_in version (drop 8 bytes))) ≡ start_width version =
    elim (version == 1) as (λ b. 8 + length (cond b [] (flat_map (to_le_bytes w32) (cond b (replicate 14 0) (table_in 4 word 14 (drop 8 bytes))))) ≡ cond b 8 64) [ true ↦ refl | false ↦ refl ] in
    omega (arith, by)

read_starts : (version count : ℕ) (bytes : List ℕ) → AllByRecursion (IsWide version) (table_in (start_width version) (start_in version) count bytes)
read_starts version zero bytes = tt
read_starts version (suc count) bytes = (read_wide version bytes, read_starts version count (drop (start_width version) bytes))

pub read_length : (bytes : List ℕ) (image : ImageValue) → image_of bytes ≡ Ok image → length (spelling image) ≡ length bytes
read_length bytes image read_so =
    let read = image_ok bytes image read_so in
    let counts = read.counts in
    let made : ImageValue = image_in counts bytes in
    let rows = rows_again (rows_in counts bytes) (drop (tables_end counts) bytes) read.layout.sound (omega (arith, read.ended, length-drop (tables_end counts) bytes)) in
    let threads = length-table (start_width counts.version) (start_in counts.version) counts.threads (drop 12 bytes) in
    let sections : length made.sections ≡ counts.sections = sym (length-map made.sections row_of) ∙ ap length rows ∙ length-table 16 row_in counts.sections (drop (rows_at counts) bytes) in
    let entries = length-table 4 word counts.entries (drop (rows_at counts + 16 * counts.sections) bytes) in
    let stored = ap stored_bytes rows in
    let sum : length (spelling made) ≡ table_sum made = spelled_length made (read_starts counts.version counts.threads (drop 12 bytes)) in
    let tables : table_sum made ≡ tables_end counts + stored_bytes (rows_in counts bytes) = λ i. 12 + start_width counts.version * threads i + 16 * sections i + 4 * entries i + stored i in
    ap (λ (made : ImageValue). length (spelling made)) (sym read.is) ∙ sum ∙ tables ∙ sym read.ended
