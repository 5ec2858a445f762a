-- What is read is spelled so, and is a whole image.
use Rattle.std.proofs.Common.{◌≡◌, ℕ, suc, ◌+◌, ◌*◌, ◌^◌, ◌<◌, ◌≤◌, List, [], ◌∷◌, ◌++◌, length, take, drop, refl, sym, ap, subst, ◌∙◌, arith, map}
use Rattle.std.specs.Prelude.{codes}
use Rattle.std.specs.List.{flat_map, list_all, list_any}
use Rattle.std.specs.Int.{w16, w32, to_le_bytes}
use Rattle.std.proofs.lemmas.List.{length-drop, take_all}
use Rattle.image_file.specs.Limits.{HEADER, ROW_BYTES, ENTRY_BYTES, most_bytes, start_width}
use Rattle.image_file.specs.declared.rows.Row.{Row}
use Rattle.image_file.specs.declared.header.Counts.{Counts}
use Rattle.image_file.specs.Values.{SectionValue, ImageValue}
use Rattle.image_file.specs.Rows.{is_sound, has_code, first_overlap, total_bytes, stored_bytes}
use Rattle.image_file.specs.Spelling.{start_bytes, row_bytes, row_of, header_bytes, spelling}
use Rattle.image_file.specs.Whole.{IsStart, HasRoom, IsLaidOut, IsWhole}
use Rattle.image_file.specs.Reading.{word, rows_at, tables_end, start_in, row_in, rows_in, sections_in, image_in}
use Rattle.image_file.proofs.FieldLaws.{IsBytes, IsBytes-drop, take_join, half_back, word_back, word_fits, length-table, table_back, table_all, row_back}
use Rattle.image_file.proofs.StartLaws.{start_back, is_start}
use Rattle.image_file.proofs.ReadLaws.{IsRead, IsHeader, counts_ok, rows_again}

header_back : (bytes : List ℕ) (counts : Counts) → IsBytes bytes → IsHeader bytes counts → header_bytes counts.version counts.threads counts.sections counts.entries ≡ take 12 bytes
header_back bytes counts fits header =
    let long : 12 ≤ length bytes = omega (arith, header.tables) in
    let magic : codes "VXIM" ≡ take 4 bytes = ap (to_le_bytes w32) (sym header.magic) ∙ word_back bytes (omega arith) fits in
    let version : to_le_bytes w16 counts.version ≡ take 2 (drop 4 bytes) = ap (λ (k : Counts). to_le_bytes w16 k.version) (sym header.is) ∙ half_back (drop 4 bytes) (omega (arith, length-drop 4 bytes)) (IsBytes-drop 4 bytes fits) in
    let threads : to_le_bytes w16 counts.threads ≡ take 2 (drop 6 bytes) = ap (λ (k : Counts). to_le_bytes w16 k.threads) (sym header.is) ∙ half_back (drop 6 bytes) (omega (arith, length-drop 6 bytes)) (IsBytes-drop 6 bytes fits) in
    let sections : to_le_bytes w16 counts.sections ≡ take 2 (drop 8 bytes) = ap (λ (k : Counts). to_le_bytes w16 k.sections) (sym header.is) ∙ half_back (drop 8 bytes) (omega (arith, length-drop 8 bytes)) (IsBytes-drop 8 bytes fits) in
    let entries : to_le_bytes w16 counts.entries ≡ take 2 (drop 10 bytes) = ap (λ (k : Counts). to_le_bytes w16 k.entries) (sym header.is) ∙ half_back (drop 10 bytes) (omega (arith, length-drop 10 bytes)) (IsBytes-drop 10 bytes fits) in
    (λ i. magic i ++ version i ++ threads i ++ sections i ++ entries i)
    ∙ (λ i. take_join 4 2 bytes i ++ take 2 (drop 6 bytes) ++ take 2 (drop 8 bytes) ++ take 2 (drop 10 bytes))
    ∙ (λ i. take_join 6 2 bytes i ++ take 2 (drop 8 bytes) ++ take 2 (drop 10 bytes))
    ∙ (λ i. take_join 8 2 bytes i ++ take 2 (drop 10 bytes))
    ∙ take_join 10 2 bytes

stored_back : (rows : List Row) (bytes : List ℕ) → flat_map (λ (s : SectionValue). s.stored) (sections_in rows bytes) ≡ take (stored_bytes rows) bytes
stored_back [] bytes = refl
stored_back (r ∷ rs) bytes = ap (λ rest. take r.stored bytes ++ rest) (stored_back rs (drop r.stored bytes)) ∙ take_join r.stored (stored_bytes rs) bytes

length-sections : (rows : List Row) (bytes : List ℕ) → length (sections_in rows bytes) ≡ length rows
length-sections [] bytes = refl
length-sections (r ∷ rs) bytes = ap suc (length-sections rs (drop r.stored bytes))

five_parts : (a b c d e : ℕ) (bytes : List ℕ) → take a bytes ++ take b (drop a bytes) ++ take c (drop (a + b) bytes) ++ take d (drop (a + b + c) bytes) ++ take e (drop (a + b + c + d) bytes) ≡ take (a + b + c + d + e) bytes
five_parts a b c d e bytes =
    (λ i. take_join a b bytes i ++ take c (drop (a + b) bytes) ++ take d (drop (a + b + c) bytes) ++ take e (drop (a + b + c + d) bytes))
    ∙ (λ i. take_join (a + b) c bytes i ++ take d (drop (a + b + c) bytes) ++ take e (drop (a + b + c + d) bytes))
    ∙ (λ i. take_join (a + b + c) d bytes i ++ take e (drop (a + b + c + d) bytes))
    ∙ take_join (a + b + c + d) e bytes

-- the numbers of the tables' items
record HasCounts (counts : Counts) (image : ImageValue) : Type 0 where
  threads : length image.threads ≡ counts.threads
  sections : length image.sections ≡ counts.sections
  entries : length image.entries ≡ counts.entries

counts_are : (bytes : List ℕ) (counts : Counts) → HasCounts counts (image_in counts bytes)
counts_are bytes counts = record {
  threads = length-table (start_width counts.version) (start_in counts.version) counts.threads (drop HEADER bytes);
  sections = length-sections (rows_in counts bytes) (drop (tables_end counts) bytes) ∙ length-table ROW_BYTES row_in counts.sections (drop (rows_at counts) bytes);
  entries = length-table ENTRY_BYTES word counts.entries (drop (rows_at counts + ROW_BYTES * counts.sections) bytes);
}

-- the sections' rows are those of the table
rows_are : (bytes : List ℕ) (image : ImageValue) (read : IsRead bytes image) → map row_of (image_in read.counts bytes).sections ≡ rows_in read.counts bytes
rows_are bytes image read = rows_again (rows_in read.counts bytes) (drop (tables_end read.counts) bytes) read.layout.sound (omega (arith, read.ended, length-drop (tables_end read.counts) bytes))

pub spelled_so : (bytes : List ℕ) (image : ImageValue) → IsBytes bytes → IsRead bytes image → bytes ≡ spelling image
unfolding spelling
spelled_so bytes image fits read =
    let counts : Counts = read.counts in
    let header = counts_ok bytes counts read.counted in
    let has = counts_are bytes counts in
    let made : ImageValue = image_in counts bytes in
    let width : ℕ = start_width counts.version in
    let t : ℕ = rows_at counts in
    let s : ℕ = t + ROW_BYTES * counts.sections in
    let front : header_bytes counts.version (length made.threads) (length made.sections) (length made.entries) ≡ take 12 bytes = (λ i. header_bytes counts.version (has.threads i) (has.sections i) (has.entries i)) ∙ header_back bytes counts fits header in
    let threads : flat_map (start_bytes counts.version) made.threads ≡ take (width * counts.threads) (drop 12 bytes) = table_back width (start_in counts.version) (start_bytes counts.version) (start_back counts.version) counts.threads (drop 12 bytes) (omega (arith, header.tables, length-drop 12 bytes)) (IsBytes-drop 12 bytes fits) in
    let rows : flat_map row_bytes (map row_of made.sections) ≡ take (16 * counts.sections) (drop t bytes) =
    ap (λ rs. flat_map row_bytes rs) (rows_are bytes image read) ∙ table_back 16 row_in row_bytes row_back counts.sections (drop t bytes) (omega (arith, header.tables, length-drop t bytes)) (IsBytes-drop t bytes fits) in
    let entries : flat_map (to_le_bytes w32) made.entries ≡ take (4 * counts.entries) (drop s bytes) = table_back 4 word (to_le_bytes w32) word_back counts.entries (drop s bytes) (omega (arith, header.tables, length-drop s bytes)) (IsBytes-drop s bytes fits) in
    let stored = stored_back (rows_in counts bytes) (drop (tables_end counts) bytes) in
    let whole : take (tables_end counts + stored_bytes (rows_in counts bytes)) bytes ≡ bytes = take_all (tables_end counts + stored_bytes (rows_in counts bytes)) bytes (omega (arith, read.ended)) in
    let parts : spelling made ≡ bytes = (λ i. front i ++ threads i ++ rows i ++ entries i ++ stored i) ∙ five_parts 12 (width * counts.threads) (16 * counts.sections) (4 * counts.entries) (stored_bytes (rows_in counts bytes)) bytes ∙ whole in
    sym parts ∙ ap spelling read.is

pub whole_image : (bytes : List ℕ) (image : ImageValue) → IsBytes bytes → IsRead bytes image → IsWhole image
whole_image bytes image fits read =
    let counts : Counts = read.counts in
    let header = counts_ok bytes counts read.counted in
    let has = counts_are bytes counts in
    let made : ImageValue = image_in counts bytes in
    let rows = rows_are bytes image read in
    let width : ℕ = start_width counts.version in
    let t : ℕ = rows_at counts in
    let s : ℕ = t + ROW_BYTES * counts.sections in
    let room : HasRoom made = record {
      version = header.version;
      some_thread = omega (arith, has.threads, header.some);
      threads = omega (arith, has.threads, header.threads);
      sections = omega (arith, has.sections, header.sections);
      entries = omega (arith, has.entries, header.entries);
      starts_fit = table_all (IsStart counts.version) (start_width counts.version) (start_in counts.version) (is_start counts.version) counts.threads (drop 12 bytes) (IsBytes-drop 12 bytes fits);
      entries_fit = table_all (λ e. e < 2 ^ 32) 4 word word_fits counts.entries (drop s bytes) (IsBytes-drop s bytes fits);
    } in
    let laid_out : IsLaidOut made = record {
      sound = ap (λ rs. list_all is_sound rs) rows ∙ read.layout.sound;
      apart = ap (λ rs. first_overlap 0 rs) rows ∙ read.layout.apart;
      small = subst (λ rs. total_bytes rs ≤ most_bytes counts.version) (sym rows) read.layout.small;
      entries_in_code = ap (λ rs. list_all (λ (e : ℕ). list_any (has_code e) rs) made.entries) rows ∙ read.layout.in_code;
      pages = refl;
    } in
    subst IsWhole read.is (record { room = room; laid_out = laid_out })
