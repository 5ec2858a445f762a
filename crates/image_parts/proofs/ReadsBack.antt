-- What is spelled reads back as itself, where reading it gives an image at all.
use Rattle.std.proofs.Common.{◌≡◌, ℕ, ◌+◌, ◌*◌, ◌^◌, ◌<◌, Bool, true, false, cond, List, [], ◌∷◌, ◌++◌, length, drop, refl, sym, ap, ◌∙◌, arith, append_assoc, map, Ok}
use Rattle.std.specs.Prelude.{◌==◌}
use Rattle.std.specs.List.{flat_map}
use Rattle.std.specs.Int.{w32, to_le_bytes}
use Rattle.std.proofs.lemmas.List.{length-append, length-map, take_at, drop_at}
use Rattle.std.proofs.lemmas.Nat.{from_le_bytes-to_le_bytes_2}
use Rattle.image_file.specs.Limits.{start_width}
use Rattle.image_file.specs.declared.rows.Row.{Row}
use Rattle.image_file.specs.declared.header.Counts.{Counts}
use Rattle.image_file.specs.Values.{SectionValue, ImageValue}
use Rattle.image_file.specs.Spelling.{start_bytes, row_bytes, row_of, header_bytes, spelling}
use Rattle.image_file.specs.Pages.{pages_of}
use Rattle.image_file.specs.Whole.{IsStart}
use Rattle.image_file.specs.Reading.{word, tables_end, counts_in, start_in, row_in, table_in, threads_in, rows_in, entries_in, sections_in, image_in, image_of}
use Rattle.image_parts.specs.Parts.{RowFits, Fits}
use Rattle.image_file.proofs.LengthLaws.{stored_of}
use Rattle.image_file.proofs.FieldLaws.{word_again, table_again, length-written}
use Rattle.image_file.proofs.StartLaws.{start_again, start_long}
use Rattle.image_file.proofs.ReadLaws.{image_ok, counts_ok}

row_again : (r : Row) (rest : List ℕ) → RowFits r → row_in (row_bytes r ++ rest) ≡ r
row_again r rest fits =
    λ i. record {
      start = word_again r.start (to_le_bytes w32 r.size ++ (to_le_bytes w32 r.stored ++ (to_le_bytes w32 r.flags ++ rest))) fits.start i;
      size = word_again r.size (to_le_bytes w32 r.stored ++ (to_le_bytes w32 r.flags ++ rest)) fits.size i;
      stored = word_again r.stored (to_le_bytes w32 r.flags ++ rest) fits.stored i;
      flags = word_again r.flags rest fits.flags i;
    }

flag_back : (writable : Bool) → (cond writable 1 0 == 1) ≡ writable
flag_back true = refl
flag_back false = refl

sections_again : (ss : List SectionValue) → sections_in (map row_of ss) (flat_map stored_of ss) ≡ ss
sections_again [] = refl
sections_again (s ∷ ss) =
    (λ i. record { start = s.start; size = s.size; writable = flag_back s.writable i; stored = take_at s.stored (flat_map stored_of ss) (length s.stored) refl i }
    ∷ sections_in (map row_of ss) (drop_at s.stored (flat_map stored_of ss) (length s.stored) refl i))
    ∙ ap (λ rest. s ∷ rest) (sections_again ss)

-- the numbers of an image's threads, sections and entries
abbrev counts_for : ImageValue → Counts
counts_for image = record { version = image.version; threads = length image.threads; sections = length image.sections; entries = length image.entries }

-- the five parts in a row
regroup : (a b c d e : List ℕ) → a ++ b ++ c ++ d ++ e ≡ a ++ (b ++ (c ++ (d ++ e)))
regroup a b c d e = simp append_assoc

pub reads_back : (image found : ImageValue) → Fits image → image_of (spelling image) ≡ Ok found → found ≡ image
unfolding spelling
reads_back image found fits reads =
    let rows : List Row = map row_of image.sections in
    let a : List ℕ = header_bytes image.version (length image.threads) (length image.sections) (length image.entries) in
    let v : ℕ = image.version in
    let width : ℕ = start_width v in
    let b : List ℕ = flat_map (start_bytes v) image.threads in
    let c : List ℕ = flat_map row_bytes rows in
    let d : List ℕ = flat_map (to_le_bytes w32) image.entries in
    let e : List ℕ = flat_map stored_of image.sections in
    let bytes : List ℕ = a ++ (b ++ (c ++ (d ++ e))) in
    let counts : Counts = counts_for image in
    let t : ℕ = length image.threads in
    let n : ℕ = length image.sections in
    let k : ℕ = length image.entries in
    let parts : spelling image ≡ bytes = regroup a b c d e in
    let b_long : length b ≡ width * t = length-written (IsStart v) width (start_bytes v) (start_long v) image.threads fits.starts_fit in
    let c_long : length c ≡ 16 * n = length-written RowFits 16 row_bytes (λ x fit. refl) rows fits.rows_fit ∙ ap (λ m. 16 * m) (length-map image.sections row_of) in
    let d_long : length d ≡ 4 * k = length-written (λ (m : ℕ). m < 2 ^ 32) 4 (to_le_bytes w32) (λ x fit. refl) image.entries fits.entries_fit in
    let numbers : counts_in bytes ≡ counts = λ i. record {
      version = from_le_bytes-to_le_bytes_2 v fits.version i;
      threads = from_le_bytes-to_le_bytes_2 t fits.threads i;
      sections = from_le_bytes-to_le_bytes_2 n fits.sections i;
      entries = from_le_bytes-to_le_bytes_2 k fits.entries i;
    } in
    let ab : bytes ≡ (a ++ b) ++ (c ++ (d ++ e)) = simp append_assoc in
    let abc : bytes ≡ (a ++ b ++ c) ++ (d ++ e) = simp append_assoc in
    let abcd : bytes ≡ (a ++ b ++ c ++ d) ++ e = simp append_assoc in
    let behind_b : drop (12 + width * t) bytes ≡ c ++ (d ++ e) = ap (drop (12 + width * t)) ab ∙ drop_at (a ++ b) (c ++ (d ++ e)) (12 + width * t) (omega (arith, length-append a b, b_long)) in
    let behind_c : drop (12 + width * t + 16 * n) bytes ≡ d ++ e = ap (drop (12 + width * t + 16 * n)) abc ∙ drop_at (a ++ b ++ c) (d ++ e) (12 + width * t + 16 * n) (omega (arith, length-append a b, length-append (a ++ b) c, b_long, c_long)) in
    let behind_d : drop (tables_end counts) bytes ≡ e = ap (drop (tables_end counts)) abcd ∙ drop_at (a ++ b ++ c ++ d) e (tables_end counts) (omega (arith, length-append a b, length-append (a ++ b) c, length-append (a ++ b ++ c) d, b_long, c_long, d_long)) in
    let threads : threads_in counts bytes ≡ image.threads = table_again (IsStart v) width (start_in v) (start_bytes v) (start_again v) (start_long v) image.threads (c ++ (d ++ e)) fits.starts_fit in
    let table : rows_in counts bytes ≡ rows =
    (λ i. table_in 16 row_in (sym (length-map image.sections row_of) i) (behind_b i)) ∙ table_again RowFits 16 row_in row_bytes row_again (λ x fit. refl) rows (d ++ e) fits.rows_fit in
    let entries : entries_in counts bytes ≡ image.entries = ap (table_in 4 word k) behind_c ∙ table_again (λ (m : ℕ). m < 2 ^ 32) 4 word (to_le_bytes w32) word_again (λ x fit. refl) image.entries e fits.entries_fit in
    let sections : sections_in (rows_in counts bytes) (drop (tables_end counts) bytes) ≡ image.sections = (λ i. sections_in (table i) (behind_d i)) ∙ sections_again image.sections in
    let same : image_in counts bytes ≡ image = λ i. record { version = v; threads = threads i; sections = sections i; entries = entries i; pages = (ap pages_of sections ∙ sym fits.pages) i } in
    let read = image_ok bytes found (ap image_of (sym parts) ∙ reads) in
    let counted : read.counts ≡ counts = sym (counts_ok bytes read.counts read.counted).is ∙ numbers in
    sym read.is ∙ ap (λ k. image_in k bytes) counted ∙ same
