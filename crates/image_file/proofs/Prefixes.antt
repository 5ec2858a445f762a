-- A file that is cut: what its tables say up to the cut, and the refusal.
use Rattle.std.proofs.Common.{◌≡◌, ℕ, zero, suc, ◌+◌, ◌-◌, ◌*◌, ◌<◌, ◌≤◌, true, false, List, ◌∷◌, length, take, drop, refl, ap, ◌∙◌, arith, inl, inr, Result, Ok, Err, nat_lt}
use Rattle.std.specs.Prelude.{◌==◌}
use Rattle.std.specs.Int.{w16, w32, from_le_bytes}
use Rattle.std.proofs.lemmas.Bool.{cases_lt, lt-ltb, le-ltb}
use Rattle.std.proofs.lemmas.List.{length-take, take-take, drop-take}
use Rattle.image_file.specs.declared.header.Counts.{Counts}
use Rattle.image_file.specs.declared.refusal.ImageRefusal.{ImageRefusal}
use Rattle.image_file.specs.declared.refusal.ImageRefusal.TheVariants.{Truncated}
use Rattle.image_file.specs.Limits.{MAGIC, HEADER, is_version}
use Rattle.image_file.specs.Values.{ImageValue}
use Rattle.image_file.specs.Rows.{stored_bytes}
use Rattle.image_file.specs.Reading.{half, word, rows_at, tables_end, counts_in, counts_allowed, counts_of, table_in, row_in, rows_in, entries_in, layout_of, image_of}
use Rattle.image_file.specs.Prefixes.{PrefixesAreRefused}
use Rattle.image_file.proofs.ReadLaws.{IsRead, IsHeader, image_ok, counts_ok}
use Rattle.image_file.proofs.AgainLaws.{allowed, counts_pass, layout_pass}

-- ---- what stands in front of the cut

pub cut : (at kept : ℕ) (bytes : List ℕ) → at ≤ kept → drop at (take kept bytes) ≡ take (kept - at) (drop at bytes)
cut at kept bytes before = let whole : kept ≡ at + (kept - at) = omega arith in ap (λ n. drop at (take n bytes)) whole ∙ drop-take at (kept - at) bytes

-- what reads no further than its first bytes
abbrev pub IsFront : {X : Type 0} → ℕ → (List ℕ → X) → Type 0
IsFront width read = (kept : ℕ) (bytes : List ℕ) → width ≤ kept → read (take kept bytes) ≡ read bytes

half_front : IsFront 2 half
half_front kept bytes wide = ap (from_le_bytes w16) (take-take 2 kept bytes wide)

pub word_front : IsFront 4 word
word_front kept bytes wide = ap (from_le_bytes w32) (take-take 4 kept bytes wide)

pub front_at : {X : Type 0} (width : ℕ) (read : List ℕ → X) → IsFront width read → (at kept : ℕ) (bytes : List ℕ) → at + width ≤ kept → read (drop at (take kept bytes)) ≡ read (drop at bytes)
front_at width read front at kept bytes wide = ap read (cut at kept bytes (omega arith)) ∙ front (kept - at) (drop at bytes) (omega arith)

row_front : IsFront 16 row_in
row_front kept bytes wide = λ i. record {
  start = word_front kept bytes (omega arith) i;
  size = front_at 4 word word_front 4 kept bytes (omega arith) i;
  stored = front_at 4 word word_front 8 kept bytes (omega arith) i;
  flags = front_at 4 word word_front 12 kept bytes (omega arith) i;
}

pub table_front : {X : Type 0} (width : ℕ) (read : List ℕ → X) → IsFront width read → (count kept : ℕ) (bytes : List ℕ) → width * count ≤ kept → table_in width read count (take kept bytes) ≡ table_in width read count bytes
table_front width read front zero kept bytes wide = refl
table_front width read front (suc count) kept bytes wide =
    let more : width * suc count ≡ width + width * count = omega arith in
    let rest : table_in width read count (drop width (take kept bytes)) ≡ table_in width read count (drop width bytes) =
    ap (table_in width read count) (cut width kept bytes (omega (arith, more))) ∙ table_front width read front count (kept - width) (drop width bytes) (omega (arith, more)) in
    λ i. front kept bytes (omega (arith, more)) i ∷ rest i

pub table_at : {X : Type 0} (width : ℕ) (read : List ℕ → X) → IsFront width read → (at count kept : ℕ) (bytes : List ℕ) → at + width * count ≤ kept → table_in width read count (drop at (take kept bytes)) ≡ table_in width read count (drop at bytes)
table_at width read front at count kept bytes wide = ap (table_in width read count) (cut at kept bytes (omega arith)) ∙ table_front width read front count (kept - at) (drop at bytes) (omega arith)

-- ---- the refusal

abbrev refused : {X : Type 0} → ℕ → Result X ImageRefusal
refused kept = Err (Truncated kept)

pub cut_length : (kept : ℕ) (bytes : List ℕ) → kept < length bytes → length (take kept bytes) ≡ kept
cut_length kept bytes short = omega (arith, length-take kept bytes)

-- cut in the header
header_cut : (bytes : List ℕ) → length bytes < HEADER → image_of bytes ≡ refused (length bytes)
unfolding image_of counts_of
header_cut bytes short = let long : nat_lt (length bytes) HEADER ≡ true = lt-ltb _ _ short in rw long refl

-- cut in the tables
tables_cut : (bytes : List ℕ) (counts : Counts) → HEADER ≤ length bytes → word bytes ≡ MAGIC → is_version counts.version ≡ true → counts_in bytes ≡ counts → counts_allowed counts ≡ Ok tt → length bytes < tables_end counts
    → image_of bytes ≡ refused (length bytes)
unfolding image_of counts_of
tables_cut bytes counts header magic version is passes short =
    let long : nat_lt (length bytes) 12 ≡ false = le-ltb _ _ header in
    let magic_test : (word bytes == MAGIC) ≡ true = ap (λ n. n == MAGIC) magic in
    let version_test : is_version (half (drop 4 bytes)) ≡ true = ap (λ (k : Counts). is_version k.version) is ∙ version in
    let passes_too : counts_allowed (counts_in bytes) ≡ Ok tt = ap counts_allowed is ∙ passes in
    let room : nat_lt (length bytes) (tables_end (counts_in bytes)) ≡ true = ap (λ k. nat_lt (length bytes) (tables_end k)) is ∙ lt-ltb _ _ short in
    rw (long, magic_test, version_test, passes_too, room) refl

-- cut in the stored bytes
stored_cut : (bytes : List ℕ) (counts : Counts) → counts_of bytes ≡ Ok counts → layout_of counts.version (rows_in counts bytes) (entries_in counts bytes) ≡ Ok tt → length bytes < tables_end counts + stored_bytes (rows_in counts bytes)
    → image_of bytes ≡ refused (length bytes)
unfolding image_of
stored_cut bytes counts counted laid_out short =
    let room : nat_lt (length bytes) (tables_end counts + stored_bytes (rows_in counts bytes)) ≡ true = lt-ltb _ _ short in
    rw (counted, laid_out, room) refl

-- what the header of the cut file says
record IsCut (bytes : List ℕ) (counts : Counts) : Type 0 where
  magic : word bytes ≡ MAGIC
  is : counts_in bytes ≡ counts

header_kept : (bytes : List ℕ) (counts : Counts) (kept : ℕ) → IsHeader bytes counts → 12 ≤ kept → IsCut (take kept bytes) counts
header_kept bytes counts kept header long = record {
  magic = word_front kept bytes (omega arith) ∙ header.magic;
  is = (λ i. record {
    version = front_at 2 half half_front 4 kept bytes (omega arith) i;
    threads = front_at 2 half half_front 6 kept bytes (omega arith) i;
    sections = front_at 2 half half_front 8 kept bytes (omega arith) i;
    entries = front_at 2 half half_front 10 kept bytes (omega arith) i;
  }) ∙ header.is;
}

tables_kept : (bytes : List ℕ) (image : ImageValue) (kept : ℕ) (read : IsRead bytes image) → kept < length bytes → tables_end read.counts ≤ kept → image_of (take kept bytes) ≡ refused (length (take kept bytes))
tables_kept bytes image kept read short long =
    let counts = read.counts in
    let header = counts_ok bytes counts read.counted in
    let is = header_kept bytes counts kept header (omega arith) in
    let length_is = cut_length kept bytes short in
    let counted : counts_of (take kept bytes) ≡ Ok counts =
    counts_pass (take kept bytes) counts is.magic header.version is.is (allowed counts header.some header.threads header.sections header.entries) (omega (arith, length_is)) in
    let rows : rows_in counts (take kept bytes) ≡ rows_in counts bytes = table_at 16 row_in row_front (rows_at counts) counts.sections kept bytes (omega arith) in
    let entries : entries_in counts (take kept bytes) ≡ entries_in counts bytes = table_at 4 word word_front (rows_at counts + 16 * counts.sections) counts.entries kept bytes (omega arith) in
    let laid_out : layout_of counts.version (rows_in counts (take kept bytes)) (entries_in counts (take kept bytes)) ≡ Ok tt =
    (λ i. layout_of counts.version (rows i) (entries i)) ∙ layout_pass counts.version (rows_in counts bytes) (entries_in counts bytes) read.layout.sound read.layout.apart read.layout.small read.layout.in_code in
    let stored = ap stored_bytes rows in
    stored_cut (take kept bytes) counts counted laid_out (omega (arith, length_is, stored, read.ended))

refused_at : (bytes : List ℕ) (image : ImageValue) (kept : ℕ) → IsRead bytes image → kept < length bytes → image_of (take kept bytes) ≡ refused (length (take kept bytes))
refused_at bytes image kept read short =
    let counts = read.counts in
    let header = counts_ok bytes counts read.counted in
    let length_is = cut_length kept bytes short in
    elim (cases_lt kept 12) [
      | inl inside ↦ header_cut (take kept bytes) (omega (arith, length_is))
      | inr behind ↦ elim (cases_lt kept (tables_end counts)) [
        | inl inside ↦
            let is = header_kept bytes counts kept header behind in
            tables_cut (take kept bytes) counts (omega (arith, length_is)) is.magic header.version is.is (allowed counts header.some header.threads header.sections header.entries) (omega (arith, length_is))
        | inr past ↦ tables_kept bytes image kept read short past
      ]
    ]

pub prefixes_are_refused : PrefixesAreRefused
prefixes_are_refused bytes image kept read short = refused_at bytes image kept (image_ok bytes image read) short ∙ ap (λ n. refused n) (cut_length kept bytes short)
