-- What reading answers, step by step.
use Rattle.std.proofs.Common.{◌≡◌, ℕ, zero, suc, ◌+◌, ◌-◌, ◌≤◌, true, false, not, cond, List, [], ◌∷◌, length, take, drop, refl, sym, ap, subst, ◌∙◌, arith, map, None, Ok, nat_lt}
use Rattle.std.specs.Prelude.{position, ◌==◌}
use Rattle.std.specs.List.{list_all, list_any}
use Rattle.std.proofs.lemmas.Bool.{and_parts, eqb-true, le-ltb, ltb-false, not-false}
use Rattle.std.proofs.lemmas.List.{length-take, length-drop, take_all}
use Rattle.image_file.specs.Limits.{MAGIC, HEADER, MOST_SECTIONS, MOST_ENTRIES, is_version, most_threads, most_bytes}
use Rattle.image_file.specs.declared.rows.Row.{Row}
use Rattle.image_file.specs.declared.header.Counts.{Counts}
use Rattle.image_file.specs.declared.refusal.ImageRefusal.TheVariants.{Truncated, BadMagic, BadVersion, NoThread, TooManyThreads, TooManySections, BadSection, Overlap, TooLarge, Trailing}
use Rattle.image_file.specs.Values.{SectionValue, ImageValue}
use Rattle.image_file.specs.Rows.{is_sound, has_code, first_overlap, total_bytes, stored_bytes}
use Rattle.image_file.specs.Spelling.{row_of}
use Rattle.image_file.specs.Pages.{pages_of}
use Rattle.vax_form.specs.PageTable.{PageTable}
use Rattle.image_file.specs.declared.image.Start.{Start}
use Rattle.image_file.specs.Steps.{refuse_if, refuse_at}
use Rattle.image_file.specs.Reading.{half, word, tables_end, counts_in, counts_allowed, counts_of, threads_in, rows_in, entries_in, layout_of, sections_in, image_in, image_of}
use Rattle.image_file.proofs.ListLaws.{position_none, all_pass}
use Rattle.image_file.proofs.RowLaws.{sound_row}
use Rattle.image_file.proofs.StepLaws.{bind_ok, passed, passed_at, done, ok_is}

-- ---- the tables' layout

pub record IsLayout (version : ℕ) (rows : List Row) (entries : List ℕ) : Type 0 where
  pub sound : list_all is_sound rows ≡ true
  pub apart : first_overlap 0 rows ≡ None
  pub small : total_bytes rows ≤ most_bytes version
  pub in_code : list_all (λ (e : ℕ). list_any (has_code e) rows) entries ≡ true

pub layout_ok : (version : ℕ) (rows : List Row) (entries : List ℕ) (u : Unit {0}) → layout_of version rows entries ≡ Ok u → IsLayout version rows entries
unfolding layout_of
layout_ok version rows entries u e =
    let a = bind_ok (refuse_at (position (λ r. not (is_sound r)) rows) (λ place. BadSection place)) _ u e in
    let b = bind_ok (refuse_at (first_overlap 0 rows) (λ (pair : ℕ × ℕ). Overlap pair.0 pair.1)) _ u a.2 in
    let c = bind_ok (refuse_if (nat_lt (most_bytes version) (total_bytes rows)) (TooLarge (total_bytes rows))) _ u b.2 in
    record {
      sound = all_pass is_sound rows (position_none (λ r. not (is_sound r)) rows (passed_at _ _ a.0 a.1));
      apart = passed_at _ _ b.0 b.1;
      small = ltb-false _ _ (passed _ _ c.0 c.1);
      in_code = all_pass (λ (e : ℕ). list_any (has_code e) rows) entries (position_none (λ (e : ℕ). not (list_any (has_code e) rows)) entries (passed_at _ _ u c.2));
    }

-- ---- the sections of the rows

flag_again : (flags : ℕ) → flags ≤ 1 → cond (flags == 1) 1 0 ≡ flags
flag_again zero small = refl
flag_again (suc zero) small = refl
flag_again (suc (suc n)) small = absurd (omega arith)

pub rows_again : (rows : List Row) (bytes : List ℕ) → list_all is_sound rows ≡ true → stored_bytes rows ≤ length bytes → map row_of (sections_in rows bytes) ≡ rows
rows_again [] bytes sound long = refl
rows_again (r ∷ rs) bytes sound long =
    let both = and_parts (is_sound r) (list_all is_sound rs) sound in
    let small : r.flags ≤ 1 = (sound_row r both.0).flags in
    let stored : length (take r.stored bytes) ≡ r.stored = omega (arith, length-take r.stored bytes) in
    λ i. record { start = r.start; size = r.size; stored = stored i; flags = flag_again r.flags small i } ∷ rows_again rs (drop r.stored bytes) both.1 (omega (arith, length-drop r.stored bytes)) i

-- ---- the whole file

pub image_is : (bytes : List ℕ) (counts : Counts) (u : Unit {0}) → counts_of bytes ≡ Ok counts → layout_of counts.version (rows_in counts bytes) (entries_in counts bytes) ≡ Ok u
    → length bytes ≡ tables_end counts + stored_bytes (rows_in counts bytes) → image_of bytes ≡ Ok (image_in counts bytes)
unfolding image_of
image_is bytes counts u counted laid_out ended =
    let short : nat_lt (length bytes) (tables_end counts + stored_bytes (rows_in counts bytes)) ≡ false = le-ltb _ _ (omega (arith, ended)) in
    let long : nat_lt (tables_end counts + stored_bytes (rows_in counts bytes)) (length bytes) ≡ false = le-ltb _ _ (omega (arith, ended)) in
    rw (counted, laid_out, short, long) refl

pub sections_ready : (version : ℕ) (rows : List Row) (entries stored : List ℕ) (sections : List SectionValue) (u : Unit {0}) → layout_of version rows entries ≡ Ok u → stored_bytes rows ≤ length stored → sections ≡ sections_in rows stored
    → (list_all is_sound (map row_of sections) ≡ true) × (first_overlap 0 (map row_of sections) ≡ None)
sections_ready version rows entries stored sections u laid_out long is =
    let layout = layout_ok version rows entries u laid_out in
    let same : map row_of sections ≡ rows = ap (λ ss. map row_of ss) is ∙ rows_again rows stored layout.sound long in
    (ap (λ rs. list_all is_sound rs) same ∙ layout.sound, ap (λ rs. first_overlap 0 rs) same ∙ layout.apart)

abbrev pub image_with : ℕ → List Start → List SectionValue → List ℕ → PageTable → ImageValue
image_with version threads sections entries pages = record { version = version; threads = threads; sections = sections; entries = entries; pages = pages }

pub image_made : (bytes : List ℕ) (counts : Counts) (u : Unit {0}) (threads : List Start) (rows : List Row) (entries : List ℕ) (sections : List SectionValue) (pages : PageTable) (at : ℕ)
    → counts_of bytes ≡ Ok counts → threads ≡ threads_in counts bytes → rows ≡ rows_in counts bytes → entries ≡ entries_in counts bytes → layout_of counts.version rows entries ≡ Ok u
    → at ≡ tables_end counts → length bytes ≡ at + stored_bytes rows → sections ≡ sections_in rows (take (length bytes - at) (drop at bytes)) → pages ≡ pages_of sections
    → image_of bytes ≡ Ok (image_with counts.version threads sections entries pages)
image_made bytes counts u threads rows entries sections pages at counted threads_are rows_are entries_are laid_out at_is ended sections_are pages_are =
    let laid : layout_of counts.version (rows_in counts bytes) (entries_in counts bytes) ≡ Ok u = (λ i. layout_of counts.version (sym rows_are i) (sym entries_are i)) ∙ laid_out in
    let end : length bytes ≡ tables_end counts + stored_bytes (rows_in counts bytes) = ended ∙ (λ i. at_is i + stored_bytes (rows_are i)) in
    let rest : take (length bytes - at) (drop at bytes) ≡ drop (tables_end counts) bytes = take_all (length bytes - at) (drop at bytes) (omega (arith, length-drop at bytes)) ∙ ap (λ n. drop n bytes) at_is in
    let ss : sections_in (rows_in counts bytes) (drop (tables_end counts) bytes) ≡ sections = (λ i. sections_in (sym rows_are i) (sym rest i)) ∙ sym sections_are in
    let same : image_in counts bytes ≡ image_with counts.version threads sections entries pages = λ i. record { version = counts.version; threads = sym threads_are i; sections = ss i; entries = sym entries_are i; pages = (ap pages_of ss ∙ sym pages_are) i } in
    image_is bytes counts u counted laid end ∙ ap done same

pub record IsRead (bytes : List ℕ) (image : ImageValue) : Type 0 where
  pub counts : Counts
  pub counted : counts_of bytes ≡ Ok counts
  pub layout : IsLayout counts.version (rows_in counts bytes) (entries_in counts bytes)
  pub ended : length bytes ≡ tables_end counts + stored_bytes (rows_in counts bytes)
  pub is : image_in counts bytes ≡ image

pub image_ok : (bytes : List ℕ) (image : ImageValue) → image_of bytes ≡ Ok image → IsRead bytes image
unfolding image_of
image_ok bytes image e =
    let a = bind_ok (counts_of bytes) _ image e in
    let b = bind_ok (layout_of a.0.version (rows_in a.0 bytes) (entries_in a.0 bytes)) _ image a.2 in
    let end : ℕ = tables_end a.0 + stored_bytes (rows_in a.0 bytes) in
    let c = bind_ok (refuse_if (nat_lt (length bytes) end) (Truncated (length bytes))) _ image b.2 in
    let d = bind_ok (refuse_if (nat_lt end (length bytes)) (Trailing end)) _ image c.2 in
    record {
      counts = a.0;
      counted = a.1;
      layout = layout_ok a.0.version (rows_in a.0 bytes) (entries_in a.0 bytes) b.0 b.1;
      ended = omega (arith, ltb-false _ _ (passed _ _ c.0 c.1), ltb-false _ _ (passed _ _ d.0 d.1));
      is = ok_is _ _ d.2;
    }

-- ---- the header

pub record IsHeader (bytes : List ℕ) (counts : Counts) : Type 0 where
  pub magic : word bytes ≡ MAGIC
  pub version : is_version counts.version ≡ true
  pub some : 1 ≤ counts.threads
  pub threads : counts.threads ≤ most_threads counts.version
  pub sections : counts.sections ≤ MOST_SECTIONS
  pub entries : counts.entries ≤ MOST_ENTRIES
  pub tables : tables_end counts ≤ length bytes
  pub is : counts_in bytes ≡ counts

record IsAllowed (counts : Counts) : Type 0 where
  some : 1 ≤ counts.threads
  threads : counts.threads ≤ most_threads counts.version
  sections : counts.sections ≤ MOST_SECTIONS
  entries : counts.entries ≤ MOST_ENTRIES

not_zero : (n : ℕ) → (n == 0) ≡ false → 1 ≤ n
not_zero zero is = absurd cc
not_zero (suc n) is = omega arith

allowed_ok : (counts : Counts) (u : Unit {0}) → counts_allowed counts ≡ Ok u → IsAllowed counts
unfolding counts_allowed
allowed_ok counts u e =
    let a = bind_ok (refuse_if (counts.threads == 0) NoThread) _ u e in
    let b = bind_ok (refuse_if (nat_lt (most_threads counts.version) counts.threads) (TooManyThreads counts.threads)) _ u a.2 in
    let c = bind_ok (refuse_if (nat_lt MOST_SECTIONS counts.sections) (TooManySections counts.sections)) _ u b.2 in
    record {
      some = not_zero _ (passed _ _ a.0 a.1);
      threads = ltb-false _ _ (passed _ _ b.0 b.1);
      sections = ltb-false _ _ (passed _ _ c.0 c.1);
      entries = ltb-false _ _ (passed _ _ u c.2);
    }

pub counts_ok : (bytes : List ℕ) (counts : Counts) → counts_of bytes ≡ Ok counts → IsHeader bytes counts
unfolding counts_of
counts_ok bytes counts e =
    let a = bind_ok (refuse_if (nat_lt (length bytes) HEADER) (Truncated (length bytes))) _ counts e in
    let b = bind_ok (refuse_if (not (word bytes == MAGIC)) BadMagic) _ counts a.2 in
    let c = bind_ok (refuse_if (not (is_version (half (drop 4 bytes)))) (BadVersion (half (drop 4 bytes)))) _ counts b.2 in
    let d = bind_ok (counts_allowed (counts_in bytes)) _ counts c.2 in
    let f = bind_ok (refuse_if (nat_lt (length bytes) (tables_end (counts_in bytes))) (Truncated (length bytes))) _ counts d.2 in
    let is : counts_in bytes ≡ counts = ok_is _ _ f.2 in
    let allowed : IsAllowed counts = subst IsAllowed is (allowed_ok (counts_in bytes) d.0 d.1) in
    record {
      magic = eqb-true _ _ (not-false _ (passed _ _ b.0 b.1));
      version = subst (λ (k : Counts). is_version k.version ≡ true) is (not-false _ (passed _ _ c.0 c.1));
      some = allowed.some;
      threads = allowed.threads;
      sections = allowed.sections;
      entries = allowed.entries;
      tables = subst (λ (k : Counts). tables_end k ≤ length bytes) is (ltb-false _ _ (passed _ _ f.0 f.1));
      is = is;
    }
