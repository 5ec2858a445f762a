use Rattle.std.proofs.Common.{◌≡◌, ◌≤◌, ◌+◌, ◌*◌, length, drop, take, ap, sym, ◌∙◌, ◌-◌, Ok, arith}
use Rattle.image_file.specs.Limits.{ROW_BYTES, ENTRY_BYTES}
use Rattle.image_file.specs.Rows.{stored_bytes}
use Rattle.image_file.specs.Reading.{row_in, word, rows_at, rows_in, entries_in, layout_of, sections_in}
use Rattle.image_file.specs.Pages.{pages_of}
use Rattle.std.proofs.lemmas.List.{length-take, length-drop}
use Rattle.image_file.proofs.FieldLaws.{length-table}
use Rattle.image_file.proofs.ReadLaws.{sections_ready, image_made}
use Rattle.image_file.proofs.reading.image_of.Goals as goal

pub check_layout-requires-clause-rows : goal.check_layout-requires-clause-rows
check_layout-requires-clause-rows c =
    let rows : c.deref.result.now ≡ rows_in c.in_ok-counts.counts c.args.bytes.now = c.deref.ensures.value ∙ c.in_ok-tables.ensures.rows in
    let long = ap length rows ∙ length-table ROW_BYTES row_in c.in_ok-counts.counts.sections (drop (rows_at c.in_ok-counts.counts) c.args.bytes.now) in
    omega (arith, long, c.in_ok-counts.ensures.sections)

pub check_layout-requires-clause-entries : goal.check_layout-requires-clause-entries
check_layout-requires-clause-entries c =
    let entries : c.deref-2.result.now ≡ entries_in c.in_ok-counts.counts c.args.bytes.now = c.deref-2.ensures.value ∙ c.in_ok-tables.ensures.entries in
    let long = ap length entries ∙ length-table ENTRY_BYTES word c.in_ok-counts.counts.entries (drop (rows_at c.in_ok-counts.counts + ROW_BYTES * c.in_ok-counts.counts.sections) c.args.bytes.now) in
    omega (arith, long, c.in_ok-counts.ensures.entries)

pub stored_bytes-requires : goal.stored_bytes-requires
stored_bytes-requires c =
    let rows : c.deref-3.result.now ≡ rows_in c.in_ok-counts.counts c.args.bytes.now = c.deref-3.ensures.value ∙ c.in_ok-tables.ensures.rows in
    let long = ap length rows ∙ length-table ROW_BYTES row_in c.in_ok-counts.counts.sections (drop (rows_at c.in_ok-counts.counts) c.args.bytes.now) in
    omega (arith, long, c.in_ok-counts.ensures.sections)

pub pages_of-requires-clause-sound : goal.pages_of-requires-clause-sound
pages_of-requires-clause-sound c =
    let laid : layout_of c.in_ok-counts.counts.version c.deref.result.now c.deref-2.result.now ≡ Ok c.in_ok-check_layout.field-0 = sym c.in_ok-check_layout.ensures in
    let rows : c.deref-4.result.now ≡ c.deref.result.now = c.deref-4.ensures.value ∙ sym c.deref.ensures.value in
    let counted : c.stored_bytes.result ≡ stored_bytes c.deref.result.now = c.stored_bytes.ensures.value ∙ ap stored_bytes (c.deref-3.ensures.value ∙ sym c.deref.ensures.value) in
    let at = c.tables_end-stored_at.result in
    let stored = take (length c.args.bytes.now - at) (drop at c.args.bytes.now) in
    let sections : c.deref-5.result.now ≡ sections_in c.deref.result.now stored = c.deref-5.ensures.value ∙ c.in_ok-sections.ensures ∙ ap (λ rs. sections_in rs stored) rows in
    let long : stored_bytes c.deref.result.now ≤ length stored = omega (arith, counted, c.if-bytes-end.false, length-take (length c.args.bytes.now - at) (drop at c.args.bytes.now), length-drop at c.args.bytes.now) in
    (sections_ready c.in_ok-counts.counts.version c.deref.result.now c.deref-2.result.now stored c.deref-5.result.now c.in_ok-check_layout.field-0 laid long sections).0

pub pages_of-requires-clause-apart : goal.pages_of-requires-clause-apart
pages_of-requires-clause-apart c =
    let laid : layout_of c.in_ok-counts.counts.version c.deref.result.now c.deref-2.result.now ≡ Ok c.in_ok-check_layout.field-0 = sym c.in_ok-check_layout.ensures in
    let rows : c.deref-4.result.now ≡ c.deref.result.now = c.deref-4.ensures.value ∙ sym c.deref.ensures.value in
    let counted : c.stored_bytes.result ≡ stored_bytes c.deref.result.now = c.stored_bytes.ensures.value ∙ ap stored_bytes (c.deref-3.ensures.value ∙ sym c.deref.ensures.value) in
    let at = c.tables_end-stored_at.result in
    let stored = take (length c.args.bytes.now - at) (drop at c.args.bytes.now) in
    let sections : c.deref-5.result.now ≡ sections_in c.deref.result.now stored = c.deref-5.ensures.value ∙ c.in_ok-sections.ensures ∙ ap (λ rs. sections_in rs stored) rows in
    let long : stored_bytes c.deref.result.now ≤ length stored = omega (arith, counted, c.if-bytes-end.false, length-take (length c.args.bytes.now - at) (drop at c.args.bytes.now), length-drop at c.args.bytes.now) in
    (sections_ready c.in_ok-counts.counts.version c.deref.result.now c.deref-2.result.now stored c.deref-5.result.now c.in_ok-check_layout.field-0 laid long sections).1

pub returns : goal.returns
returns c =
    let rows : c.deref.result.now ≡ c.in_ok-tables.tables.rows.items = c.deref.ensures.value in
    let entries : c.deref-2.result.now ≡ c.in_ok-tables.tables.entries.items = c.deref-2.ensures.value in
    let laid : layout_of c.in_ok-counts.counts.version c.in_ok-tables.tables.rows.items c.in_ok-tables.tables.entries.items ≡ Ok c.in_ok-check_layout.field-0 = (λ i. layout_of c.in_ok-counts.counts.version (sym rows i) (sym entries i)) ∙ sym c.in_ok-check_layout.ensures in
    let counted : c.stored_bytes.result ≡ stored_bytes c.in_ok-tables.tables.rows.items = c.stored_bytes.ensures.value ∙ ap stored_bytes c.deref-3.ensures.value in
    let ended : length c.args.bytes.now ≡ c.tables_end-stored_at.result + stored_bytes c.in_ok-tables.tables.rows.items = omega (arith, counted, c.if-bytes-end.false, c.if-bytes-end-2.false) in
    let stored = take (length c.args.bytes.now - c.tables_end-stored_at.result) (drop c.tables_end-stored_at.result c.args.bytes.now) in
    image_made c.args.bytes.now c.in_ok-counts.counts c.in_ok-check_layout.field-0 c.in_ok-tables.tables.threads.items c.in_ok-tables.tables.rows.items c.in_ok-tables.tables.entries.items
    c.in_ok-sections.sections.items c.in_ok-pages.pages c.tables_end-stored_at.result
    (sym c.in_ok-counts.ensures.value) c.in_ok-tables.ensures.threads c.in_ok-tables.ensures.rows c.in_ok-tables.ensures.entries laid c.tables_end-stored_at.ensures.value ended
    (c.in_ok-sections.ensures ∙ ap (λ rs. sections_in rs stored) c.deref-4.ensures.value) (c.in_ok-pages.ensures ∙ ap pages_of c.deref-5.ensures.value)
