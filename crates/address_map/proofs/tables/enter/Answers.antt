use Rattle.std.proofs.Common.{◌≡◌, ◌+◌, ◌-◌, ◌*◌, ◌/◌, ◌%◌, ◌∙◌, Some, length, get_or, slice_index, set, take, sym, ap, subst, arith}
use Rattle.address_map.specs.Tables.{TablesValue, tables, opened, HasTables}
use Rattle.address_map.proofs.Entering.{inside_page, spot_within, entered, few_tables}
use Rattle.address_map.proofs.tables.enter.Goals as goal

pub overflow_sub-number : goal.overflow_sub-number
overflow_sub-number c = (inside_page c.args.pairs.now c.args.place (0, 0) c.requires.rise c.requires.within (tables c.args.first c.args.upper.now c.args.lower.now.items) c.requires.first c.requires.span).0

pub table_for-requires-clause-within : goal.table_for-requires-clause-within
table_for-requires-clause-within c =
    let inside = inside_page c.args.pairs.now c.args.place (0, 0) c.requires.rise c.requires.within (tables c.args.first c.args.upper.now c.args.lower.now.items) c.requires.first c.requires.span in
    omega (arith, inside.0, inside.1)

pub table_for-requires-clause-few : goal.table_for-requires-clause-few
table_for-requires-clause-few c = few_tables (tables c.args.first c.args.upper.now c.args.lower.now.items) (take c.args.place c.args.pairs.now) c.requires.before c.requires.low

pub index_mut-requires : goal.index_mut-requires
index_mut-requires c =
    let t = tables c.args.first c.args.upper.now c.args.lower.now.items in
    let pair = get_or c.args.pairs.now c.args.place (0, 0) in
    let page = pair.0 / 512 - c.args.first in
    let table : c.in_ok-table.table ≡ slice_index (opened page t.upper t.lower).0 page - 1 = c.in_ok-table.ensures.table ∙ ap (λ u. slice_index u page - 1) c.in_ok-table.ensures.upper in
    let long : length c.table_for.new.lower.items ≡ length (opened page t.upper t.lower).1 = ap length c.in_ok-table.ensures.lower in
    let low = spot_within c.args.pairs.now c.args.place (0, 0) c.requires.rise c.requires.within t c.requires.first c.requires.span c.requires.before in
    omega (arith, table, long, low, c.table_for.new.lower.ok.0)

pub returns : goal.returns
returns c =
    let t = tables c.args.first c.args.upper.now c.args.lower.now.items in
    let pair = get_or c.args.pairs.now c.args.place (0, 0) in
    let page = pair.0 / 512 - c.args.first in
    let table : c.in_ok-table.table ≡ slice_index (opened page t.upper t.lower).0 page - 1 = c.in_ok-table.ensures.table ∙ ap (λ u. slice_index u page - 1) c.in_ok-table.ensures.upper in
    let same : tables c.args.first c.table_for.new.upper (set c.table_for.new.lower.items (512 * c.in_ok-table.table + pair.0 % 512) (Some pair.1))
    ≡ tables c.args.first (opened page t.upper t.lower).0 (set (opened page t.upper t.lower).1 (512 * (slice_index (opened page t.upper t.lower).0 page - 1) + pair.0 % 512) (Some pair.1)) =
    λ i. tables c.args.first (c.in_ok-table.ensures.upper i) (set (c.in_ok-table.ensures.lower i) (512 * table i + pair.0 % 512) (Some pair.1)) in
    subst (λ (u : TablesValue). HasTables u (take (c.args.place + 1) c.args.pairs.now)) (sym same)
    (entered c.args.pairs.now c.args.place (0, 0) c.requires.rise c.requires.within t c.requires.first c.requires.span c.requires.before)
