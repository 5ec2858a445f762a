use Rattle.std.proofs.Common.{◌≡◌, ◌∙◌, length, replicate, sym, ap, subst, []}
use Rattle.std.proofs.lemmas.List.{length-replicate}
use Rattle.address_map.specs.Tables.{TablesValue, tables, HasTables}
use Rattle.address_map.proofs.Entering.{none_yet}
use Rattle.address_map.proofs.tables.Tables.new.Goals as goal

pub loop-place-init : goal.loop-place-init
loop-place-init c =
    let zeros = c.in_ok-upper.ensures.items_if_clones_equal (λ y e. e) in
    let nothing = c.new-lower.ensures.items in
    let begun : tables c.first_page-first.result c.in_ok-upper.upper.items c.new-lower.result.items ≡ tables c.first_page-first.result (replicate c.page_span.result 0) [] =
    λ i. tables c.first_page-first.result (zeros i) (nothing i) in
    record {
      span = ap length zeros ∙ length-replicate c.page_span.result 0 ∙ c.page_span.ensures.value;
      entered = subst (λ (t : TablesValue). HasTables t []) (sym begun) (none_yet c.first_page-first.result c.page_span.result);
    }
