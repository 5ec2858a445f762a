use Rattle.std.proofs.Common.{◌≡◌, ◌+◌, ◌∙◌, ap, get_or, ℕ, Option}
use Rattle.std.specs.Prelude.{drop}
use Rattle.std.proofs.lemmas.List.{take_rest}
use Rattle.std.proofs.lemmas.Option.{get_or_from_slice_get}
use Rattle.branch_layout.specs.Ends.{end_of}
use Rattle.branch_layout.specs.Layouts.{Placed, next_address}
use Rattle.branch_layout.proofs.Building.{start_within}
use Rattle.branch_layout.proofs.layout.end_at.Goals as goal

pub end_of-requires-clause-exits : goal.end_of-requires-clause-exits
end_of-requires-clause-exits c = λ k d lt. ((c.requires.blocks c.args.place c.index-blocks-place.result c.requires.place).1.exits k d lt).0

pub end_of-requires-clause-few : goal.end_of-requires-clause-few
end_of-requires-clause-few c = (c.requires.blocks c.args.place c.index-blocks-place.result c.requires.place).1.tidy.few

pub returns-clause-end : goal.returns-clause-end
returns-clause-end c = λ block e.
    let made : c.end_of.result ≡ end_of c.args.small c.args.mapped.now c.next_address-next.result (get_or c.args.blocks.now c.args.place c.index-blocks-place.result).1 = c.end_of.ensures in
    let next : c.next_address-next.result ≡ next_address (drop (c.args.place + 1) c.args.blocks.now) = c.next_address-next.ensures ∙ ap next_address (take_rest c.args.blocks.now (c.args.place + 1)) in
    made
    ∙ ap (λ (o : Option ℕ). end_of c.args.small c.args.mapped.now o (get_or c.args.blocks.now c.args.place c.index-blocks-place.result).1) next
    ∙ ap (λ (b : Placed). end_of c.args.small c.args.mapped.now (next_address (drop (c.args.place + 1) c.args.blocks.now)) b.1) (get_or_from_slice_get c.args.blocks.now c.args.place block c.index-blocks-place.result e)

pub returns-clause-start : goal.returns-clause-start
returns-clause-start c = λ block e.
    let made : c.end_of.result ≡ end_of c.args.small c.args.mapped.now c.next_address-next.result (get_or c.args.blocks.now c.args.place c.index-blocks-place.result).1 = c.end_of.ensures in
    let next : c.next_address-next.result ≡ next_address (drop (c.args.place + 1) c.args.blocks.now) = c.next_address-next.ensures ∙ ap next_address (take_rest c.args.blocks.now (c.args.place + 1)) in
    start_within c.args.small c.args.mapped.now (next_address (drop (c.args.place + 1) c.args.blocks.now)) block.1 c.end_of.result
    (made
    ∙ ap (λ (o : Option ℕ). end_of c.args.small c.args.mapped.now o (get_or c.args.blocks.now c.args.place c.index-blocks-place.result).1) next
    ∙ ap (λ (b : Placed). end_of c.args.small c.args.mapped.now (next_address (drop (c.args.place + 1) c.args.blocks.now)) b.1) (get_or_from_slice_get c.args.blocks.now c.args.place block c.index-blocks-place.result e))
