use Rattle.std.proofs.Common.{◌≡◌, List, ◌∙◌, subst, sym, ap}
use Rattle.address_map.specs.Pairs.{Pair}
use Rattle.branch_layout.specs.Layouts.{IsLayout, is_small, layout, layout_by, places, whole_sizes}
use Rattle.branch_layout.proofs.Laid.{is_layout}
use Rattle.branch_layout.proofs.layout.lay_out.Goals as goal

pub whole_places-requires-clause-sizes : goal.whole_places-requires-clause-sizes
whole_places-requires-clause-sizes c = λ k d lt. (c.requires.blocks k d lt).1.tidy.few

pub returns-clause-value : goal.returns-clause-value
unfolding layout
returns-clause-value c =
    let bs = c.args.blocks.now in
    let pairs = c.in-Ok-build.ensures.map ∙ c.as_slice-2.ensures.value in
    let mapped : c.in-Ok.mapped ≡ places 0 (whole_sizes bs) = c.in-Ok.ensures.map ∙ c.as_slice.ensures.value ∙ c.in_ok-whole.ensures.places in
    ap (λ (ps : List Pair). record { words = c.in_ok-words.words.items; map = ps; points = c.in_ok-words.points.items }) (sym pairs)
    ∙ c.in_ok-words.ensures
    ∙ ap (λ (m : List Pair). layout_by (is_small c.in_ok-whole.words) m bs) mapped
    ∙ ap (λ n. layout_by (is_small n) (places 0 (whole_sizes bs)) bs) c.in_ok-whole.ensures.words

pub returns-clause-laid : goal.returns-clause-laid
returns-clause-laid c = subst (IsLayout c.args.blocks.now) (sym (returns-clause-value c)) (is_layout c.args.blocks.now c.requires.blocks c.requires.rising c.requires.few)
