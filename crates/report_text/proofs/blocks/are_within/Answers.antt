use Rattle.std.proofs.Common.{ℕ, List, length, nat_le, ap, sym, ◌∙◌}
use Rattle.std.specs.List.{list_all}
use Rattle.address_map.specs.Pairs.{Pair}
use Rattle.report_text.proofs.Listings.{tests_within}
use Rattle.report_text.proofs.blocks.are_within.Goals as goal

pub returns : goal.returns
returns c =
    let count : ℕ = length c.args.words.now in
    let test = c.all_within.ensures ∙ ap (λ (ps : List Pair). list_all (λ (p : Pair). nat_le p.1 count) ps) c.pairs.ensures.pairs in
    let laws = tests_within c.args.words.now c.args.map.now in
    (λ yes. laws.0 (sym test ∙ yes), λ within. test ∙ laws.1 within)
