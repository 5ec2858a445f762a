use Rattle.std.proofs.Common.{rules, tests}
use Rattle.std.proofs.lemmas.Iterator.{YieldsList-from_slice}
use Rattle.std.proofs.lemmas.Iterator.Search.{find_from_yields_List}
use Rattle.vax_form.specs.Pages.{has_code}
use Rattle.vax_form.proofs.pages.Pages.code_range.Goals as goal

pub returns : goal.returns
returns c =
    let found = find_from_yields_List (has_code c.args.address) _ _ c.find.result c.find.ensures.ran (YieldsList-from_slice c.args.self.now.ranges cc) (λ x b q k. search (rules, tests)) in
    cc
