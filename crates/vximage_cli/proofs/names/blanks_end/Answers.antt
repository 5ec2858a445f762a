-- The first byte that is no blank is looked for from the begin on.
use Rattle.std.proofs.Common.{rules, tests, ap, not, ◌∙◌, length}
use Rattle.std.specs.Prelude.{unwrap_or}
use Rattle.std.proofs.lemmas.Iterator.{YieldsList-from_slice}
use Rattle.std.proofs.lemmas.Iterator.Search.{position_from_yields_List}
use Rattle.vximage_cli.specs.Entries.{is_blank}
use Rattle.vximage_cli.proofs.names.blanks_end.Goals as goal

pub returns-clause-value : goal.returns-clause-value
returns-clause-value c =
    let found = position_from_yields_List (λ b. not (is_blank b)) _ _ c.position.result c.position.ensures.ran (YieldsList-from_slice c.args.rest.now cc) (λ x b q k. search (rules, tests)) in
    c.unwrap_or.ensures ∙ ap (λ r. unwrap_or r (length c.args.rest.now)) found
