use Rattle.std.specs.Prelude.{Ok, IfOk}
use Rattle.std.proofs.Common.{◌≡◌, drop, refl, sym, subst}
use Rattle.std.specs.Vec.Iter.{into_iter_items}
use Rattle.std.proofs.lemmas.Iterator.{items_from_collect}
use Rattle.std.proofs.lemmas.Iterator.Adapters.{YieldsList-from_skip, YieldsList-from_vec}
use Rattle.std.proofs.lemmas.Iterator.Consumers.{YieldsList-at}
use Rattle.vximage_cli.specs.Program.{AreBehindName}
use Rattle.vximage_cli.proofs.programs.words_of.Goals as goal

pub returns-in-Ok : goal.returns-in-Ok
returns-in-Ok c =
    let arguments = c.in_ok-arguments.arguments in
    let all = YieldsList-from_vec (into_iter_items arguments) refl arguments.rest.ok.0 in
    let collected = items_from_collect _ c.list_of.ensures.ran (YieldsList-from_skip 1 (YieldsList-at c.skip.ensures.source all) c.skip.ensures.count) in
    let behind : c.in-Ok.words.items ≡ drop 1 (into_iter_items arguments) =
    subst (λ (r : _). IfOk r (λ words. words.items ≡ drop 1 (into_iter_items arguments))) c.in-Ok.is collected in
    subst (λ (r : _). AreBehindName r (Ok c.in-Ok.words)) (sym c.in_ok-arguments.was) behind
