-- Instructions that are few are not refused.
use Rattle.std.proofs.Common.{arith, subst}
use Rattle.std.proofs.lemmas.Result.{IfErr-at_err}
use Rattle.flow_discovery.specs.Refusal.{IsRefused}
use Rattle.flow_discovery.specs.Starts.{starts}
use Rattle.vest_files.proofs.Members.{as_many}
use Rattle.vximage_cli.proofs.showing.reached.Goals as goal

pub unreachable-requires : goal.unreachable-requires
unreachable-requires c =
    let pages = c.args.image.now.pages in
    let begun = starts c.args.image.now c.args.hints.now in
    let refused = IfErr-at_err (IsRefused pages begun) c.in-Err-TooManyInstructions.is c.reach.ensures.refused in
    let many = as_many pages begun c.requires.addresses c.in-Err-TooManyInstructions.field-0-0 c.requires.reached (subst (IsRefused pages begun) c.in-Err-TooManyInstructions.field-0-is refused) in
    let few = c.requires.few in
    omega (arith, many, few)
