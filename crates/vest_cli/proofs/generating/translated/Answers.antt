-- Not too many instructions can be reached in a generated image.
use Rattle.std.proofs.Common.{[], subst}
use Rattle.image_file.specs.Values.{ImageValue}
use Rattle.flow_discovery.specs.Starts.{starts}
use Rattle.translate.specs.Refusal.{IsRefused}
use Rattle.translate.specs.declared.refusal.TranslateRefusal.{TranslateRefusal}
use Rattle.translate.specs.declared.refusal.TranslateRefusal.TheVariants.{Flow}
use Rattle.vest_cli.proofs.generating.translated.Goals as goal

pub unreachable-requires : goal.unreachable-requires
unreachable-requires c =
    let count = c.in-Err-Flow.field-0-0 in
    let here : IsRefused c.args.image.now.pages (starts c.args.image.now []) (Flow count) =
    subst (λ (refusal : TranslateRefusal). IsRefused c.args.image.now.pages (starts c.args.image.now []) refusal) c.in-Err-Flow.field-0-is c.in-Err-Flow.ensures.refused in
    c.reaches_few.ensures.accepted c.args.number count c.requires.few
    (subst (λ (image : ImageValue). IsRefused image.pages (starts image []) (Flow count)) c.requires.image here)
