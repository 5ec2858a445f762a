-- Nothing was accessed yet.
use Rattle.std.proofs.Common.{[], ◌∷◌, reverse, ap, ◌∙◌}
use Rattle.image_file.specs.Values.{ImageValue}
use Rattle.memory_core.specs.Live.{LiveContents}
use Rattle.vest_core.proofs.NewLive.{live_begins, live_is_manned, live_is_new, none_asked_for}
use Rattle.vest_core.proofs.live.LiveWorld.new.Goals as goal

pub invariant_of-result : goal.invariant_of-result
invariant_of-result c =
    let image = c.args.image.now in
    let threads = c.as_slice.ensures.value ∙ ap (λ (i : ImageValue). i.threads) c.image.view_is in
    live_is_manned image c.args.budget c.args.buffer c.args.miss c.requires.alone c.as_slice.result.now threads c.from.result c.from.ensures c.in_ok-memory.memory c.in_ok-memory.ensures c.new-processor.result
    c.new-processor.ensures.stands c.new-processor.ensures.budget c.images_are_runs.ensures

pub returns-clause-new : goal.returns-clause-new
returns-clause-new c =
    let image = c.args.image.now in
    let threads = c.as_slice.ensures.value ∙ ap (λ (i : ImageValue). i.threads) c.image.view_is in
    live_is_new image c.args.budget c.args.buffer c.args.miss c.requires.alone c.as_slice.result.now threads c.from.result c.from.ensures c.in_ok-memory.memory c.in_ok-memory.ensures c.new-processor.result
    c.new-processor.ensures.stands c.new-processor.ensures.budget

pub returns-clause-legal : goal.returns-clause-legal
returns-clause-legal c =
    let image = c.args.image.now in
    let threads = c.as_slice.ensures.value ∙ ap (λ (i : ImageValue). i.threads) c.image.view_is in
    live_begins image c.args.budget c.args.buffer c.args.miss c.requires.alone c.as_slice.result.now threads c.from.result c.from.ensures c.in_ok-memory.memory c.in_ok-memory.ensures c.new-processor.result
    c.new-processor.ensures.stands c.new-processor.ensures.budget c.beginnings_are_legal.ensures

pub returns-clause-headline : goal.returns-clause-headline
returns-clause-headline c = λ setting sound permit few meets legal.
    let contents = (c.in_ok-memory.memory).contents in
    let run = c.images_are_runs.ensures contents.set_up (ap (λ (m : LiveContents). m.contents.set_up.image) c.in_ok-memory.ensures) (ap (λ (m : LiveContents). m.contents.set_up.input) c.in_ok-memory.ensures) in
    c.legal_has_headline.ensures setting permit contents.set_up c.args.budget (reverse contents.history) (legal.processor ∷ []) sound few meets run legal.legal

pub returns-clause-asked : goal.returns-clause-asked
returns-clause-asked c =
    let image = c.args.image.now in
    let threads = c.as_slice.ensures.value ∙ ap (λ (i : ImageValue). i.threads) c.image.view_is in
    none_asked_for image c.args.budget c.args.buffer c.args.miss c.requires.alone c.as_slice.result.now threads c.from.result c.from.ensures c.in_ok-memory.memory c.in_ok-memory.ensures c.new-processor.result
    c.new-processor.ensures.stands c.new-processor.ensures.budget
