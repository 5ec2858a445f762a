use Rattle.std.proofs.Common.{length, reverse, sym, ap, ◌∙◌}
use Rattle.image_file.specs.Values.{ImageValue}
use Rattle.memory_core.specs.Contents.{Contents}
use Rattle.vest_core.proofs.NewWorlds.{are_counted, begins, is_manned}
use Rattle.vest_core.proofs.world.World.new.Goals as goal

pub invariant_of-result : goal.invariant_of-result
invariant_of-result c =
    let image = c.args.image.now in
    let threads = c.as_slice-threads.ensures.value ∙ ap (λ (i : ImageValue). i.threads) c.image.view_is in
    is_manned image c.args.input.items c.args.budget c.args.limit c.args.miss c.as_slice-threads.result.now threads c.in_ok-memory.memory c.in_ok-memory.ensures
    c.in_ok-processors.processors.items (c.in_ok-processors.ensures.stand) (c.in_ok-processors.ensures.own)
    (λ set_up is_image is_input. c.images_are_runs.ensures set_up is_image (is_input ∙ sym c.deref.ensures.value))

pub returns-clause-legal : goal.returns-clause-legal
returns-clause-legal c = λ setting pages.
    let image = c.args.image.now in
    let threads = c.as_slice-threads.ensures.value ∙ ap (λ (i : ImageValue). i.threads) c.image.view_is in
    begins image c.args.input.items c.args.budget c.args.limit c.args.miss c.as_slice-threads.result.now threads
    c.in_ok-memory.memory c.in_ok-memory.ensures c.in_ok-processors.processors.items c.beginnings_are_legal.ensures setting pages (c.in_ok-processors.ensures.stand setting.meaning.pages)

pub returns-clause-headline : goal.returns-clause-headline
returns-clause-headline c = λ setting pages sound permit few meets legal.
    let memory = c.in_ok-memory.memory in
    let is_image = ap (λ (m : Contents). m.set_up.image) c.in_ok-memory.ensures in
    let is_input = ap (λ (m : Contents). m.set_up.input) c.in_ok-memory.ensures in
    c.legal_has_headline.ensures setting permit memory.set_up c.args.budget (reverse memory.history) legal.processors sound few meets
    (c.images_are_runs.ensures memory.set_up is_image (is_input ∙ sym c.deref.ensures.value)) legal.legal

pub returns-clause-count : goal.returns-clause-count
returns-clause-count c =
    let threads = c.as_slice-threads.ensures.value ∙ ap (λ (i : ImageValue). i.threads) c.image.view_is in
    are_counted c.as_slice-threads.result.now c.in_ok-processors.processors.items c.in_ok-processors.ensures.stand ∙ ap length threads
