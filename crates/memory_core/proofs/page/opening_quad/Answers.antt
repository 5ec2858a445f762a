use Rattle.std.proofs.Common.{◌≡◌, ◌-◌, ◌∙◌, ap, sym, arith, find, Some}
use Rattle.image_file.specs.Memory.{has_address}
use Rattle.image_file.specs.Values.{SectionValue}
use Rattle.memory_core.proofs.Sections.{opening_outside, opening_inside, found_low}
use Rattle.memory_core.proofs.page.opening_quad.Goals as goal

pub overflow_sub-address : goal.overflow_sub-address
overflow_sub-address c =
    let low = found_low c.args.image.now c.requires.whole c.args.address c.in-Some.section.now (sym c.in-Some.ensures) in
    omega (arith, low, ap (λ (s : SectionValue). s.start) c.section.view_is)

pub returns-in-Some : goal.returns-in-Some
returns-in-Some c =
    let s = c.in-Some.section.now in
    let found : find (has_address c.args.address) c.args.image.now.sections ≡ Some s = sym c.in-Some.ensures in
    c.stored_quad.ensures
    ∙ opening_inside c.args.image.now c.args.address c.requires.aligned s (c.args.address - c.section.inside.start) found
    (found_low c.args.image.now c.requires.whole c.args.address s found)
    (ap (λ (s : SectionValue). c.args.address - s.start) c.section.view_is)

pub returns-in-None : goal.returns-in-None
returns-in-None c = opening_outside c.args.image.now c.args.address c.requires.aligned (sym c.in-None.ensures)
