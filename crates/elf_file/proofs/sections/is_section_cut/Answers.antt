use Rattle.std.proofs.Common.{◌∙◌, ap, length, refl, sym}
use Rattle.std.proofs.lemmas.Option.{slice_get_past, slice_get_read}
use Rattle.elf_file.specs.Symbols.{is_section_cut}
use Rattle.elf_file.proofs.sections.is_section_cut.Goals as goal

pub returns-in-None : goal.returns-in-None
returns-in-None c = ap (is_section_cut c.args.bytes.now) (sym (slice_get_past c.args.sections.now c.args.number c.in-None.ensures.lookup.3))

pub returns-in-Some : goal.returns-in-Some
returns-in-Some c =
    let sections = c.args.sections.now in
    let found = c.in-Some.ensures.lookup in
    c.is_cut.ensures
    ∙ ap (is_section_cut c.args.bytes.now) (sym (slice_get_read sections (length sections) c.args.number c.in-Some.s.now refl found.3.0 found.1))
