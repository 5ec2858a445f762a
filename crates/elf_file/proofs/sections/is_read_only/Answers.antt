use Rattle.std.proofs.Common.{◌∙◌, ◌&&◌, not, ap, length, refl, sym}
use Rattle.std.proofs.lemmas.Option.{slice_get_past, slice_get_read}
use Rattle.elf_file.specs.Fields.{has_flag}
use Rattle.elf_file.specs.Symbols.{is_read_only}
use Rattle.elf_file.proofs.sections.is_read_only.Goals as goal

pub returns-in-None : goal.returns-in-None
returns-in-None c = ap is_read_only (sym (slice_get_past c.args.sections.now c.args.number c.in-None.ensures.lookup.3))

pub returns-then-has_flag : goal.returns-then-has_flag
returns-then-has_flag c =
    let sections = c.args.sections.now in
    let found = c.in-Some.ensures.lookup in
    ap not c.has_flag-then-has_flag.ensures
    ∙ ap (λ loaded. loaded && not (has_flag 1 c.in-Some.s.now.flags)) c.if-has_flag.ensures
    ∙ ap is_read_only (sym (slice_get_read sections (length sections) c.args.number c.in-Some.s.now refl found.3.0 found.1))

pub returns-else-has_flag : goal.returns-else-has_flag
returns-else-has_flag c =
    let sections = c.args.sections.now in
    let found = c.in-Some.ensures.lookup in
    c.if-has_flag.false
    ∙ ap (λ loaded. loaded && not (has_flag 1 c.in-Some.s.now.flags)) c.if-has_flag.ensures
    ∙ ap is_read_only (sym (slice_get_read sections (length sections) c.args.number c.in-Some.s.now refl found.3.0 found.1))
