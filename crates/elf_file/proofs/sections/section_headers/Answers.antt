use Rattle.std.proofs.Common.{◌++◌, ◌∷◌, [], ◌+◌, ◌*◌, drop, ap, sym, ◌∙◌, length, length-drop, arith}
use Rattle.std.proofs.lemmas.List.{drop-drop, length-append}
use Rattle.image_file.proofs.TableItems.{table_more}
use Rattle.elf_file.specs.Symbols.{section_header_in}
use Rattle.elf_file.proofs.sections.section_headers.Goals as goal

pub section_header_at-requires : goal.section_header_at-requires
section_header_at-requires c = omega (arith, c.requires, c.loop-place-test.true, length-drop c.args.header.now.sections_at c.args.bytes.now)

pub loop-place-preserved : goal.loop-place-preserved
loop-place-preserved c =
    let read = c.section_header_at.ensures ∙ ap section_header_in (sym (drop-drop (40 * c.loop-place.place) c.args.header.now.sections_at c.args.bytes.now)) in (
      ap length c.in_ok-push.ensures.items ∙ length-append c.loop-place.sections.items _ ∙ ap (λ n. n + 1) c.loop-place.invariant.0,
      c.in_ok-push.ensures.items ∙ (λ i. c.loop-place.invariant.1 i ++ read i ∷ [])
          ∙ sym (table_more 40 section_header_in c.loop-place.place (drop c.args.header.now.sections_at c.args.bytes.now)),
    )
