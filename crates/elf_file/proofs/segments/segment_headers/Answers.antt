use Rattle.std.proofs.Common.{◌++◌, ◌∷◌, [], ◌+◌, ◌*◌, drop, ap, sym, ◌∙◌, length, length-drop, arith}
use Rattle.std.proofs.lemmas.List.{drop-drop, length-append}
use Rattle.image_file.proofs.TableItems.{table_more}
use Rattle.elf_file.specs.Program.{segment_header_in}
use Rattle.elf_file.proofs.segments.segment_headers.Goals as goal

pub segment_header_at-requires : goal.segment_header_at-requires
segment_header_at-requires c = omega (arith, c.requires, c.loop-place-test.true, length-drop c.args.header.now.programs_at c.args.bytes.now)

pub loop-place-preserved : goal.loop-place-preserved
loop-place-preserved c =
    let read = c.segment_header_at.ensures ∙ ap segment_header_in (sym (drop-drop (32 * c.loop-place.place) c.args.header.now.programs_at c.args.bytes.now)) in (
      ap length c.in_ok-push.ensures.items ∙ length-append c.loop-place.headers.items _ ∙ ap (λ n. n + 1) c.loop-place.invariant.0,
      c.in_ok-push.ensures.items ∙ (λ i. c.loop-place.invariant.1 i ++ read i ∷ [])
          ∙ sym (table_more 32 segment_header_in c.loop-place.place (drop c.args.header.now.programs_at c.args.bytes.now)),
    )
