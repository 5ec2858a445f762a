-- A loaded segment is one more, and no other is.
use Rattle.std.proofs.Common.{◌≡◌, ◌+◌, ◌++◌, ◌∷◌, [], ap, get_or, sym, take, ◌∙◌, true, false}
use Rattle.std.proofs.lemmas.List.{take_more}
use Rattle.elf_file.specs.declared.segments.SegmentHeader.{SegmentHeader}
use Rattle.elf_file.specs.Program.{is_loaded, segment_in, segments_in}
use Rattle.elf_file.proofs.Kept.{kept_more, kept_same}
use Rattle.elf_file.proofs.program.segments_of.Goals as goal
use Rattle.elf_file.proofs.program.segments_of.Goals.{then-is_loaded+in_ok-segment_of+in_ok-push, else-is_loaded}

pub loop-header-preserved : goal.loop-header-preserved
loop-header-preserved c =
    let bytes = c.args.bytes.now in
    let headers = c.args.headers.now in
    let place = c.loop-header.header-index in
    let none : SegmentHeader = record { kind = 0; offset = 0; address = 0; stored = 0; size = 0; flags = 0 } in
    let header = get_or headers place none in
    let before = take place headers in
    let more : before ++ header ∷ [] ≡ take (place + 1) headers = sym (take_more headers place none c.loop-header-test.true) in
    elim c.if-is_loaded.branch [
      | then-is_loaded+in_ok-segment_of+in_ok-push w ↦
          let loaded : is_loaded header ≡ true = sym c.is_loaded.ensures ∙ w.if-is_loaded.true in
          ap (λ v. v.items) w.segments-is ∙ w.in_ok-push.ensures.items ∙ (λ i. c.loop-header.invariant i ++ w.in_ok-segment_of.ensures i ∷ [])
          ∙ sym (kept_more is_loaded (segment_in bytes) before header loaded)
          ∙ ap (segments_in bytes) more
      | else-is_loaded w ↦
          let other : is_loaded header ≡ false = sym c.is_loaded.ensures ∙ w.if-is_loaded.false in
          ap (λ v. v.items) w.segments-is ∙ c.loop-header.invariant
          ∙ sym (kept_same is_loaded (segment_in bytes) before header other)
          ∙ ap (segments_in bytes) more
    ]
