use Rattle.std.proofs.Common.{◌≡◌, ◌++◌, ◌∙◌, ap, cond, length}
use Rattle.std.specs.Int.{w32, to_le_bytes}
use Rattle.image_file.specs.Values.{SectionValue}
use Rattle.image_file.specs.Spelling.{row_of, row_bytes}
use Rattle.image_file.proofs.WriteLaws.{four_parts, flag_byte}
use Rattle.image_file.proofs.writing.put_row.Goals as goal

pub returns : goal.returns
returns c =
    let flags : c.from.result ≡ cond c.section.inside.writable 1 0 = c.from.ensures ∙ flag_byte c.section.inside.writable in
    let stored : c.len.result ≡ length c.section.inside.stored.items = c.len.ensures ∙ c.section.inside.stored.ok.0 in
    let a = c.in_ok-extend_from_slice.ensures.items ∙ (λ i. c.args.out.now.items ++ c.to_le_bytes.ensures i) in
    let b = c.in_ok-extend_from_slice-2.ensures.items ∙ (λ i. a i ++ c.to_le_bytes-2.ensures i) in
    let d = c.in_ok-extend_from_slice-3.ensures.items ∙ (λ i. b i ++ (c.to_le_bytes-3.ensures ∙ ap (to_le_bytes w32) stored) i) in
    let e = c.in_ok-extend_from_slice-4.ensures.items ∙ (λ i. d i ++ (c.to_le_bytes-4.ensures ∙ ap (to_le_bytes w32) flags) i) in
    e ∙ four_parts c.args.out.now.items (to_le_bytes w32 c.section.inside.start) (to_le_bytes w32 c.section.inside.size) (to_le_bytes w32 (length c.section.inside.stored.items)) (to_le_bytes w32 (cond c.section.inside.writable 1 0))
    ∙ ap (λ (s : SectionValue). c.args.out.now.items ++ row_bytes (row_of s)) c.section.view_is
