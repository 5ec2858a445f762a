use Rattle.std.proofs.Common.{◌++◌, ◌∙◌}
use Rattle.std.specs.Prelude.{codes}
use Rattle.std.specs.Int.{w16, to_le_bytes}
use Rattle.image_file.proofs.WriteLaws.{five_parts}
use Rattle.image_parts.proofs.spelled.put_header.Goals as goal

pub returns : goal.returns
returns c =
    let a = c.in_ok-extend_from_slice.ensures.items in
    let b = c.in_ok-extend_from_slice-2.ensures.items ∙ (λ i. a i ++ c.to_le_bytes.ensures i) in
    let d = c.in_ok-extend_from_slice-3.ensures.items ∙ (λ i. b i ++ c.to_le_bytes-2.ensures i) in
    let e = c.in_ok-extend_from_slice-4.ensures.items ∙ (λ i. d i ++ c.to_le_bytes-3.ensures i) in
    let f = c.in_ok-extend_from_slice-5.ensures.items ∙ (λ i. e i ++ c.to_le_bytes-4.ensures i) in
    f ∙ five_parts c.args.out.now.items (codes "VXIM") (to_le_bytes w16 c.args.version) (to_le_bytes w16 c.args.threads) (to_le_bytes w16 c.args.sections) (to_le_bytes w16 c.args.entries)
