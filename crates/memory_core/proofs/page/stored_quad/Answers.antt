use Rattle.std.proofs.Common.{◌≡◌, ◌+◌, ◌∙◌, ap, arith, subst, slice_index, List, ℕ}
use Rattle.image_file.specs.Values.{SectionValue}
use Rattle.memory_core.proofs.Filling.{Copied, copied_more, copied_all}
use Rattle.memory_core.proofs.page.stored_quad.Goals as goal

pub loop-at-preserved : goal.loop-at-preserved
loop-at-preserved c =
    let stored = c.deref.ensures.value ∙ ap (λ (s : SectionValue). s.stored) c.section.view_is in
    let byte : c.byte_or_zero.result ≡ slice_index c.args.section.now.stored (c.args.offset + c.loop-at.at) = c.byte_or_zero.ensures ∙ ap (λ (xs : List ℕ). slice_index xs (c.args.offset + c.loop-at.at)) stored in
    copied_more _ _ _ _ _ c.loop-at.invariant c.loop-at-test.true byte

pub returns : goal.returns
returns c =
    let end : c.loop-at.at ≡ 8 = omega arith in
    let all : Copied c.args.section.now.stored c.args.offset c.loop-at.bytes 8 = subst (Copied c.args.section.now.stored c.args.offset c.loop-at.bytes) end c.loop-at.invariant in
    c.from_le_bytes.ensures ∙ copied_all c.args.section.now.stored c.args.offset c.loop-at.bytes all
