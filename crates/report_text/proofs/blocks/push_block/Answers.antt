use Rattle.std.proofs.Common.{◌∷◌, ap, length, ◌∙◌, arith}
use Rattle.report_text.proofs.Listings.{block_pushed, length_digits}
use Rattle.report_text.proofs.blocks.push_block.Goals as goal

pub push_digits-requires : goal.push_digits-requires
push_digits-requires c =
    let size = ap length (c.as_bytes.ensures.value ∙ c.in_ok-digits.ensures) ∙ length_digits (c.args.address ∷ c.args.first ∷ c.args.words.now) in
    omega (arith, size)

pub returns : goal.returns
returns c =
    block_pushed c.args.address c.args.first c.args.words.now c.as_bytes.result.now c.args.text.now.items _ _
    (c.as_bytes.ensures.value ∙ c.in_ok-digits.ensures) c.in_ok-push_digits.ensures c.in_ok-push.ensures.items
