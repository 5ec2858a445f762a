use Rattle.std.proofs.Common.{◌≡◌, ◌++◌, ◌∷◌, [], ap, append_assoc, ◌∙◌, arith}
use Rattle.std.proofs.lemmas.Result.{IfOk-weaker}
use Rattle.std.specs.Int.{to_be_bytes, w32}
use Rattle.std.specs.List.{flat_map}
use Rattle.hex.specs.Hex.{encode_upper}
use Rattle.report_text.proofs.Listings.{all_capitals, all_fit}
use Rattle.report_text.proofs.blocks.digits_of.Goals as goal

pub returns : goal.returns
returns c =
    let words = flat_map (to_be_bytes w32) c.args.words.now in
    let bytes : c.push_bytes-2.new.bytes.items ≡ flat_map (to_be_bytes w32) (c.args.address ∷ c.args.first ∷ c.args.words.now) =
    c.in_ok-push_bytes-2.ensures
    ∙ ap (λ t. t ++ flat_map (to_be_bytes w32) c.args.words.now)
    (c.in_ok-push_bytes.ensures ∙ ap (λ t. t ++ flat_map (to_be_bytes w32) (c.args.address ∷ c.args.first ∷ [])) c.new-bytes.ensures.items)
    ∙ append_assoc (to_be_bytes w32 c.args.address) (to_be_bytes w32 c.args.first ++ []) words
    ∙ ap (λ t. to_be_bytes w32 c.args.address ++ t) (append_assoc (to_be_bytes w32 c.args.first) [] words) in
    IfOk-weaker c.encode_upper.result _ _
    (λ text e. e ∙ ap encode_upper bytes
    ∙ all_capitals (c.args.address ∷ c.args.first ∷ c.args.words.now)
    (omega (arith, c.ranges.address.fits), (omega (arith, c.ranges.first.fits), all_fit c.args.words.now (λ k. omega (arith, c.type_inv.words k)))))
    c.encode_upper.ensures
