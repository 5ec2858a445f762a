use Rattle.std.proofs.Common.{◌≡◌, ℕ, ◌+◌, [], ◌∷◌, ◌++◌, ap₂, sym, ◌∙◌, arith}
use Rattle.std.proofs.lemmas.List.FromFn.{map-range_with_len_more}
use Rattle.dis_text.specs.Bytes.{byte_at}
use Rattle.dis_text.proofs.pieces.bytes_at.Goals as goal

pub loop-k-preserved : goal.loop-k-preserved
loop-k-preserved c =
    let k = c.loop-k.k in
    let f : ℕ → ℕ = λ j. byte_at c.args.pages.now (c.args.at + j) in
    let here : 0 + k ≡ k = omega arith in
    c.in_ok-push.ensures.items ∙ ap₂ (λ bs b. bs ++ b ∷ []) c.loop-k.invariant c.byte_at.ensures ∙ sym (map-range_with_len_more f 0 k k here)
