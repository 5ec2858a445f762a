use Rattle.std.proofs.Common.{◌≡◌, ◌++◌, ◌∙◌, ap, append_assoc}
use Rattle.std.proofs.lemmas.Result.{on_ok_weaker}
use Rattle.byte_sequences.specs.Words.{first_write, tested_second_write, unaligned_write}
use Rattle.byte_sequences.proofs.writing.push_unaligned.Goals as goal

pub returns : goal.returns
returns c =
    let a = c.args in
    on_ok_weaker {Q = c.push_tested_second.new.words.items ≡ a.words.now.items ++ unaligned_write a.place a.count a.from} c.push_tested_second.result
    (λ (e : c.push_tested_second.new.words.items ≡ c.push_first.new.words.items ++ tested_second_write a.place a.count a.from).
    e ∙ ap (λ x. x ++ tested_second_write a.place a.count a.from) c.in_ok-push_first.ensures ∙ append_assoc a.words.now.items (first_write a.place a.count a.from) (tested_second_write a.place a.count a.from))
    c.push_tested_second.ensures
