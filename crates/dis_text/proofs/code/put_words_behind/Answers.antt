use Rattle.std.proofs.Common.{◌≡◌, ◌++◌, ap, drop, sym, true, ◌∙◌}
use Rattle.std.specs.Option.{is_some}
use Rattle.std.proofs.lemmas.List.{append-nil}
use Rattle.address_map.specs.Pairs.{address_at}
use Rattle.dis_text.proofs.Blocks.{none_behind}
use Rattle.dis_text.proofs.code.put_words_behind.Goals as goal

pub returns-then-is_some : goal.returns-then-is_some
returns-then-is_some c =
    let begins : is_some (address_at c.args.map.now c.loop-word.number) ≡ true = sym (ap is_some c.vax_of.ensures) ∙ sym c.is_some.ensures ∙ c.if-is_some.true in
    sym (append-nil c.loop-word.out.items)
    ∙ ap (λ rest. c.loop-word.out.items ++ rest) (sym (none_behind c.args.map.now c.loop-word.number (drop c.loop-word.word-index c.args.words.now) begins))
    ∙ c.loop-word.invariant
