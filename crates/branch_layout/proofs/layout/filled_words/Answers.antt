use Rattle.std.proofs.Common.{◌≡◌, length, arith, rules, ap, ◌∙◌}
use Rattle.exception_records.specs.Blocks.{BlockValue}
use Rattle.branch_layout.proofs.Filled.{filled_next, filled_whole}
use Rattle.branch_layout.proofs.Filling.{filled_more, written_back}
use Rattle.branch_layout.proofs.layout.filled_words.Goals as goal

pub loop-word-preserved : goal.loop-word-preserved
loop-word-preserved c =
    let exits : c.deref-word-items.result.now ≡ c.args.block.now.exits = c.deref-word-items.ensures.value ∙ ap (λ (b : BlockValue). b.exits) c.block.view_is in
    let words = c.loop-word.words.items in
    let count : c.loop-word.words.len ≡ length words = search rules in
    let more = filled_more c.args.map.now c.args.first c.requires.block.1.0 c.requires.block.0 c.args.block.now c.requires.block.1.1 c.deref-word-items.result.now c.loop-word.word-index words c.deref_mut.result.now c.fill.new.words c.exit_code-code.result exits
    c.loop-word-test.true c.deref_mut.ensures.value c.exit_code-code.ensures c.fill.ensures c.loop-word.invariant.0
    in
    let value = filled_next c.args.map.now c.args.first c.args.block.now c.deref-word-items.result.now c.loop-word.word-index words c.deref_mut.result.now c.fill.new.words c.exit_code-code.result exits
    c.loop-word-test.true c.deref_mut.ensures.value c.exit_code-code.ensures c.fill.ensures c.loop-word.invariant.1
    in
    rw (written_back c.loop-word.words.len c.fill.new.words words count more.0) (more.1, value)

pub returns : goal.returns
returns c =
    let exits : c.deref-word-items.result.now ≡ c.args.block.now.exits = c.deref-word-items.ensures.value ∙ ap (λ (b : BlockValue). b.exits) c.block.view_is in
    let count = ap length exits in
    filled_whole c.args.map.now c.args.first c.args.block.now c.loop-word.words.items c.loop-word.word-index (omega arith) c.loop-word.invariant.1
