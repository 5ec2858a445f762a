use Rattle.std.proofs.Common.{◌≡◌, slice_index, rules, arith}
use Rattle.memory_core.proofs.Indexing.{word_low}
use Rattle.memory_core.proofs.index.PageIndex.word.Goals as goal

pub returns-clause-low : goal.returns-clause-low
returns-clause-low c =
    let i = c.self.inside in
    let word : c.unwrap_or.result ≡ slice_index i.words.items c.args.page = search rules in
    omega (arith, word, c.self.invariant.1 c.args.page, word_low i.pages.value.ranges c.args.page, c.self.invariant.0)
