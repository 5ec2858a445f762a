-- The block with the number of the word.
use Rattle.std.proofs.Common.{List, map, ap, ◌∙◌}
use Rattle.prepared_code.specs.Prepared.{begun}
use Rattle.prepared_code.specs.Sources.{Source, block_of}
use Rattle.prepared_code.specs.declared.blocks.Block.{Block}
use Rattle.prepared_code.proofs.Words.{begun_is}
use Rattle.prepared_code.proofs.prepared.Prepared.block_at.Goals as goal

pub returns-in-Some : goal.returns-in-Some
returns-in-Some g c =
    let number = c.in-Some.word.block in
    c.begun.ensures
    ∙ ap (λ (blocks : List Block). begun blocks number) (c.deref.ensures.value ∙ c.self.invariant.blocks)
    ∙ ap (λ (s : Source). begun (map (block_of s.code.points s.pages) s.code.map) number) c.self.view_is
    ∙ begun_is c.args.self.now c.args.word number c.in-Some.ensures.ready.block
