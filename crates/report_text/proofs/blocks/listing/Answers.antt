use Rattle.std.proofs.Common.{◌+◌, ◌≤◌, ◌++◌, List, get_or, length, ap, sym, subst, ◌∙◌}
use Rattle.address_map.specs.Pairs.{AllRise, Pair}
use Rattle.report_text.specs.Listing.{AreWithin, block_text, block_words, end_before}
use Rattle.report_text.proofs.Listings.{block_ends, block_moved, block_rises, rest_of}
use Rattle.report_text.proofs.blocks.listing.Goals as goal

pub block_words-block-requires-clause-rises : goal.block_words-block-requires-clause-rises
block_words-block-requires-clause-rises c =
    let within : AreWithin c.args.words.now c.pairs-pairs.result.now = subst (λ (ps : List Pair). AreWithin c.args.words.now ps) (sym c.pairs-pairs.ensures.pairs) c.requires in
    let rise : AllRise c.pairs-pairs.result.now = subst AllRise (sym c.pairs-pairs.ensures.pairs) c.pairs-pairs.ensures.rising in
    subst (λ (ps : List Pair). (get_or c.pairs-pairs.result.now c.loop-place.place (0, 0)).1 ≤ end_before ps (length c.args.words.now))
    (sym (rest_of c.pairs-pairs.result.now (c.loop-place.place + 1)))
    (block_rises c.args.words.now c.pairs-pairs.result.now c.loop-place.place (0, 0) within rise c.loop-place-test.true)

pub block_words-block-requires-clause-within : goal.block_words-block-requires-clause-within
block_words-block-requires-clause-within c =
    let within : AreWithin c.args.words.now c.pairs-pairs.result.now = subst (λ (ps : List Pair). AreWithin c.args.words.now ps) (sym c.pairs-pairs.ensures.pairs) c.requires in
    subst (λ (ps : List Pair). end_before ps (length c.args.words.now) ≤ length c.args.words.now)
    (sym (rest_of c.pairs-pairs.result.now (c.loop-place.place + 1)))
    (block_ends c.args.words.now c.pairs-pairs.result.now (c.loop-place.place + 1) within)

pub loop-place-preserved : goal.loop-place-preserved
loop-place-preserved c =
    block_moved c.args.words.now c.pairs-pairs.result.now c.loop-place.place (0, 0) c.loop-place.text.items _ _ c.loop-place-test.true c.loop-place.invariant
    (c.in_ok-push_block.ensures
    ∙ ap (λ block. c.loop-place.text.items ++ block_text (get_or c.pairs-pairs.result.now c.loop-place.place (0, 0)).0 (get_or c.pairs-pairs.result.now c.loop-place.place (0, 0)).1 block)
    (c.block_words-block.ensures
    ∙ ap (λ (ps : List Pair). block_words c.args.words.now (get_or c.pairs-pairs.result.now c.loop-place.place (0, 0)).1 ps)
    (rest_of c.pairs-pairs.result.now (c.loop-place.place + 1))))
