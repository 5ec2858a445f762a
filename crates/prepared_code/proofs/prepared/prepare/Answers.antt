-- The parts are made of the same words and pairs.
use Rattle.std.proofs.Common.{List, length, map, sym, ap, ◌∙◌, subst, arith}
use Rattle.address_map.specs.Pairs.{Pair}
use Rattle.prepared_code.specs.Prepared.{AreReady}
use Rattle.prepared_code.specs.Sources.{block_of, source_of}
use Rattle.prepared_code.specs.declared.prepared.Word.{Word}
use Rattle.prepared_code.proofs.Flats.{encodable}
use Rattle.prepared_code.proofs.prepared.prepare.Goals as goal

pub flats_of-requires-clause-encodable : goal.flats_of-requires-clause-encodable
flats_of-requires-clause-encodable c =
    let words = c.args.words.now in
    let pairs = c.pairs-pairs.result.now in
    encodable words pairs c.deref.result.now (subst (λ (ws : List Word). AreReady words pairs ws (length words)) (sym c.deref.ensures.value) c.in_ok-ready.ensures)

pub invariant_of-result : goal.invariant_of-result
invariant_of-result c =
    let words = c.args.words.now in
    let ready = subst (λ (ps : List Pair). AreReady words ps c.in_ok-ready.ready.items (length words)) c.pairs-pairs.ensures.pairs c.in_ok-ready.ensures in
    let same = c.deref.ensures.value in
    record {
      few = c.requires.few;
      rise = c.pairs-pairs.ensures.rising;
      words = ready;
      blocks = c.in_ok-blocks_of.ensures ∙ ap (map (block_of c.args.points.now c.args.pages.now)) c.pairs-pairs.ensures.pairs;
      few_flats = omega (arith, c.in_ok-flats.ensures.counted, ap (λ (ws : List Word). length ws) same, ready.counted, c.requires.few);
      known =
          c.in_ok-flats.ensures.known (source_of words c.args.map.now c.args.points.now c.args.pages.now).code
          (subst (λ (ws : List Word). AreReady words c.args.map.now ws (length words)) (sym same) ready);
    }
