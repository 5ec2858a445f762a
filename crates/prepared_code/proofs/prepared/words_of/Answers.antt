-- One more word.
use Rattle.std.proofs.Common.{◌≡◌, ◌+◌, inl, inr, length, sym, ap, subst, arith}
use Rattle.prepared_code.specs.Prepared.{AreReady, IsNumber}
use Rattle.prepared_code.proofs.Words.{one_more_word, behind_number}
use Rattle.prepared_code.proofs.prepared.words_of.Goals.{then-block-ne0, else-block-ne0}
use Rattle.prepared_code.proofs.prepared.words_of.Goals as goal

pub loop-place-init : goal.loop-place-init
loop-place-init c = record {
  ready = record { counted = ap length c.new-ready.ensures.items; each = λ k w h e. absurd (omega (arith, h)) };
  next = record { within = omega arith; few = omega arith; passed = λ k d h. absurd (omega (arith, h)); ahead = λ k d h l. omega arith };
}

pub loop-place-preserved : goal.loop-place-preserved
loop-place-preserved c = record {
  ready =
      one_more_word c.args.words.now c.args.pairs.now c.loop-place.ready.items c.push.new.self.items c.loop-place.place c.word_at.result c.loop-place.invariant.ready
      (record {
        instr = c.word_at.ensures.instr;
        encodable = c.word_at.ensures.encodable;
        block = subst (λ n. IsNumber c.args.pairs.now c.loop-place.place n) (sym c.word_at.ensures.block) c.number_at-block.ensures.number;
      })
      c.in_ok-push.ensures.items;
  next =
      behind_number c.args.pairs.now c.number_at-block.result c.loop-place.next c.if-block-ne0.next (c.loop-place.place + 1) c.number_at-block.ensures.next
      (elim c.if-block-ne0.branch [
        | then-block-ne0 w ↦ inr (w.if-block-ne0.true, w.next-is)
        | else-block-ne0 w ↦ inl (w.if-block-ne0.false, w.next-is)
      ]);
}

pub returns : goal.returns
returns c =
    let whole : c.loop-place.place ≡ length c.args.words.now = omega (arith, c.loop-place-test.false, c.loop-place.auto.place-end) in
    subst (λ n. AreReady c.args.words.now c.args.pairs.now c.loop-place.ready.items n) whole c.loop-place.invariant.ready
