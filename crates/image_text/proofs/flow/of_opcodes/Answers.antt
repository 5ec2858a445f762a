-- An instruction without a block is counted once, by its opcode.
use Rattle.std.proofs.Common.{◌≤◌, ◌<◌, ◌+◌, arith, drop, get_or, length, length-set, refl, sym, ap, subst, ◌∙◌}
use Rattle.std.specs.Prelude.{filter}
use Rattle.image_text.specs.Text.{has_opcode}
use Rattle.image_text.proofs.Counts.{counted, left_out, most_counted, none_counted, none_yet}
use Rattle.image_text.proofs.flow.of_opcodes.Goals as goal
use Rattle.image_text.proofs.flow.of_opcodes.Goals.{then-is_interpreted, else-is_interpreted}

pub loop-instr-init : goal.loop-instr-init
loop-instr-init c = record {
  room = refl;
  values = λ k h. none_counted c.args.pages.now _ c.args.instrs.now k refl h;
  most = λ k h. none_yet _ k refl h;
}

pub loop-instr-preserved : goal.loop-instr-preserved
loop-instr-preserved c = elim c.if-is_interpreted.branch [
  | then-is_interpreted w ↦ (
      let index = c.loop-instr.instr-index in
      let before = c.loop-instr.counts in
      let instrs = c.args.instrs.now in
      let place = w.place_of.result in
      let invariant = c.loop-instr.invariant in
      let within = subst (λ n. place < n) (sym invariant.room) w.place_of.ensures.within in
      record {
        room = ap length w.counts-is ∙ length-set before _ _ ∙ invariant.room;
        values = λ k h. ap (λ v. get_or v k 0 + length (filter (has_opcode c.args.pages.now k) (drop (index + 1) instrs))) w.counts-is
            ∙ counted c.args.pages.now before instrs index k _ place _ c.loop-instr-test.true (sym c.is_interpreted.ensures ∙ w.if-is_interpreted.true) w.place_of.ensures.value within (invariant.values k h);
        most = λ k h. subst (λ v. get_or v k 0 ≤ index + 1) (sym w.counts-is) (most_counted before k place index within (invariant.most place w.place_of.ensures.within) (invariant.most k h));
      })
  | else-is_interpreted w ↦ (
      let index = c.loop-instr.instr-index in
      let instrs = c.args.instrs.now in
      let invariant = c.loop-instr.invariant in
      record {
        room = ap length w.counts-is ∙ invariant.room;
        values = λ k h. ap (λ v. get_or v k 0 + length (filter (has_opcode c.args.pages.now k) (drop (index + 1) instrs))) w.counts-is
            ∙ left_out c.args.pages.now c.loop-instr.counts instrs index k _ _ c.loop-instr-test.true (sym c.is_interpreted.ensures ∙ w.if-is_interpreted.false) (invariant.values k h);
        most = λ k h. (
            let before = invariant.most k h in
            subst (λ v. get_or v k 0 ≤ index + 1) (sym w.counts-is) (omega (arith, before)));
      })
]
