use Rattle.std.proofs.Common.{◌+◌, ◌-◌, ◌∙◌, sym, ap, arith, length, drop, ◌&&◌}
use Rattle.std.proofs.lemmas.List.{at_drop_all}
use Rattle.micro_ops.specs.Fits.{all_keep_low}
use Rattle.micro_ops.specs.LeftOut.{is_used}
use Rattle.micro_ops.proofs.Lists.{one_earlier}
use Rattle.micro_ops.proofs.Walks.{none_used, low_from, suffix_low}
use Rattle.micro_ops.proofs.check.all_keep_low.Goals as goal

pub loop-i-init : goal.loop-i-init
loop-i-init c =
    let program = c.args.program.now in
    (none_used c.args.codes program, at_drop_all (all_keep_low c.args.codes) program (length program - 0) (omega arith))

pub returns-then-not-keeps_low : goal.returns-then-not-keeps_low
returns-then-not-keeps_low c =
    let program = c.args.program.now in
    let rest = drop (length program - c.loop-i.i) program in
    let needed = c.is_needed.ensures (is_used c.args.codes rest) c.loop-i.invariant.0 in
    let low = low_from c.args.codes _ rest c.is_needed.result needed in
    sym (suffix_low c.args.codes (length program - (c.loop-i.i + 1)) program (
    ap (all_keep_low c.args.codes) (one_earlier program c.loop-i.i _ c.loop-i-test.true)
    ∙ low ∙ ap (λ keeps. keeps && all_keep_low c.args.codes rest) (sym c.keeps_low.ensures ∙ c.if-not-keeps_low.true)
    ))

pub loop-i-preserved : goal.loop-i-preserved
loop-i-preserved c =
    let program = c.args.program.now in
    let rest = drop (length program - c.loop-i.i) program in
    let earlier = one_earlier program c.loop-i.i _ c.loop-i-test.true in
    let needed = c.is_needed.ensures (is_used c.args.codes rest) c.loop-i.invariant.0 in
    let low = low_from c.args.codes _ rest c.is_needed.result needed in (
      (λ number lt. c.use_from.ensures (is_used c.args.codes rest) c.loop-i.invariant.0 number lt ∙ ap (λ behind. is_used c.args.codes behind number) (sym earlier)),
      ap (all_keep_low c.args.codes) earlier ∙ low
          ∙ ap (λ keeps. keeps && all_keep_low c.args.codes rest) (sym c.keeps_low.ensures ∙ c.if-not-keeps_low.false) ∙ c.loop-i.invariant.1,
    )
