use Rattle.report_text.proofs.Listings.{number_moved}
use Rattle.report_text.proofs.blocks.push_numbers.Goals as goal

pub loop-number-preserved : goal.loop-number-preserved
loop-number-preserved c =
    number_moved c.args.count c.loop-number.number c.args.digits.now c.loop-number.text.items c.push.new.self.items _ _ c.loop-number-test.true
    c.loop-number.invariant c.in_ok-push.ensures.items c.in_ok-extend_from_slice.ensures.items
