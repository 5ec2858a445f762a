use Rattle.std.proofs.Common.{◌≡◌, ◌+◌, length, length-append, ap, arith}
use Rattle.report_text.proofs.Lines.{longword_pushed}
use Rattle.report_text.proofs.threads.push_registers.Goals as goal

pub loop-value-preserved : goal.loop-value-preserved
loop-value-preserved c =
    let one : length c.push.new.self ≡ length c.loop-value.line + 1 = simp length-append at (ap length c.push.ensures) in
    record {
      text = longword_pushed c.args.registers.now c.loop-value.value-index c.args.line.now _ _ _ (omega (arith, c.told-registers, c.loop-value-test.true)) c.loop-value.invariant.text c.push.ensures c.push_longword.ensures.text;
      count = omega (arith, one, c.push_longword.ensures.room, c.loop-value.invariant.count);
    }
