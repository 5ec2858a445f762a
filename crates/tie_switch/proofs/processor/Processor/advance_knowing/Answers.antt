-- At first no instruction is known.
use Rattle.tie_switch.proofs.Knowing.{none_known}
use Rattle.tie_switch.proofs.processor.Processor.advance_knowing.Goals as goal

pub advance_by-requires-clause-known : goal.advance_by-requires-clause-known
advance_by-requires-clause-known g c = none_known c.args.setting.pages.now 1024
