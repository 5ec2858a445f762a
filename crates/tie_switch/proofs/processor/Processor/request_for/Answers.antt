-- It is the request at its moment.
use Rattle.std.proofs.Common.{sym, ap}
use Rattle.system_model.specs.Processors.{moment_of}
use Rattle.tie_switch.specs.Processors.{ProcessorValue, processor_of}
use Rattle.tie_switch.proofs.processor.Processor.request_for.Goals as goal

pub returns-clause-request : goal.returns-clause-request
returns-clause-request c =
    let k = c.args.self.now in
    c.request_by.ensures.request (moment_of (processor_of k)) (ap (λ (x : ProcessorValue). x.thread) (sym c.self.view_is)) (ap (λ (x : ProcessorValue). x.retired) (sym c.self.view_is))
