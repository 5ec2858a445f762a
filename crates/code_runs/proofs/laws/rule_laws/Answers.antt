use Rattle.code_runs.proofs.Ready.{sources_are_written, live_are_ready, runs_are_ready}
use Rattle.code_runs.proofs.laws.rule_laws.Goals as goal

pub returns-clause-sources : goal.returns-clause-sources
returns-clause-sources c = sources_are_written

pub returns-clause-ready : goal.returns-clause-ready
returns-clause-ready c = live_are_ready

pub returns-clause-runs : goal.returns-clause-runs
returns-clause-runs c = runs_are_ready
