use Rattle.code_runs.proofs.Alone.{each_in_one_run}
use Rattle.code_runs.proofs.Meeting.{rules_always_meet}
use Rattle.code_runs.proofs.laws.run_laws.Goals as goal

pub returns-clause-runs : goal.returns-clause-runs
returns-clause-runs c = each_in_one_run

pub returns-clause-rules : goal.returns-clause-rules
returns-clause-rules c = rules_always_meet
