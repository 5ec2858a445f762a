use Rattle.generated_flow.proofs.Few.{never_too_many, reaches_few}
use Rattle.generated_flow.proofs.reaches_few.Goals as goal

pub returns-clause-few : goal.returns-clause-few
returns-clause-few c = reaches_few

pub returns-clause-accepted : goal.returns-clause-accepted
returns-clause-accepted c = never_too_many
