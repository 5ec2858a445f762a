use Rattle.image_meaning.proofs.Permits.{any_permit_allows_few, meets_any_permit, permits_allow_few}
use Rattle.image_meaning.proofs.laws.permits.Goals as goal

pub returns-clause-few : goal.returns-clause-few
returns-clause-few c = permits_allow_few

pub returns-clause-any_few : goal.returns-clause-any_few
returns-clause-any_few c = any_permit_allows_few

pub returns-clause-meets : goal.returns-clause-meets
returns-clause-meets c = meets_any_permit
