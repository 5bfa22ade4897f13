use Rattle.mdb_laws.proofs.OfTelling.Outcomes.{tells-outcome}
use Rattle.mdb_laws.proofs.telling.replies_tell_how_requests_stand.Goals as goal

pub returns : goal.returns
returns c = tells-outcome
