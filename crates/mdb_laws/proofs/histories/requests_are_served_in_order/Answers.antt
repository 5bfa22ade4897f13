use Rattle.mdb_laws.proofs.OfHistories.Living.{serves-in-order}
use Rattle.mdb_laws.proofs.histories.requests_are_served_in_order.Goals as goal

pub returns : goal.returns
returns c = serves-in-order
