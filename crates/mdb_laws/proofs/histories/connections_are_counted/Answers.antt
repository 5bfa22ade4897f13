use Rattle.mdb_laws.proofs.OfHistories.Living.{each-counted}
use Rattle.mdb_laws.proofs.histories.connections_are_counted.Goals as goal

pub returns : goal.returns
returns c = λ w h p z s. each-counted w h z s p
