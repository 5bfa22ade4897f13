use Rattle.mdb_log.specs.History.{of_pool}
use Rattle.mdb_laws.proofs.OfHistories.Hands.{hands-back}
use Rattle.mdb_histories.proofs.Parties.{each-sound}
use Rattle.mdb_laws.proofs.histories.connections_come_back_between_parties.Goals as goal

pub returns : goal.returns
returns c = λ h p s. hands-back (of_pool p h) (each-sound h s p)
