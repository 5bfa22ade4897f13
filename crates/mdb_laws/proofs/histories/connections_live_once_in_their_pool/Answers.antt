use Rattle.mdb_log.specs.History.{of_pool}
use Rattle.mdb_laws.proofs.OfHistories.Living.{lives-once}
use Rattle.mdb_histories.proofs.Parties.{each-sound}
use Rattle.mdb_laws.proofs.histories.connections_live_once_in_their_pool.Goals as goal

pub returns : goal.returns
returns c = λ h p c s. lives-once (of_pool p h) (each-sound h s p) c
