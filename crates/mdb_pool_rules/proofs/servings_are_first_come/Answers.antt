use Rattle.std.proofs.Common.{◌+◌, length}
use Rattle.mdb_log.specs.Connections.{available_list}
use Rattle.mdb_log.specs.Requests.{queued}
use Rattle.mdb_pool_rules.proofs.Fair.{serve-fair}
use Rattle.mdb_pool_rules.proofs.servings_are_first_come.Goals as goal

pub returns : goal.returns
returns c = λ p a o m xs. serve-fair p a o m (length (queued xs) + length (available_list xs)) xs
