-- The available connections as a history tells them.
use Rattle.std.specs.Prelude.{List, map}
use Rattle.mdb_slots.specs.declared.records.Record.{Record}
use Rattle.mdb_log.specs.Connections.{available_list, known_service, since}
use Rattle.mdb_log.specs.History.{PoolItem}

-- the available connections in the order in which they became so, each with its service and the moment since which it is available
abbrev pub available_records : List PoolItem → List Record
available_records xs = map (λ c. record { id = c; service = known_service xs c; since = since xs c }) (available_list xs)
