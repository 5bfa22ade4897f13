-- A total may cross threads.
use denote.Param.Send.{IsSend, sendable}
use Rattle.std.proofs.Crossing.{crosses}
use Rattle.mdb_describe.proofs.Crossing.{topology}
use Rattle.mdb_total.specs.contracts.total.Total as Total

pub total : IsSend Total.the_row
total = search (topology, crosses, sendable) depth 20
