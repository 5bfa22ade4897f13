use Rattle.std.proofs.Common.{arith}
use Rattle.mdb_log.specs.History.{history_of}
use Rattle.mdb_session.specs.Facts.{fact_numbers, server_number}
use Rattle.mdb_session.proofs.Filled.{fills}
use Rattle.mdb_session.proofs.session.Session.fill.Goals as goal

pub loop-index-preserved : goal.loop-index-preserved
loop-index-preserved c =
    fills (fact_numbers (server_number (history_of c.args.self.now) c.args.facts.now)) c.args.facts.now c.args.out.now c.loop-index.out c.loop-index.index c.index-facts-index.result c.fact_numbers.result
    (omega arith) (omega arith) c.loop-index.invariant c.index-facts-index.is c.fact_numbers.ensures
