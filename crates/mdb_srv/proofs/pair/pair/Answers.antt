use Rattle.mdb_srv.proofs.Pairs.{two_signs}
use Rattle.mdb_srv.proofs.pair.pair.Goals as goal

pub returns-else-is_none : goal.returns-else-is_none
returns-else-is_none c =
    let first = rw c.in_ok-rest.was at c.cut.ensures in
    two_signs c.args.part.now c.cut.result.0.now c.in_ok-rest.field-0.now c.cut-2.result.0.now c.cut-2.result.1 first c.cut-2.ensures c.if-is_none.ensures
