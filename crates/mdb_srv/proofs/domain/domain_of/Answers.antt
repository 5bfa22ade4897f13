use Rattle.std.proofs.Common.{sym}
use Rattle.mdb_srv.proofs.Domains.{domain_is_rest}
use Rattle.mdb_srv.proofs.domain.domain_of.Goals as goal

pub returns-then-is_some : goal.returns-then-is_some
returns-then-is_some c =
    let first = rw c.in-Some.is at c.cut.ensures in
    domain_is_rest c.args.host.now c.in-Some.rest.now c.cut.result.0.now c.cut-2.result.0.now c.cut-2.result.1 first c.cut-2.ensures (sym c.if-is_some.ensures)
