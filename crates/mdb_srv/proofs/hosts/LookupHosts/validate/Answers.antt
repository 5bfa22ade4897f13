use Rattle.std.proofs.Common.{rules, ◌<◌, length}
use Rattle.mdb_srv.proofs.Laws.{kept_are}
use Rattle.mdb_srv.proofs.hosts.LookupHosts.validate.Goals as goal

pub returns-clause-kept : goal.returns-clause-kept
returns-clause-kept c =
    let some : 0 < length c.in_ok-hosts.hosts.items = search rules in
    rw (c.new.ensures, ← c.into_inner.ensures)
    (kept_are c.args.original_hostname.now c.args.dm c.into_inner.result.items c.in_ok-hosts.hosts.items c.in_ok-hosts.ensures.kept some)
