use Rattle.std.proofs.Common.{◌≡◌, map, take}
use Rattle.mdb_srv.proofs.polling.copies.Given as goal

abbrev pub invariant-loop-host : goal.invariant-loop-host
invariant-loop-host l = l.copies.items ≡ map (λ host. host.now) (take l.host-index l.hosts)
