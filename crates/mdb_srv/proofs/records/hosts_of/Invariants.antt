use Rattle.std.proofs.Common.{◌≡◌, map}
use Rattle.mdb_srv.specs.Srv.{host_of}
use Rattle.mdb_srv.proofs.records.hosts_of.Given as goal

abbrev pub invariant-loop-found : goal.invariant-loop-found
invariant-loop-found l = l.hosts.items ≡ map host_of l.yielded
