use Rattle.std.proofs.Common.{◌≡◌, map, filter}
use Rattle.mdb_srv.specs.Hosts.{is_within}
use Rattle.mdb_srv.proofs.accepting.all_within.Given as goal

abbrev pub invariant-loop-host : goal.invariant-loop-host
invariant-loop-host l = l.kept.items ≡ filter (is_within (map (λ label. label.now) l.last_labels)) l.yielded
