use Rattle.std.proofs.Common.{◌≡◌, map, not, drop, find}
use Rattle.mdb_srv.specs.Hosts.{is_within}
use Rattle.mdb_srv.proofs.accepting.first_stranger.Given as goal

abbrev pub invariant-loop-host : goal.invariant-loop-host
invariant-loop-host l =
    find (λ host. not (is_within (map (λ label. label.now) l.last_labels) host)) l.found
    ≡ find (λ host. not (is_within (map (λ label. label.now) l.last_labels) host)) (drop l.host-index l.found)
