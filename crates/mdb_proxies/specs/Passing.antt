-- Which acts a proxy hands on as they are.
use Rattle.std.specs.Prelude.{Bool, true, false}
use Rattle.mdb_log.specs.declared.step.Act.{Act}
use Rattle.mdb_log.specs.declared.step.Act.TheVariants.{Claim, Established, Failed, Error, Hello, Beat, Beaten, Rtt, Hosts, ClusterTime, Want, Unwant, Stop, Expire}

-- Passed: claims, what workers and monitors report, errors of operations, what watchers want, the times of the cluster, an expiry and a stop.
abbrev pub is_passed : Act → Bool
is_passed Claim = true
is_passed (Established p c how) = true
is_passed (Failed p c at e) = true
is_passed (Error r e) = true
is_passed (Hello a p came) = true
is_passed (Beat a p) = true
is_passed (Beaten a p n came) = true
is_passed (Rtt a p n) = true
is_passed (Hosts hosts) = true
is_passed (ClusterTime time) = true
is_passed (Want w) = true
is_passed (Unwant w) = true
is_passed Stop = true
is_passed (Expire a) = true
is_passed _ = false
