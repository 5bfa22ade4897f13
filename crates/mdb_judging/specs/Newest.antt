-- The pool that was opened last at an address.
use Rattle.std.specs.Prelude.{Option}
use Rattle.std.specs.declared.cmp.Ordering.{Ordering}
use Rattle.std.specs.Cmp.Lexicographic.{slice_cmp}
use Rattle.std.specs.Ordering.{nat_cmp, ordering_then}
use Rattle.std.specs.BTreeMap.{get}
use Rattle.mdb_base.specs.declared.address.ServerAddress.{ServerAddress}
use Rattle.mdb_judging.specs.declared.newest.Last.{Last}
use Rattle.mdb_judging.specs.declared.newest.Newest.{Newest}

-- the order of the addresses: by host, then by port
abbrev pub by_host : ServerAddress → ServerAddress → Ordering
by_host a b = ordering_then (slice_cmp nat_cmp a.host b.host) (nat_cmp a.port b.port)

abbrev pub last_at : Newest → ServerAddress → Option Last
last_at x a = get by_host x.map a
