use Rattle.std.proofs.Common.{◌≡◌, length, take}
use Rattle.mdb_proxies.specs.Standings.{recounted}
use Rattle.mdb_proxies.proofs.standings.recount.Given as goal

abbrev pub invariant-loop-at : goal.invariant-loop-at
invariant-loop-at l = record {
  among : length l.charges.items ≡ length l.standing;
  done : l.charges.items ≡ recounted l.one.tenant l.one.address l.count (take l.at l.standing) l.initial.charges.items;
}
