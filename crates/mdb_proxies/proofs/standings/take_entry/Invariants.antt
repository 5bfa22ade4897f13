use Rattle.std.proofs.Common.{◌≡◌, ◌≤◌, ◌-◌, ◌++◌, length, take, drop}
use Rattle.mdb_proxies.specs.Standings.{AreCounted}
use Rattle.mdb_proxies.specs.Tables.{after_entry, KeepsCharge}
use Rattle.mdb_proxies.proofs.standings.take_entry.Given as goal

abbrev pub invariant-loop-at : goal.invariant-loop-at
invariant-loop-at l = record {
  within : l.at ≤ length l.standing.items;
  after_entry : take l.at l.standing.items ++ after_entry l.entry (drop l.at l.standing.items) ≡ after_entry l.entry l.initial.standing.items;
  counted : AreCounted l.standing.items l.charges.items;
  kept : KeepsCharge l.freed l.initial.standing.items l.standing.items;
}

abbrev pub decreases-loop-at : goal.decreases-loop-at
decreases-loop-at l = length l.standing.items - l.at
