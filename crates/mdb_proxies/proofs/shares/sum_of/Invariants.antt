use Rattle.std.proofs.Common.{◌≡◌, ◌≤◌, ◌*◌, ◌^◌, ◌-◌, sum, take}
use Rattle.mdb_proxies.proofs.shares.sum_of.Given as goal

abbrev pub invariant-loop-share : goal.invariant-loop-share
invariant-loop-share l = record {
  so_far : l.sum ≡ sum (take l.share-index l.shares);
  small : l.sum ≤ (2 ^ 32 - 1) * l.share-index;
}
