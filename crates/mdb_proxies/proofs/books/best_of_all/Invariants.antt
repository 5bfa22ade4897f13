use Rattle.std.proofs.Common.{take}
use Rattle.mdb_proxies.specs.Tables.{IsBest}
use Rattle.mdb_proxies.proofs.books.best_of_all.Given as goal

abbrev pub invariant-loop-at : goal.invariant-loop-at
invariant-loop-at l = IsBest l.shares l.standing (take l.at l.standing) l.best
