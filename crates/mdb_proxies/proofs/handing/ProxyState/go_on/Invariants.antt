use Rattle.std.proofs.Common.{◌≡◌, false}
use Rattle.mdb_proxies.specs.Entries.{GoesOn}
use Rattle.mdb_proxies.specs.Tables.{Sound, held_in, IsOnly}
use Rattle.mdb_proxies.proofs.handing.ProxyState.go_on.Given as goal

abbrev pub invariant-loop-at : goal.invariant-loop-at
invariant-loop-at g l = record {
  stands : g.C.Core.stands l.self.core l.self.log;
  sound : Sound l.self.log l.self.shares.items l.self.books;
  shares : l.self.shares ≡ l.initial.self.shares;
  asks : l.self.books.asks ≡ l.initial.self.books.asks;
  none : l.some ≡ false → (l.self.log ≡ l.initial.self.log) × (l.self.books ≡ l.initial.self.books);
  only : IsOnly l.self.shares.items l.self.books.standing.items l.freed;
  goes_on : GoesOn l.moment l.initial.self.shares.items l.initial.self.books.asks.items l.initial.self.log l.self.log;
}

abbrev pub decreases-loop-at : goal.decreases-loop-at
decreases-loop-at g l = held_in l.self.books.standing.items
