use Rattle.std.proofs.Common.{[]}
use Rattle.mdb_workers.specs.Making.{Made}
use Rattle.mdb_workers.proofs.listening.next_news.Given as goal

abbrev pub invariant-loop : goal.invariant-loop
invariant-loop g l = record { none : Made g.C.Core.stands l.initial.seat l.seat [] }
