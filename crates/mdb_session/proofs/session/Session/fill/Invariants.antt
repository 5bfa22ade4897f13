use Rattle.std.proofs.Common.{◌≡◌}
use lib.Seq.{paste}
use Rattle.mdb_log.specs.History.{history_of}
use Rattle.mdb_session.specs.Facts.{told_facts}
use Rattle.mdb_session.proofs.session.Session.fill.Given as goal

abbrev pub invariant-loop-index : goal.invariant-loop-index
invariant-loop-index l = l.out ≡ paste l.fn.out 0 (told_facts (history_of l.self) l.facts) l.index
