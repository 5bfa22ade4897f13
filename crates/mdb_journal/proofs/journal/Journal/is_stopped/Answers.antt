use Rattle.std.proofs.Common.{◌++◌, IsTrue, subst}
use Rattle.mdb_journal.specs.Entries.{Entries, HasStopped}
use Rattle.mdb_journal.proofs.Latest.{stopped-at}
use Rattle.mdb_journal.proofs.journal.Journal.is_stopped.Goals as goal

pub returns-clause-found : goal.returns-clause-found
returns-clause-found c = λ t. subst (λ (v : Entries). HasStopped v.all) c.self.view_is (stopped-at (c.self.inside.past.value ++ c.self.inside.recent) (subst (λ b. IsTrue b) c.self.invariant.3 t))
