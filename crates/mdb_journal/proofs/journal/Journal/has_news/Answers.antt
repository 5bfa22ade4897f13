use Rattle.std.proofs.Common.{◌++◌, ◌<◌, subst, arith}
use Rattle.std.proofs.lemmas.Bool.Decides.{nat_tests}
use Rattle.mdb_journal.specs.Entries.{Entries, HasNews}
use Rattle.mdb_journal.proofs.Latest.{news-from}
use Rattle.mdb_journal.proofs.journal.Journal.has_news.Goals as goal

pub returns-clause-found : goal.returns-clause-found
returns-clause-found c = λ t.
    let less : c.args.from < c.self.inside.news = grind (arith, nat_tests, t) in
    subst (λ (v : Entries). HasNews c.args.from v.all) c.self.view_is (news-from c.args.from (c.self.inside.past.value ++ c.self.inside.recent) (subst (λ n. c.args.from < n) c.self.invariant.2 less))
