use Rattle.std.proofs.Common.{◌≤◌, ◌+◌, sym, subst, ◌∙◌, arith}
use Rattle.mdb_journal.proofs.Latest.{news-upto}
use Rattle.mdb_journal.proofs.newest.news_end.Goals as goal

pub loop-at-preserved : goal.loop-at-preserved
loop-at-preserved c =
    let h = news-upto c.args.entries.now c.loop-at.at c.loop-at.end c.index-entries-at.result (omega arith) c.index-entries-at.is c.loop-at.invariant.0 c.loop-at.invariant.1 in
    (c.news_then-end.ensures ∙ h.0, subst (λ n. n ≤ c.loop-at.at + 1) (sym c.news_then-end.ensures) h.1)
