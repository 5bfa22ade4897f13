use Rattle.std.proofs.Common.{◌≡◌, ◌≤◌, take}
use Rattle.mdb_journal.specs.Entries.{news_end}
use Rattle.mdb_journal.proofs.newest.news_end.Given as goal

-- the last news so far
abbrev pub invariant-loop-at : goal.invariant-loop-at
invariant-loop-at l = (l.end ≡ news_end (take l.at l.entries)) × (l.end ≤ l.at)
