-- What one who waits may hear from the log.
use Rattle.std.specs.Prelude.{◌≡◌, ℕ, List, length, ⊤}
use Rattle.mdb_log.specs.declared.log.Entry.{Entry}
use Rattle.mdb_journal.specs.Entries.{HasNews, HasStopped}
use Rattle.mdb_workers.specs.declared.listening.Woken.{Woken}
use Rattle.mdb_workers.specs.declared.listening.Woken.TheVariants.{News, Stopped}

-- what was heard is true of the log
abbrev pub IsHeard : List Entry → Woken → Type 0
IsHeard log (News count) = length log ≡ count
IsHeard log Stopped = HasStopped log

-- News that was heard is of the entries from this one on.
abbrev pub IsNewsOf : ℕ → List Entry → Woken → Type 0
IsNewsOf from log (News count) = HasNews from log
IsNewsOf from log Stopped = ⊤
