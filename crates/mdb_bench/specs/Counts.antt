-- What a log came to, in numbers.
use Rattle.std.specs.Prelude.{ℕ, List, length, Bool, true, false}
use Rattle.std.specs.List.{count_by, sum_by}
use Rattle.mdb_events.specs.declared.fact.Fact.{Fact}
use Rattle.mdb_events.specs.declared.fact.Fact.TheVariants.{Granted}
use Rattle.mdb_log.specs.declared.log.Entry.{Entry}
use Rattle.mdb_bench.specs.declared.counts.Counts.{Counts}

-- a connection was granted to a party
abbrev pub is_grant : Fact → Bool
is_grant (Granted r p c) = true
is_grant _ = false

-- how many grants the facts of a log tell
abbrev pub grants : List Entry → ℕ
grants log = sum_by (λ e. count_by is_grant e.facts) log

abbrev pub counts_of : List Entry → Counts
counts_of log = record { entries = length log; granted = grants log }
