-- What a log came to, in numbers.
use Rattle.std.specs.Prelude.{ℕ, ◌-◌, List, ◌++◌, length, codes, decimal, Bool, true, false}
use Rattle.std.specs.List.{count_by, sum_by}
use Rattle.mdb_events.specs.declared.fact.Fact.{Fact}
use Rattle.mdb_events.specs.declared.fact.Fact.TheVariants.{Pool, Granted}
use Rattle.mdb_events.specs.declared.cmap.CmapEvent.TheVariants.{ConnectionCreated, ConnectionClosed}
use Rattle.mdb_log.specs.declared.log.Entry.{Entry}
use Rattle.mdb_generator.specs.declared.summary.Kind.{Kind}
use Rattle.mdb_generator.specs.declared.summary.Kind.TheVariants as kind
use Rattle.mdb_generator.specs.declared.summary.Summary.{Summary}

-- the facts that are counted
abbrev pub is_of : Kind → Fact → Bool
is_of kind.Grant (Granted r p c) = true
is_of kind.Creation (Pool p (ConnectionCreated e)) = true
is_of kind.Close (Pool p (ConnectionClosed e)) = true
is_of _ _ = false

-- how many facts of the log are of the kind
abbrev pub number_of : Kind → List Entry → ℕ
number_of k log = sum_by (λ e. count_by (is_of k) e.facts) log

abbrev pub summary_of : List Entry → Summary
summary_of log = record { lines = length log; granted = number_of kind.Grant log; created = number_of kind.Creation log; closed = number_of kind.Close log }

-- entries, grants, connections created and closed, and those that are left
abbrev pub summary_text : Summary → List ℕ
summary_text s = codes "lines=" ++ (decimal s.lines ++ (codes " granted=" ++ (decimal s.granted ++ (codes " created=" ++ (decimal s.created ++ (codes " closed=" ++ (decimal s.closed ++ (codes " live=" ++ decimal (s.created - s.closed)))))))))
