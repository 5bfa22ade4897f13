-- A fact of a pool that stands alone as numbers.
use Rattle.std.specs.Prelude.{None}
use Rattle.mdb_events.specs.declared.fact.Fact.{Fact}
use Rattle.mdb_session.specs.Facts.{fact_numbers}
use Rattle.mdb_session.specs.declared.fact_numbers.FactNumbers.{FactNumbers}

-- No server has a number there.
abbrev pub pool_fact_numbers : Fact → FactNumbers
pool_fact_numbers fact = fact_numbers (λ a. None) fact
