-- Whether a fact, as it is printed, grants to who comes first.
use Rattle.std.specs.Prelude.{ℕ, ◌≡◌, true, List, Some, ⊤}
use Rattle.mdb_log.specs.History.{Item, of_pool}
use Rattle.mdb_log.specs.PlainConnections.{is_created}
use Rattle.mdb_log.specs.PlainRequests.{pool_of}
use Rattle.mdb_log.specs.PlainLegal.{IsNext}
use Rattle.mdb_entries.specs.declared.shown.ShownFact.{ShownFact}
use Rattle.mdb_entries.specs.declared.shown.ShownFact.TheVariants as shown

-- the connection is of the pool that the request asked, and the request comes first there
abbrev pub FairGrant : List Item → ℕ → ℕ → ℕ → Type 0
FairGrant h r p c = (pool_of h r ≡ Some p) × (is_created (of_pool p h) c ≡ true) × IsNext p h r

abbrev pub FairFact : List Item → ShownFact → Type 0
FairFact h (shown.Granted r p c) = FairGrant h r p c
FairFact h _ = ⊤
