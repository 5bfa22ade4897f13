-- How often a pool was cleared, where memory keeps one count for each service and each gap between the connections that live.
use Rattle.std.specs.Prelude.{ℕ, ◌≡◌, ◌<◌, ◌≤◌, ◌+◌, Bool, true, not, ◌&&◌, if◌then◌else◌, nat_lt, is_some, find, count_by, List, [], ◌∷◌, Option, Some, None, slice_get, ◌⊎◌}
use Rattle.std.specs.List.{AllByRecursion}
use Rattle.mdb_base.specs.declared.object_id.ObjectId.{ObjectId}
use Rattle.mdb_log.specs.History.{same_service}
use Rattle.mdb_slots.specs.Open.{or_else}
use Rattle.mdb_pool.specs.declared.kept.connection.Connection.{Connection}
use Rattle.mdb_pool.specs.declared.kept.marks.Mark.{Mark}
use Rattle.mdb_pool.specs.declared.kept.marks.Marks.{Marks}
use Rattle.mdb_pool.specs.declared.kept.status.Clear.{Clear}
use Rattle.mdb_pool.specs.Kept.Inner.{Cleared}
use Rattle.mdb_pool_rules.specs.Jobs.{has_id}
use Rattle.mdb_pool.specs.Kept.Values.{connection_in, clears_for, clears_before, timeouts_in}

-- the mark is one of the service, and of before the connection was created where one is given
abbrev pub counts_at : Option ObjectId → Option ℕ → Mark → Bool
counts_at t None m = same_service m.service t
counts_at t (Some c) m = same_service m.service t && nat_lt m.after c

-- the counts of the marks that meet the test, together
abbrev pub weigh : (Mark → Bool) → List Mark → ℕ
weigh p [] = 0
weigh p (m ∷ ms) = (if p m then m.count else 0) + weigh p ms

-- a connection was created before exactly one of the two moments
abbrev pub parts_at : ℕ → ℕ → ℕ → Bool
parts_at a b c = if nat_lt a c then not (nat_lt b c) else nat_lt b c

-- the ids are the services of the marks of before the connection was created
abbrev pub AreMarked : ℕ → List Mark → List ObjectId → Type 0
AreMarked c ms ids = (t : ObjectId) → has_id t ids ≡ nat_lt 0 (count_by (counts_at (Some t) (Some c)) ms)

-- the connection lives, or is still to be created
abbrev pub IsAsked : List Connection → ℕ → ℕ → Type 0
IsAsked cs made c = (is_some (connection_in cs c) ≡ true) ⊎ (made < c)

-- the mark at the place is of the same service, and no such connection tells the two apart
abbrev pub JoinsAt : List Connection → ℕ → List Mark → Mark → ℕ → Type 0
JoinsAt cs made ms m at = (o : Mark) × (slice_get ms at ≡ Some o) × (same_service o.service m.service ≡ true) × (o.after ≤ made) × (m.after ≤ made) × (find (λ x. parts_at o.after m.after x.id) cs ≡ None)

-- the marks count one mark more
pub record Grown (cs : List Connection) (made : ℕ) (before : List Mark) (m : Mark) (after : List Mark) : Type 0 where
  pub all : weigh (λ o. true) after ≡ weigh (λ o. true) before + m.count
  pub total : (t : Option ObjectId) → weigh (counts_at t None) after ≡ weigh (counts_at t None) before + (if counts_at t None m then m.count else 0)
  pub positive : AllByRecursion (λ o. 0 < o.count) before → 0 < m.count → AllByRecursion (λ o. 0 < o.count) after
  pub earlier : (t : Option ObjectId) (c : ℕ) → IsAsked cs made c → weigh (counts_at t (Some c)) after ≡ weigh (counts_at t (Some c)) before + (if counts_at t (Some c) m then m.count else 0)

-- The marks tell how often the pool was cleared, for each service, and of each connection that lives or is still to be created how often before it.
pub record ClearsFit (made : ℕ) (k : Cleared) (cs : List Connection) : Type 0 where
  pub all : k.marks.total ≡ weigh (λ m. true) k.marks.list.items
  pub positive : AllByRecursion (λ m. 0 < m.count) k.marks.list.items
  pub total : (t : Option ObjectId) → weigh (counts_at t None) k.marks.list.items ≡ clears_for t k.all
  pub earlier : (t : Option ObjectId) (c : ℕ) → IsAsked cs made c → weigh (counts_at t (Some c)) k.marks.list.items ≡ clears_before c t k.all
  pub timeouts : k.marks.timeouts ≡ timeouts_in k.all

-- changes of what is cleared: all clears, and the marks if they change
pub record ClearSteps : Type 0 where
  pub all : List Clear
  pub marks : Option Marks

abbrev pub cleared_after : ClearSteps → Cleared → Cleared
cleared_after p k = record { all = p.all; marks = or_else p.marks k.marks }

-- what is cleared, as it is and as it was when it was last committed
pub record OpenCleared : Type 0 where
  pub now : Cleared
  pub base : Cleared
