-- The requests of a pool, of which memory keeps those that have not left.
use Rattle.std.specs.Prelude.{ℕ, ◌≡◌, Bool, true, ◌&&◌, is_some, List, map, filter, None}
use Rattle.mdb_log.specs.Connections.{has}
use Rattle.mdb_slots.specs.Keyed.{entry_at}
use Rattle.mdb_slots.specs.Lists.{apart, has as among}
use Rattle.mdb_slots.specs.NumberSet.{NumberSteps, numbers_kept, spanned_after, capacity_after, NumbersFit}
use Rattle.mdb_slots.specs.Sided.{SidedSteps, SidedFits, sided_after, sided_capacity_after}
use Rattle.mdb_slots.specs.Table.{TableSteps, items, shelf_after, capacity_after as table_capacity_after, Fits as TableFits}
use Rattle.mdb_pool.specs.declared.kept.request.Request.{Request}
use Rattle.mdb_pool.specs.declared.kept.request_parts.RequestParts.{RequestParts}
use Rattle.mdb_pool.specs.Kept.Inner.{Asked, AskedRoom}
use Rattle.mdb_pool.specs.Kept.Values.{lingers, request_in}
use Rattle.mdb_pool.specs.Kept.Places.{is_queued}

-- Memory has those that have not left, of these the numbers that are settled, and all numbers that ever asked, where the pool stands alone.
pub record RequestsFit (all : List Request) (settled : List ℕ) (kept : List Request) (told : List ℕ) (alone : Bool) (known : List ℕ) : Type 0 where
  pub single : apart (map (λ q. q.number) all) ≡ true
  pub kept_is : kept ≡ filter (lingers settled) all
  pub told_is : (r : ℕ) → is_some (entry_at (λ k. k) r told) ≡ (is_some (request_in kept r) && has r settled)
  pub known_is : alone ≡ true → (r : ℕ) → among r known ≡ is_some (request_in all r)
  pub noted : (r : ℕ) → has r settled ≡ true → is_some (request_in all r) ≡ true

-- changes of them
pub record AskedSteps : Type 0 where
  pub all : List Request
  pub settled : List ℕ
  pub kept : SidedSteps Request
  pub told : TableSteps ℕ
  pub known : NumberSteps

-- the requests and those that are settled, as they are, and what they were read from when they were last committed
pub record OpenRequests : Type 0 where
  pub now : List Request
  pub settled : List ℕ
  pub base : Asked
  pub capacity : AskedRoom

abbrev pub asked_base : RequestParts → Asked
asked_base p = record { alone = p.alone; all = p.all_base.value; settled = p.settled_base.value; kept = p.kept.base; told = p.told.base; known = p.known.base }

abbrev pub asked_room : RequestParts → AskedRoom
asked_room p = record { kept = p.kept.capacity; told = p.told.capacity; known = p.known.capacity }

abbrev pub PartsFit : RequestParts → Type 0
PartsFit p = RequestsFit p.all.value p.settled.value p.kept.now p.told.now p.alone p.known.now

abbrev pub asked_after : AskedSteps → Asked → Asked
asked_after p s = record { alone = s.alone; all = p.all; settled = p.settled; kept = sided_after p.kept s.kept; told = shelf_after p.told s.told; known = spanned_after p.known s.known }

abbrev pub asked_room_after : AskedSteps → AskedRoom → AskedRoom
asked_room_after p r = record { kept = sided_capacity_after p.kept r.kept; told = table_capacity_after p.told r.told; known = capacity_after p.known r.known }

-- what the requests are read from has them all
abbrev pub BaseFits : Asked → Type 0
BaseFits s = RequestsFit s.all s.settled (items s.kept.table) (items s.told) s.alone (numbers_kept s.known)

-- the changes can be made without memory
abbrev pub AskedFits : AskedSteps → Asked → AskedRoom → Type 0
AskedFits p s r =
    SidedFits (λ q. q.number) (λ q. None) (λ q. q.asked_at) (λ q. is_queued q.phase && q.warm) (λ q. is_queued q.phase) p.kept s.kept r.kept
    × TableFits (λ k. k) p.told s.told r.told
    × NumbersFit p.known s.known r.known
    × BaseFits (asked_after p s)
