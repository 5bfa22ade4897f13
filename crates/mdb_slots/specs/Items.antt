-- What a caller sees of the table of slots.
use Rattle.std.specs.Prelude.{ℕ, ◌<◌, Bool, false, ◌==◌, ◌&&◌, ◌||◌, if◌then◌else◌, Option, Some, None, List, [], ◌∷◌, map, slice_index_or}
use Rattle.mdb_slots.specs.declared.records.Record.{Record}
use Rattle.mdb_slots.specs.declared.records.SlotRef.{SlotRef}
use Rattle.mdb_base.specs.declared.object_id.ObjectId.{ObjectId}
use Rattle.mdb_slots.specs.Open.{or_else}

-- a record in its slot
pub record Item : Type 0 where
  pub slot : ℕ
  pub held : Record

-- the records oldest first, and how many more may come before memory is taken
pub record Listing : Type 0 where
  pub items : List Item
  pub spare : ℕ

abbrev pub empty_record : Record
empty_record = record { id = 0; service = None; since = 0 }

-- the record in the slot
abbrev pub record_at : List (Option Record) → ℕ → Record
record_at cs k = or_else (slice_index_or cs k None) empty_record

abbrev pub item_at : List (Option Record) → ℕ → Item
item_at cs k = record { slot = k; held = record_at cs k }

abbrev pub items_at : List (Option Record) → List ℕ → List Item
items_at cs ks = map (item_at cs) ks

-- each number is below the bound
abbrev pub Below : ℕ → List ℕ → Type 0
Below n [] = Unit {0}
Below n (x ∷ xs) = (x < n) × Below n xs

-- how a record is named
abbrev pub ref_of : Item → SlotRef
ref_of i = record { slot = i.slot; id = i.held.id }

abbrev pub is_at : SlotRef → Item → Bool
is_at r i = i.slot == r.slot && i.held.id == r.id

abbrev pub lists : SlotRef → List Item → Bool
lists r [] = false
lists r (i ∷ is) = is_at r i || lists r is

-- the list without a record
abbrev pub dropped : SlotRef → List Item → List Item
dropped r [] = []
dropped r (i ∷ is) = if is_at r i then dropped r is else (i ∷ dropped r is)

abbrev pub oldest_of : List Item → Option SlotRef
oldest_of [] = None
oldest_of (i ∷ is) = Some (ref_of i)

abbrev pub newest_after : Option SlotRef → List Item → Option SlotRef
newest_after p [] = p
newest_after p (i ∷ is) = newest_after (Some (ref_of i)) is

abbrev pub newest_of : List Item → Option SlotRef
newest_of is = newest_after None is

-- the next newer record
abbrev pub newer : SlotRef → List Item → Option SlotRef
newer r [] = None
newer r (i ∷ is) = if is_at r i then oldest_of is else newer r is

abbrev pub older_after : Option SlotRef → SlotRef → List Item → Option SlotRef
older_after p r [] = None
older_after p r (i ∷ is) = if is_at r i then p else older_after (Some (ref_of i)) r is

-- the next older record
abbrev pub older : SlotRef → List Item → Option SlotRef
older r is = older_after None r is

abbrev pub slots_of : List Item → List ℕ
slots_of is = map (λ i. i.slot) is

-- the name of the record in the slot, if there is one
abbrev pub name_at : List (Option Record) → Option ℕ → Option SlotRef
name_at cs None = None
name_at cs (Some k) = Some (ref_of (item_at cs k))

-- the records alone
abbrev pub records_of : List Item → List Record
records_of is = map (λ i. i.held) is

-- a record in the slot
abbrev pub item : ℕ → ℕ → Option ObjectId → ℕ → Item
item k n s t = record { slot = k; held = record { id = n; service = s; since = t } }
