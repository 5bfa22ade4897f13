-- The slots by number: each bucket is a chain of slots through the entries.
use Rattle.std.specs.Prelude.{◌≡◌, ◌≤◌, ◌<◌, ◌+◌, ◌-◌, ◌==◌, ℕ, zero, suc, Bool, true, false, if◌then◌else◌, Option, None, Some, option_map, List, [], ◌∷◌, map, length, slice_index_or, slice_set, bit_and}
use Rattle.mdb_slots.specs.declared.bucket.Buckets.{Buckets}
use Rattle.mdb_slots.specs.declared.index_entry.IndexEntry.{IndexEntry}
use Rattle.mdb_slots.specs.Open.{ListSteps, list_after, room_after, ListFits}
use Rattle.mdb_slots.specs.Lists.{has, apart}

abbrev pub entry : Option ℕ → Option ℕ → IndexEntry
entry n s = record { number = n; same = s }

abbrev pub no_entry : IndexEntry
no_entry = entry None None

abbrev pub head_at : List (Option ℕ) → ℕ → Option ℕ
head_at hs b = slice_index_or hs b None

abbrev pub place_at : List IndexEntry → ℕ → IndexEntry
place_at es s = slice_index_or es s no_entry

abbrev pub number_at : List (Option ℕ) → ℕ → Option ℕ
number_at ns s = slice_index_or ns s None

-- the number of each slot
abbrev pub numbers_of : List IndexEntry → List (Option ℕ)
numbers_of es = map (λ e. e.number) es

abbrev pub is_number : ℕ → Option ℕ → Bool
is_number k None = false
is_number k (Some j) = j == k

-- the first slot that has the number
abbrev pub slot_of : ℕ → List (Option ℕ) → Option ℕ
slot_of k [] = None
slot_of k (n ∷ ns) = if is_number k n then Some 0 else option_map suc (slot_of k ns)

-- the list goes through the entries from o to q
abbrev pub Linked : List IndexEntry → Option ℕ → List ℕ → Option ℕ → Type 0
Linked es o [] q = o ≡ q
Linked es o (x ∷ xs) q = (o ≡ Some x) × (x < length es) × Linked es (place_at es x).same xs q

-- the first n slots of the chain that begins at o
abbrev pub trail : ℕ → Option ℕ → List IndexEntry → List ℕ
trail zero o es = []
trail (suc n) None es = []
trail (suc n) (Some x) es = x ∷ trail n (place_at es x).same es

-- the first slot of the list whose entry has the number
abbrev pub seek : ℕ → List IndexEntry → List ℕ → Option ℕ
seek k es [] = None
seek k es (x ∷ xs) = if is_number k (place_at es x).number then Some x else seek k es xs

-- the bucket of a number, of n buckets
unfoldable pub bucket_in : ℕ → ℕ → ℕ
bucket_in k n = bit_and k (n - 1)

-- the number belongs to bucket b of n
abbrev pub in_bucket : ℕ → ℕ → Option ℕ → Bool
in_bucket n b None = false
in_bucket n b (Some k) = bucket_in k n == b

-- the slot at b is followed by o in its bucket
abbrev pub lead_same : Option ℕ → Option ℕ → List IndexEntry → List IndexEntry
lead_same None o es = es
lead_same (Some b) o es = slice_set es b (record (place_at es b) { same = o })

-- the chain from o has the slots whose numbers belong to the bucket
pub record IsBucket (n b : ℕ) (o : Option ℕ) (es : List IndexEntry) (ns : List (Option ℕ)) (xs : List ℕ) : Type 0 where
  pub linked : Linked es o xs None
  pub once : apart xs ≡ true
  pub holds : (s : ℕ) → has s xs ≡ in_bucket n b (number_at ns s)

-- no two slots have the same number
abbrev pub Single : List (Option ℕ) → Type 0
Single ns = (s t k : ℕ) → number_at ns s ≡ Some k → number_at ns t ≡ Some k → s ≡ t

-- the buckets lead to the slots that have these numbers
pub record IsIndex (hs : List (Option ℕ)) (es : List IndexEntry) (ns : List (Option ℕ)) : Type 0 where
  pub buckets : (b : ℕ) → b < length hs → IsBucket (length hs) b (head_at hs b) es ns (trail (length es) (head_at hs b) es)
  pub agrees : (s k : ℕ) → number_at ns s ≡ Some k → (place_at es s).number ≡ Some k
  pub single : Single ns
  pub headed : (s k : ℕ) → number_at ns s ≡ Some k → 0 < length hs
  pub long : length ns ≡ length es

-- the numbers of the first n slots, and none of the others
abbrev pub masked : ℕ → List (Option ℕ) → List (Option ℕ)
masked n [] = []
masked zero (x ∷ xs) = None ∷ masked zero xs
masked (suc n) (x ∷ xs) = x ∷ masked n xs

-- what an index is read from
pub record Indexing : Type 0 where
  pub heads : List (Option ℕ)
  pub entries : List IndexEntry

-- the changes of an index
pub record IndexSteps : Type 0 where
  pub heads : ListSteps (Option ℕ)
  pub entries : ListSteps IndexEntry

-- a number for each of the two lists
pub record Both : Type 0 where
  pub heads : ℕ
  pub entries : ℕ

-- the numbers of the slots, how many buckets there are, what the index was read from when it was last committed, the capacities that it had then, and how many changes of each list may come without memory
pub record OpenIndex : Type 0 where
  pub now : List (Option ℕ)
  pub width : ℕ
  pub base : Indexing
  pub capacity : Both
  pub room : Both

abbrev pub base_of : Buckets → Indexing
base_of b = record { heads = b.heads.base; entries = b.entries.base }

abbrev pub capacity_of : Buckets → Both
capacity_of b = record { heads = b.heads.capacity; entries = b.entries.capacity }

abbrev pub room_of : Buckets → Both
room_of b = record { heads = b.heads.room; entries = b.entries.room }

abbrev pub nothing_indexed : Indexing
nothing_indexed = record { heads = []; entries = [] }

abbrev pub KeepsIndex : Indexing → Type 0
KeepsIndex i = IsIndex i.heads i.entries (numbers_of i.entries)

abbrev pub AreWithin : Both → Both → Type 0
AreWithin a b = (a.heads ≤ b.heads) × (a.entries ≤ b.entries)

-- so many changes of the heads and so many of the entries
abbrev pub both : ℕ → ℕ → Both
both h e = record { heads = h; entries = e }

-- what is left and what was used are at least what there was
abbrev pub LeavesAll : Both → Both → Both → Type 0
LeavesAll left used was = (was.heads ≤ left.heads + used.heads) × (was.entries ≤ left.entries + used.entries)

-- what the index is read from once the changes are made
abbrev pub indexing_after : IndexSteps → Indexing → Indexing
indexing_after p i = record { heads = list_after p.heads i.heads; entries = list_after p.entries i.entries }

-- the capacities of its lists then
abbrev pub index_room_after : IndexSteps → Both → Both
index_room_after p capacity = record { heads = room_after p.heads capacity.heads; entries = room_after p.entries capacity.entries }

-- the changes can be made without memory, and lead to an index
abbrev pub IndexFits : IndexSteps → Indexing → Both → Type 0
IndexFits p i capacity = ListFits p.heads i.heads capacity.heads × ListFits p.entries i.entries capacity.entries × KeepsIndex (indexing_after p i)
