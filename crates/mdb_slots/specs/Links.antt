-- What a caller sees of the order of slots, and what the nodes keep.
use Rattle.std.specs.Prelude.{◌≡◌, ℕ, ◌+◌, ◌^◌, ◌<◌, true, Option, None, Some, List, length}
use Rattle.mdb_slots.specs.declared.node.Node.{Node}
use Rattle.mdb_slots.specs.Lists.{has, apart, head_or, last_or}
use Rattle.mdb_slots.specs.Chain.{node_at, Chain, Vacant, walk}

-- the slots in use, oldest first, and how many more may be used
pub record Order : Type 0 where
  pub used : List ℕ
  pub spare : ℕ

-- the nodes hold the lists of the used and of the free slots
pub record IsLaid (ns : List Node) (first last free : Option ℕ) (len spare : ℕ) (us fs : List ℕ) : Type 0 where
  pub chain : Chain ns None us None
  pub first_is : first ≡ head_or None us
  pub last_is : last ≡ last_or None us
  pub once : apart us ≡ true
  pub len_is : len ≡ length us
  pub vacant : Vacant ns fs
  pub free_is : free ≡ head_or None fs
  pub free_once : apart fs ≡ true
  pub spare_is : spare ≡ length fs
  pub all : length ns ≡ len + spare
  pub cover : (k : ℕ) → (node_at ns k).used ≡ has k us
  pub few : length ns < 2 ^ 32

-- what is kept of the fields: the lists are the walks from their first slots
abbrev pub Keeps : List Node → Option ℕ → Option ℕ → Option ℕ → ℕ → ℕ → Type 0
Keeps ns first last free len spare = IsLaid ns first last free len spare (walk len first ns) (walk spare free ns)

-- a where there is nothing, b elsewhere
abbrev pub where_none : Option ℕ → Option ℕ → Option ℕ → Option ℕ
where_none None a b = a
where_none (Some _) a b = b
