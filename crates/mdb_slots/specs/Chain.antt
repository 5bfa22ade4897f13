-- A list of numbers that is kept as a chain through the nodes of a vector.
use Rattle.std.specs.Prelude.{◌≡◌, ℕ, zero, suc, ◌<◌, Bool, true, false, Option, Some, None, List, [], ◌∷◌, length, slice_index_or, slice_set}
use Rattle.mdb_slots.specs.declared.node.Node.{Node}
use Rattle.mdb_slots.specs.Lists.{head_or}

abbrev pub node : Option ℕ → Option ℕ → Bool → Node
node b a u = record { before = b; after = a; used = u }

abbrev pub node_at : List Node → ℕ → Node
node_at ns k = slice_index_or ns k (node None None false)

-- the list goes through used nodes, from p before it to q after it
abbrev pub Chain : List Node → Option ℕ → List ℕ → Option ℕ → Type 0
Chain ns p [] q = Unit {0}
Chain ns p (x ∷ xs) q = (x < length ns) × (node_at ns x ≡ node p (head_or q xs) true) × Chain ns (Some x) xs q

-- the list goes through free nodes
abbrev pub Vacant : List Node → List ℕ → Type 0
Vacant ns [] = Unit {0}
Vacant ns (x ∷ xs) = (x < length ns) × (node_at ns x ≡ node None (head_or None xs) false) × Vacant ns xs

-- the first n numbers of the chain that begins at x
abbrev pub walk : ℕ → Option ℕ → List Node → List ℕ
walk zero x ns = []
walk (suc n) None ns = []
walk (suc n) (Some x) ns = x ∷ walk n (node_at ns x).after ns

-- the node at b is followed by a
abbrev pub lead_to : Option ℕ → Option ℕ → List Node → List Node
lead_to None a ns = ns
lead_to (Some b) a ns = slice_set ns b (record (node_at ns b) { after = a })

-- the node at a is preceded by b
abbrev pub lead_back : Option ℕ → Option ℕ → List Node → List Node
lead_back None b ns = ns
lead_back (Some a) b ns = slice_set ns a (record (node_at ns a) { before = b })
