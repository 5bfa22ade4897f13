-- What any history, newest item first, says of the connections of a pool.
use Rattle.std.specs.Prelude.{ℕ, ◌+◌, Bool, false, not, ◌&&◌, ◌||◌, ◌==◌, nat_lt, List, [], ◌∷◌, filter, length}
use Rattle.mdb_log.specs.History.{PoolItem, established, failed, created, closed, without}
use Rattle.mdb_log.specs.Connections.{one_if, has, available_list}

-- how many ConnectionCreated facts name the connection, and how many ConnectionClosed
abbrev pub creations : List PoolItem → ℕ → ℕ
creations [] c = 0
creations (created d m ∷ xs) c = creations xs c + one_if (d == c)
creations (_ ∷ xs) c = creations xs c

abbrev pub closings : List PoolItem → ℕ → ℕ
closings [] c = 0
closings (closed d ∷ xs) c = closings xs c + one_if (d == c)
closings (_ ∷ xs) c = closings xs c

-- The connections of a pool: those that a ConnectionCreated fact names, each once.
abbrev pub connections : List PoolItem → List ℕ
connections [] = []
connections (created c m ∷ xs) = c ∷ without c (connections xs)
connections (_ ∷ xs) = connections xs

abbrev pub is_created : List PoolItem → ℕ → Bool
is_created xs c = nat_lt 0 (creations xs c)

abbrev pub is_closed : List PoolItem → ℕ → Bool
is_closed xs c = nat_lt 0 (closings xs c)

-- an established or a failed step names the connection
abbrev pub is_tried : List PoolItem → ℕ → Bool
is_tried [] c = false
is_tried (established d how m ∷ xs) c = (d == c) || is_tried xs c
is_tried (failed d service ∷ xs) c = (d == c) || is_tried xs c
is_tried (_ ∷ xs) c = is_tried xs c

-- Pending: created, named by no established or failed step, and not closed.
abbrev pub is_pending : List PoolItem → ℕ → Bool
is_pending xs c = is_created xs c && (not (is_tried xs c) && not (is_closed xs c))

abbrev pub pending : List PoolItem → ℕ → ℕ
pending xs c = one_if (is_pending xs c)

abbrev pub pending_total : List PoolItem → ℕ
pending_total xs = length (filter (is_pending xs) (connections xs))

-- the closings of the pool's connections; the live ones are their creations without these
abbrev pub closed_total : List PoolItem → ℕ
closed_total xs = sum (connections xs)
  where
    sum : List ℕ → ℕ
    sum [] = 0
    sum (c ∷ cs) = sum cs + closings xs c

-- Available: checked in, or established in the background, and since then neither granted nor closed.
abbrev pub is_available : List PoolItem → ℕ → Bool
is_available xs c = has c (available_list xs)

abbrev pub available : List PoolItem → ℕ → ℕ
available xs c = one_if (is_available xs c)
