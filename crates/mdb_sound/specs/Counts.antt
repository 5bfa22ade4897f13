-- How often something was done: to a connection, and to a request.
use Rattle.std.specs.Prelude.{ℕ, ◌+◌, Bool, false, not, ◌||◌, ◌==◌, if◌then◌else◌, List, [], ◌∷◌, ◌++◌, filter}
use Rattle.mdb_log.specs.History.{PoolItem, asked, warmed, established, failed, replicated, taken, unpinned, created, closed, checked_in, granted, ended}
use Rattle.mdb_log.specs.Connections.{one_if}
use Rattle.mdb_log.specs.Requests.{requests, is_warm}

-- how often the connection was created
abbrev pub creations : List PoolItem → ℕ → ℕ
creations [] c = 0
creations (created d m ∷ xs) c = creations xs c + one_if (d == c)
creations (_ ∷ xs) c = creations xs c

-- how often it was closed
abbrev pub closings : List PoolItem → ℕ → ℕ
closings [] c = 0
closings (closed d ∷ xs) c = closings xs c + one_if (d == c)
closings (_ ∷ xs) c = closings xs c

-- how often it was established
abbrev pub establishings : List PoolItem → ℕ → ℕ
establishings [] c = 0
establishings (established d how m ∷ xs) c = establishings xs c + one_if (d == c)
establishings (_ ∷ xs) c = establishings xs c

-- how often it could not be established
abbrev pub failures : List PoolItem → ℕ → ℕ
failures [] c = 0
failures (failed d service ∷ xs) c = failures xs c + one_if (d == c)
failures (_ ∷ xs) c = failures xs c

-- how often the request was made
abbrev pub askings : List PoolItem → ℕ → ℕ
askings [] r = 0
askings (asked q m ∷ xs) r = askings xs r + one_if (q == r)
askings (warmed q m ∷ xs) r = askings xs r + one_if (q == r)
askings (_ ∷ xs) r = askings xs r

-- how often it was granted a connection
abbrev pub grantings : List PoolItem → ℕ → ℕ
grantings [] r = 0
grantings (granted q c ∷ xs) r = grantings xs r + one_if (q == r)
grantings (_ ∷ xs) r = grantings xs r

-- how often it ended
abbrev pub endings : List PoolItem → ℕ → ℕ
endings [] r = 0
endings (ended q end ∷ xs) r = endings xs r + one_if (q == r)
endings (_ ∷ xs) r = endings xs r

-- the item names the connection
abbrev pub names : PoolItem → ℕ → Bool
names (established d how m) c = d == c
names (failed d service) c = d == c
names (replicated d) c = d == c
names (taken r d) c = d == c
names (unpinned d) c = d == c
names (created d m) c = d == c
names (closed d) c = d == c
names (checked_in d m) c = d == c
names (granted r d) c = d == c
names _ c = false

-- the item creates the connection
abbrev pub creates : PoolItem → ℕ → Bool
creates (created d m) c = d == c
creates _ c = false

-- the request was granted a connection
abbrev pub was_granted : List PoolItem → ℕ → Bool
was_granted [] r = false
was_granted (granted q c ∷ xs) r = (q == r) || was_granted xs r
was_granted (_ ∷ xs) r = was_granted xs r

-- the callers, in the order of their requests
abbrev pub callers : List PoolItem → List ℕ
callers xs = filter (λ r. not (is_warm xs r)) (requests xs)

-- the callers that were granted a connection, in the order of their grants
abbrev pub served : List PoolItem → List ℕ
served [] = []
served (granted r c ∷ xs) = if is_warm xs r then served xs else (served xs ++ r ∷ [])
served (_ ∷ xs) = served xs
