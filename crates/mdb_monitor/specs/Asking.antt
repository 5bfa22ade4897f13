-- Which watchers ask for a check now.
use Rattle.std.specs.Prelude.{ℕ, ◌==◌, List, [], ◌∷◌, ◌++◌, filter, Bool, true, not, ◌&&◌, if◌then◌else◌}
use Rattle.std.specs.List.{list_any}

-- the watcher's request stands
abbrev pub stands : ℕ → List ℕ → Bool
stands w watchers = list_any (λ v. v == w) watchers

-- a request that stands already stands once
abbrev pub wanted : ℕ → List ℕ → List ℕ
wanted w watchers = if stands w watchers then watchers else watchers ++ (w ∷ [])

-- the watcher's request stands no longer
abbrev pub unwanted : ℕ → List ℕ → List ℕ
unwanted w watchers = filter (λ v. not (v == w)) watchers

-- no watcher stands twice
abbrev pub each_once : List ℕ → Bool
each_once [] = true
each_once (w ∷ watchers) = not (stands w watchers) && each_once watchers
