-- What stands in a table.
use Rattle.std.specs.Prelude.{ℕ, Bool, ◌&&◌, ◌==◌, unwrap_or}
use Rattle.std.specs.Ordering.{nat_cmp, ordering_then}
use Rattle.std.specs.BTreeMap.{get}
use Rattle.mdb_tallies.specs.declared.default_map.DefaultMap.{DefaultMap}

-- the two keys are the same
abbrev pub same_key : ℕ → ℕ → ℕ → ℕ → ℕ → ℕ → Bool
same_key a b c x y z = ((a == x) && (b == y)) && (c == z)

-- the value at a key; keys are in the order of their first numbers, then of the second, then of the third
abbrev pub at : {V : Type 0} → DefaultMap V → ℕ → ℕ → ℕ → V
at t a b c = unwrap_or (get (λ x y. ordering_then (ordering_then (nat_cmp x.0 y.0) (nat_cmp x.1 y.1)) (nat_cmp x.2 y.2)) t.map (a, b, c)) t.none
