use Rattle.std.proofs.Common.{◌≡◌, ℕ, ◌++◌, nat_eq, List, drop}
use Rattle.std.specs.Cmp.Lexicographic.{pointwise}
use Rattle.mdb_describe.specs.Listed.{lower}
use Rattle.mdb_describe.proofs.own_address.behind.Given as goal

abbrev pub invariant-loop-wanted : goal.invariant-loop-wanted
invariant-loop-wanted l = (rest : List ℕ) → pointwise nat_eq (lower l.text) (l.piece ++ rest) ≡ pointwise nat_eq (lower l.left) (drop l.wanted-index l.piece ++ rest)
