-- What stands at a place of a list of views, one of which changes.
use Rattle.std.proofs.Common.{◌≡◌, ℕ, zero, suc, ◌+◌, ◌<◌, ◌≢◌, List, [], ◌∷◌, ◌++◌, length, set, sym, ap, ◌∙◌, subst, arith}
use mathlib.Core.Logic.{dite}
use mathlib.Core.Option.{some, some-injective, some-ne-none}
use native.Mathlib.Decide.{ℕ_discrete}
use lib.ListN.{get_elem?}
use Rattle.atomic_table.proofs.Lists.{set_here, set_else, at_longer}
use Rattle.mdb_turns.specs.declared.rule.View.{View}
use Rattle.mdb_turns.specs.Turning.{At}

inside : (vs : List View) (id : ℕ) (v : View) → get_elem? vs id ≡ some v → id < length vs
inside [] id v e = absurd (some-ne-none v (sym e))
inside (x ∷ xs) zero v e = omega arith
inside (x ∷ xs) (suc id) v e = let h = inside xs id v e in omega arith

pub here : (vs : List View) (id : ℕ) (v w : View) → get_elem? vs id ≡ some v → get_elem? (set vs id w) id ≡ some w
here vs id v w at = set_here vs id w (inside vs id v at)

-- what holds of the view at a place holds of the one there after the change
pub stays : (P : View → Type 0) (vs : List View) (id j : ℕ) (v w : View) → get_elem? vs id ≡ some v → (P v → P w) → At P vs j → At P (set vs id w) j
stays P vs id j v w at go t = dite (ℕ_discrete j id)
    (λ same. (w, subst (λ (k : ℕ). get_elem? (set vs id w) k ≡ some w) (sym same) (here vs id v w at), go (subst P (some-injective t.0 v (sym t.1 ∙ (ap (λ (k : ℕ). get_elem? vs k) same ∙ at))) t.2)))
    (λ apart. (t.0, set_else vs id j w apart ∙ t.1, t.2))

pub stays_before : (P : View → Type 0) (vs more : List View) (j : ℕ) → At P vs j → At P (vs ++ more) j
stays_before P vs more j t = (t.0, at_longer vs more j t.0 t.1, t.2)

-- one takes in the other: what held of either holds of both, at its place
module _ (P : View → Type 0) (vs : List View) (id other : ℕ) (v w both spent : View) (at : get_elem? vs id ≡ some v) (at' : get_elem? vs other ≡ some w) (apart : other ≢ id) where
  both_there : get_elem? (set (set vs id both) other spent) id ≡ some both
  both_there = set_else (set vs id both) other id spent (λ e. apart (sym e)) ∙ here vs id v both at

  pub other_joins : (P w → P both) → (j : ℕ) → j ≡ other → At P vs j → At P (set (set vs id both) other spent) id
  other_joins go j same t = (both, both_there, go (subst P (some-injective t.0 w (sym t.1 ∙ (ap (λ (k : ℕ). get_elem? vs k) same ∙ at'))) t.2))

  pub one_joins : (P v → P both) → (j : ℕ) → j ≢ other → At P vs j → At P (set (set vs id both) other spent) j
  one_joins go j not t = let u = stays P vs id j v both at go t in (u.0, set_else (set vs id both) other j spent not ∙ u.1, u.2)
