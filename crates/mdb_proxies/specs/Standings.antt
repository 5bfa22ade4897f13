-- The standing asks, and what is counted of each.
use Rattle.std.specs.Prelude.{◌≡◌, ℕ, ◌+◌, Bool, not, ◌&&◌, if◌then◌else◌, ◌==◌, List, [], ◌∷◌, map}
use Rattle.mdb_base.specs.Equality.{same_address}
use Rattle.mdb_base.specs.declared.address.ServerAddress.{ServerAddress}
use Rattle.mdb_proxies.specs.declared.asked.Standing.{Standing}

-- the standing asks, in the order of the asks
pub record StandingView : Type 0 where
  pub items : List Standing

abbrev pub standing_at : ℕ → ServerAddress → Standing → Bool
standing_at t a o = (o.tenant == t) && same_address o.address a

abbrev pub charged_at : ℕ → ServerAddress → Standing → Bool
charged_at t a o = standing_at t a o && not o.held

abbrev pub held_at : ℕ → ServerAddress → Standing → Bool
held_at t a o = standing_at t a o && o.held

-- the charge, by the standing asks
abbrev pub charge_in : List Standing → ℕ → ServerAddress → ℕ
charge_in [] t a = 0
charge_in (o ∷ os) t a = if charged_at t a o then 1 + charge_in os t a else charge_in os t a

-- the charge of the tenant of an ask at its address
abbrev pub charge_of : List Standing → Standing → ℕ
charge_of os o = charge_in os o.tenant o.address

-- each count is the charge of the tenant of its ask at that address
abbrev pub AreCounted : List Standing → List ℕ → Type 0
AreCounted os cs = cs ≡ map (charge_of os) os

-- the counts, where the charge of the tenant at the address is this now
abbrev pub recounted : ℕ → ServerAddress → ℕ → List Standing → List ℕ → List ℕ
recounted t a n [] cs = cs
recounted t a n (o ∷ os) [] = []
recounted t a n (o ∷ os) (c ∷ cs) = (if standing_at t a o then n else c) ∷ recounted t a n os cs
