-- Changes of the pools that are made one after another.
use Rattle.std.proofs.Common.{◌≡◌, List, [], ◌∷◌, ◌++◌, refl, ◌∙◌, ap, subst}
use Rattle.mdb_base.specs.declared.address.ServerAddress.{ServerAddress}
use Rattle.mdb_pool.specs.Core.{PoolCore}
use Rattle.mdb_driver_pools.specs.declared.pool_change.PoolChange.{PoolChange}
use Rattle.mdb_driver_pools.specs.declared.pool_change.PoolChange.TheVariants.{Alter, Open}
use Rattle.mdb_driver_pools.specs.Standing.{home}
use Rattle.mdb_driver_pools.specs.Planned.{LeadsAll, Agrees, opened_by}

pub leads-both : (xs ys : List PoolChange) (pools between later : List PoolCore) → LeadsAll xs pools between → LeadsAll ys between later → LeadsAll (xs ++ ys) pools later
leads-both [] ys pools between later first second = subst (λ p. LeadsAll ys p later) first second
leads-both (x ∷ xs) ys pools between later first second = (first.0, first.1, leads-both xs ys first.0 between later first.2 second)

-- where they lead after the first ones
pub record Between (xs ys : List PoolChange) (pools later : List PoolCore) : Type 0 where
  pub at : List PoolCore
  pub first : LeadsAll xs pools at
  pub second : LeadsAll ys at later

pub leads-split : (xs ys : List PoolChange) (pools later : List PoolCore) → LeadsAll (xs ++ ys) pools later → Between xs ys pools later
leads-split [] ys pools later all = record { at = pools; first = refl; second = all }
leads-split (x ∷ xs) ys pools later all =
    let d : Between xs ys all.0 later = leads-split xs ys all.0 later all.2 in
    record { at = d.at; first = (all.0, all.1, d.first); second = d.second }

pub opened-both : (xs ys : List PoolChange) → opened_by (xs ++ ys) ≡ opened_by xs ++ opened_by ys
opened-both [] ys = refl
opened-both (Open core ∷ xs) ys = ap (λ hs. home core ∷ hs) (opened-both xs ys)
opened-both (Alter i plan ∷ xs) ys = opened-both xs ys

-- what stays at an address stays
pub agrees-on : (pools now later : List PoolCore) (a : ServerAddress) → Agrees pools now a → Agrees now later a → Agrees pools later a
agrees-on pools now later a x y = (y.0 ∙ x.0, λ i e. y.1 i (x.0 ∙ e) ∙ x.1 i e)
