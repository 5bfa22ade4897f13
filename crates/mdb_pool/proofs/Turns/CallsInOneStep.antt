-- Several calls on one pool in one step: the item of the step's act first, then the facts of each call, then those of the serving.
use Rattle.std.proofs.Common.{ℕ, ◌≡◌, List, ◌++◌, sym, ◌∙◌, ap, subst, append_assoc}
use Rattle.mdb_events.specs.declared.fact.Fact.{Fact}
use Rattle.mdb_pool.specs.Core.{PoolCore}
use Rattle.mdb_log.specs.History.{PoolItem, after_facts}
use Rattle.mdb_pool_rules.specs.Serving.{serving}
use Rattle.mdb_pool.specs.Standing.{Fits, SameHome}
use Rattle.mdb_pool.specs.Acts.Doing.{Serves}
use Rattle.mdb_log.proofs.Later.{after-append}

-- a call made the facts fs, and the state then fits them too
pub record Moves (s t : PoolCore) (m : ℕ) (before after : List Fact) (fs : List Fact) (xs : List PoolItem) : Type 0 where
  pub facts : after ≡ before ++ fs
  pub fits : Fits t (after_facts s.pool m fs xs)

-- one call after another is a call
pub moves-append : (s t u : PoolCore) (m : ℕ) (before middle after : List Fact) (fs gs : List Fact) (xs : List PoolItem) → SameHome s t
    → Moves s t m before middle fs xs → Moves t u m middle after gs (after_facts s.pool m fs xs) → Moves s u m before after (fs ++ gs) xs
moves-append s t u m before middle after fs gs xs home a b = record {
  facts = b.facts ∙ (ap (λ k. k ++ gs) a.facts ∙ append_assoc before fs gs);
  fits = subst (Fits u) (ap (λ p. after_facts p m gs (after_facts s.pool m fs xs)) home.pool ∙ sym (after-append s.pool m fs gs xs)) b.fits;
}

-- the serving is one
pub serving-moves : (s t : PoolCore) (m : ℕ) (before after : List Fact) (xs : List PoolItem) → Serves s t m before after xs → Moves s t m before after (serving s.pool s.address s.options m xs) xs
serving-moves s t m before after xs v = record { facts = v.facts; fits = v.fits }
