-- What the facts of one pool leave as it was.
use Rattle.std.proofs.Common.{ℕ, ◌≡◌, ◌≢◌, Bool, true, false, List, [], ◌∷◌, Option, Some, None, refl, sym, ◌∙◌, ap, subst}
use Rattle.std.specs.Prelude.{slice_get}
use Rattle.mdb_events.specs.declared.fact.Fact.{Fact}
use Rattle.mdb_events.specs.declared.fact.Fact.TheVariants.{Opened, Granted}
use Rattle.mdb_log.specs.declared.options.PoolOptions.{PoolOptions}
use Rattle.mdb_log.specs.declared.step.Step.{Step}
use Rattle.mdb_log.specs.declared.reply.Reply.{Reply}
use Rattle.mdb_log.specs.declared.reply.Reply.TheVariants.{Refused}
use Rattle.mdb_pool.specs.Core.{PoolCore}
use Rattle.mdb_log.specs.History.{Item, did, made, PoolItem, of_pool, after_fact, with_facts, has_party}
use Rattle.mdb_log.specs.Legal.{IsNext, AllFirstCome as PoolFirstCome}
use Rattle.mdb_log.specs.Own.{IsOwn, AllOwn, IsAccepted}
use Rattle.mdb_pool.specs.Now.{knows_now}
use Rattle.mdb_pool.proofs.Told.OfQueries.{party-is}
use Rattle.mdb_log.specs.Homes.{homes}
use Rattle.mdb_log.specs.Fresh.{GrantsFresh, AllGrantFresh}
use Rattle.mdb_log.specs.LegalLog.{FirstCome, AllFirstCome, IsFairAnswer}
use Rattle.mdb_log.specs.Beside.{FreshGrant, AllFreshGrants}
use Rattle.mdb_driver_pools.specs.Standing.{PoolsFit}

-- they open no pool
homes-fact : (p m : ℕ) (f : Fact) (xs : List PoolItem) (h : List Item) → IsOwn p xs f → homes (made m f ∷ h) ≡ homes h
homes-fact p m (Opened q b) xs h i = absurd i
homes-fact p m _ xs h i = refl

pub homes-facts : (p m : ℕ) (fs : List Fact) (xs : List PoolItem) (h : List Item) → AllOwn p m xs fs → homes (with_facts m fs h) ≡ homes h
homes-facts p m [] xs h i = refl
homes-facts p m (f ∷ fs) xs h i = homes-facts p m fs (after_fact p m f xs) (made m f ∷ h) i.1 ∙ homes-fact p m f xs h i.0

-- what is fair in the pool is fair among all
fair-fact : (p m : ℕ) (f : Fact) (h : List Item) (fs : List Fact) → PoolFirstCome p m (of_pool p h) (f ∷ fs) → FirstCome h f
fair-fact p m (Granted k q c) h fs i = subst (λ n. IsNext (of_pool n h) k) (sym i.0.0) i.0.1
fair-fact p m _ h fs i = tt

pub fair-facts : (p m : ℕ) (fs : List Fact) (h : List Item) → PoolFirstCome p m (of_pool p h) fs → AllFirstCome m h fs
fair-facts p m [] h i = tt
fair-facts p m (f ∷ fs) h i = (fair-fact p m f h fs i, fair-facts p m fs (made m f ∷ h) i.1)

-- what is fresh in the pool is fresh among all
fresh-fact : (p : ℕ) (o : PoolOptions) (m : ℕ) (f : Fact) (h : List Item) (fs : List Fact) → PoolFirstCome p m (of_pool p h) (f ∷ fs) → GrantsFresh o m (of_pool p h) f → FreshGrant o m h f
fresh-fact p o m (Granted k q c) h fs i j = subst (λ n. GrantsFresh o m (of_pool n h) (Granted k q c)) (sym i.0.0) j
fresh-fact p o m _ h fs i j = tt

pub fresh-facts : (p : ℕ) (o : PoolOptions) (m : ℕ) (fs : List Fact) (h : List Item) → PoolFirstCome p m (of_pool p h) fs → AllGrantFresh p o m (of_pool p h) fs → AllFreshGrants o m h fs
fresh-facts p o m [] h i j = tt
fresh-facts p o m (f ∷ fs) h i j = (fresh-fact p o m f h fs i j.0, fresh-facts p o m fs (made m f ∷ h) i.1 j.1)

pub fair-accepted : (h : List Item) (step : Step) (reply : Reply) (fs : List Fact) → IsAccepted reply → AllFirstCome step.moment (did step reply ∷ h) fs → IsFairAnswer h step reply fs
fair-accepted h step (Refused why) fs i f = absurd i
fair-accepted h step _ fs i f = f

-- two pools know no party in common
pub apart-items : (o : PoolOptions) (pools : List PoolCore) (h : List Item) (z : PoolsFit o pools h) (p q : ℕ) → p ≢ q → (r : ℕ) → has_party (of_pool p h) r ≡ true → has_party (of_pool q h) r ≡ false
apart-items o pools h z p q ne r e = on (slice_get pools p) (slice_get pools q) refl refl
  where
    at_both : (s t : PoolCore) (b : Bool) → slice_get pools p ≡ Some s → slice_get pools q ≡ Some t → knows_now t r ≡ b → has_party (of_pool q h) r ≡ false
    at_both s t true f g k = absurd (ne (z.apart r p q s t f g (sym (party-is s _ (z.each p s f).fits r) ∙ e) k))
    at_both s t false f g k = party-is t _ (z.each q t g).fits r ∙ k

    on : (a b : Option PoolCore) → slice_get pools p ≡ a → slice_get pools q ≡ b → has_party (of_pool q h) r ≡ false
    on None b f g = let k : has_party (of_pool p h) r ≡ false = ap (λ xs. has_party xs r) (z.rest p f) in cc
    on (Some s) None f g = ap (λ xs. has_party xs r) (z.rest q g)
    on (Some s) (Some t) f g = at_both s t (knows_now t r) f g refl
