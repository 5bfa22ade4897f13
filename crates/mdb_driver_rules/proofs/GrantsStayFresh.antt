-- Grants after items that say alike are as fresh, and a clear grants nothing.
use Rattle.std.proofs.Common.{ℕ, ◌≡◌, if◌then◌else◌, List, [], ◌∷◌, ◌++◌, Option, Some, None, refl, sym, ◌∙◌, ap}
use Rattle.mdb_base.specs.declared.object_id.ObjectId.{ObjectId}
use Rattle.mdb_events.specs.declared.fact.Fact.{Fact}
use Rattle.mdb_events.specs.declared.fact.Fact.TheVariants.{Granted}
use Rattle.mdb_log.specs.declared.options.PoolOptions.{PoolOptions}
use Rattle.mdb_log.specs.History.{PoolItem, after_fact, after_facts}
use Rattle.mdb_log.specs.Connections.{has, service_of}
use Rattle.mdb_log.specs.State.{is_stale, is_idle}
use Rattle.mdb_log.specs.Fresh.{GrantsFresh, AllGrantFresh}
use Rattle.mdb_pool_rules.proofs.SameAnswers.Queries.{Alike}
use Rattle.mdb_pool_rules.proofs.SameAnswers.FactsOf.{alike-fact}
use Rattle.mdb_pool_rules.proofs.SameAnswers.FailureAndClear.{IsOfClear, AreOfClear}

module _ (p : ℕ) (o : PoolOptions) (m : ℕ) where
  module _ (xs ys : List PoolItem) (k : Alike xs ys) where
    stale-alike : (c : ℕ) → is_stale o xs c ≡ is_stale o ys c
    stale-alike c =
        let s : Option ObjectId = if o.load_balanced then service_of ys c else None in
        rw (k.service_of c, k.generation_before c s, k.generation_of s) refl

    idle-alike : (c : ℕ) → is_idle o m xs c ≡ is_idle o m ys c
    idle-alike c = on o.max_idle_time refl
      where
        on : (l : Option ℕ) → o.max_idle_time ≡ l → is_idle o m xs c ≡ is_idle o m ys c
        on None e = rw e refl
        on (Some limit) e = rw (e, k.since c) refl

    grants-alike : (f : Fact) → GrantsFresh o m xs f → GrantsFresh o m ys f
    grants-alike (Granted r q c) b = λ e.
        let fresh = b (ap (has c) k.available_list ∙ e) in
        record { current = sym (stale-alike c) ∙ fresh.current; recent = sym (idle-alike c) ∙ fresh.recent }
    grants-alike _ b = tt

  pub all-fresh-alike : (fs : List Fact) (xs ys : List PoolItem) → Alike xs ys → AllGrantFresh p o m xs fs → AllGrantFresh p o m ys fs
  all-fresh-alike [] xs ys k b = tt
  all-fresh-alike (f ∷ fs) xs ys k b = (grants-alike xs ys k f b.0, all-fresh-alike fs (after_fact p m f xs) (after_fact p m f ys) (alike-fact p m f xs ys k) b.1)

  clear-grants : (f : Fact) (xs : List PoolItem) → IsOfClear f → GrantsFresh o m xs f
  clear-grants (Granted r q c) xs i = absurd i
  clear-grants _ xs i = tt

  pub clears-fresh : (fs : List Fact) (xs : List PoolItem) → AreOfClear fs → AllGrantFresh p o m xs fs
  clears-fresh [] xs i = tt
  clears-fresh (f ∷ fs) xs i = (clear-grants f xs i.0, clears-fresh fs (after_fact p m f xs) i.1)

  pub fresh-both : (fs gs : List Fact) (xs : List PoolItem) → AllGrantFresh p o m xs fs → AllGrantFresh p o m (after_facts p m fs xs) gs → AllGrantFresh p o m xs (fs ++ gs)
  fresh-both [] gs xs b d = d
  fresh-both (f ∷ fs) gs xs b d = (b.0, fresh-both fs gs (after_fact p m f xs) b.1 d)
