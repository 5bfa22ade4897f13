-- Parts of a step, one after another.
use Rattle.std.proofs.Common.{ℕ, ◌≡◌, List, [], ◌∷◌, ◌++◌, sym, ◌∙◌, ap, subst, append-nil}
use Rattle.std.proofs.lemmas.List.{append_assoc}
use Rattle.mdb_base.specs.declared.options.Options.{Options}
use Rattle.mdb_events.specs.declared.fact.Fact.{Fact}
use Rattle.mdb_events.specs.declared.fact.Fact.TheVariants.{Sdam, CheckNow, Cancel}
use Rattle.mdb_log.specs.declared.options.PoolOptions.{PoolOptions}
use Rattle.mdb_log.specs.History.{Item, made, with_facts}
use Rattle.mdb_log.specs.Limits.{WithinLimits}
use Rattle.mdb_log.specs.LegalLog.{FirstCome, AllFirstCome}
use Rattle.mdb_log.specs.Beside.{FreshGrant, AllFreshGrants}
use Rattle.mdb_log.specs.Opening.{pool_options}
use Rattle.mdb_pool.specs.Core.{PoolCore}
use Rattle.mdb_pool_rules.specs.Serving.{IsServed}
use Rattle.mdb_pool_rules.specs.Quiet.{IsQuiet}
use Rattle.mdb_driver_rules.specs.Turns.{in_turn}
use Rattle.mdb_driver_pools.specs.Standing.{PoolsStand}
use Rattle.mdb_driver_pools.specs.Telling.{Comes, Makes, Tells}
use Rattle.mdb_driver_pools.proofs.OnePool.SameKnowledge.{same-fit}
use Rattle.mdb_driver_rules.proofs.LeavesAsItIs.{with-append, turn-append}
use Rattle.mdb_driver_rules.proofs.SameHistories.{SameFor, IsCalm, calm}

-- what the pools know the same, they stand for the same
pub same-stand : (o : PoolOptions) (pools : List PoolCore) (h k : List Item) → SameFor h k → PoolsStand o pools h → PoolsStand o pools k
same-stand o pools h k e z = record {
  fit = same-fit o pools h k e z.fit;
  served = λ p. subst (IsServed o) (sym (e.items p)) (z.served p);
  quiet = λ p. subst (IsQuiet o) (sym (e.items p)) (z.quiet p);
  within = λ p. subst (WithinLimits o) (sym (e.items p)) (z.within p);
}

-- grants of facts one after another
pub fair-both : (m : ℕ) (fs gs : List Fact) (k : List Item) → AllFirstCome m k fs → AllFirstCome m (with_facts m fs k) gs → AllFirstCome m k (fs ++ gs)
fair-both m [] gs k a b = b
fair-both m (f ∷ fs) gs k a b = (a.0, fair-both m fs gs (made m f ∷ k) a.1 b)

pub fresh-both : (o : PoolOptions) (m : ℕ) (fs gs : List Fact) (k : List Item) → AllFreshGrants o m k fs → AllFreshGrants o m (with_facts m fs k) gs → AllFreshGrants o m k (fs ++ gs)
fresh-both o m [] gs k a b = b
fresh-both o m (f ∷ fs) gs k a b = (a.0, fresh-both o m fs gs (made m f ∷ k) a.1 b)

pub calm-fair : (m : ℕ) (f : Fact) (k : List Item) → IsCalm f → FirstCome k f
calm-fair m (Sdam e) k c = tt
calm-fair m (CheckNow a) k c = tt
calm-fair m (Cancel a) k c = tt
calm-fair m _ k c = elim c [ ]

pub calm-fresh : (o : PoolOptions) (m : ℕ) (f : Fact) (k : List Item) → IsCalm f → FreshGrant o m k f
calm-fresh o m (Sdam e) k c = tt
calm-fresh o m (CheckNow a) k c = tt
calm-fresh o m (Cancel a) k c = tt
calm-fresh o m _ k c = elim c [ ]

module _ (o : Options) (m : ℕ) where
  -- facts after others
  pub comes-more : (fs gs : List Fact) (middle later : List PoolCore) (before between after : List Fact) (k : List Item)
      → Comes o m fs middle before between k → Comes o m gs later between after (with_facts m fs k) → Comes o m (fs ++ gs) later before after k
  comes-more fs gs middle later before between after k a b = record {
    added = b.added ∙ (ap (λ xs. xs ++ gs) a.added ∙ append_assoc before fs gs);
    stand = subst (PoolsStand (pool_options o) later) (sym (with-append m fs gs k)) b.stand;
    fair = fair-both m fs gs k a.fair b.fair;
    fresh = fresh-both (pool_options o) m fs gs k a.fresh b.fresh;
  }

  -- the same facts
  pub comes-as : (fs gs : List Fact) (later : List PoolCore) (before after : List Fact) (k : List Item) → gs ≡ fs → Comes o m gs later before after k → Comes o m fs later before after k
  comes-as fs gs later before after k e c = subst (λ xs. Comes o m xs later before after k) e c

  -- no fact
  pub comes-none : (pools : List PoolCore) (before : List Fact) (k : List Item) → PoolsStand (pool_options o) pools k → Comes o m [] pools before before k
  comes-none pools before k z = record { added = sym (append-nil before); stand = z; fair = tt; fresh = tt }

  -- a fact of no pool
  pub comes-calm : (pools : List PoolCore) (before after : List Fact) (f : Fact) (k : List Item) → IsCalm f → after ≡ before ++ f ∷ [] → PoolsStand (pool_options o) pools k → Comes o m (f ∷ []) pools before after k
  comes-calm pools before after f k c e z = record {
    added = e;
    stand = same-stand (pool_options o) pools k (made m f ∷ k) (calm m f k c) z;
    fair = (calm-fair m f k c, tt);
    fresh = (calm-fresh (pool_options o) m f k c, tt);
  }

  -- one part after another
  pub makes-then : (part then : List Item → List Fact) (pools middle later : List PoolCore) (before between after : List Fact)
      → Makes o m part pools middle before between → Makes o m then middle later between after → Makes o m (λ k. part k ++ then (with_facts m (part k) k)) pools later before after
  makes-then part then pools middle later before between after first second k z =
      let a : Comes o m (part k) middle before between k = first k z in
      comes-more (part k) (then (with_facts m (part k) k)) middle later before between after k a (second (with_facts m (part k) k) a.stand)

  pub tells-none : (pools : List PoolCore) (before : List Fact) → Tells o m [] pools pools before before
  tells-none pools before k z = comes-none pools before k z

  -- parts after others
  pub tells-more : (parts more : List (List Item → List Fact)) (pools middle later : List PoolCore) (before between after : List Fact)
      → Tells o m parts pools middle before between → Tells o m more middle later between after → Tells o m (parts ++ more) pools later before after
  tells-more parts more pools middle later before between after first second k z =
      let j : List Item = with_facts m (in_turn m parts k) k in
      let a : Comes o m (in_turn m parts k) middle before between k = first k z in
      let both : Comes o m (in_turn m parts k ++ in_turn m more j) later before after k = comes-more (in_turn m parts k) (in_turn m more j) middle later before between after k a (second j a.stand) in
      comes-as (in_turn m (parts ++ more) k) (in_turn m parts k ++ in_turn m more j) later before after k (sym (turn-append m parts more k)) both

  pub tells-one : (part : List Item → List Fact) (pools later : List PoolCore) (before after : List Fact) → Makes o m part pools later before after → Tells o m (part ∷ []) pools later before after
  tells-one part pools later before after makes k z = comes-as (part k ++ []) (part k) later before after k (sym (append-nil (part k))) (makes k z)

  pub tells-push : (parts : List (List Item → List Fact)) (part : List Item → List Fact) (pools middle later : List PoolCore) (before between after : List Fact)
      → Tells o m parts pools middle before between → Makes o m part middle later between after → Tells o m (parts ++ part ∷ []) pools later before after
  tells-push parts part pools middle later before between after first second =
      tells-more parts (part ∷ []) pools middle later before between after first (tells-one part middle later between after second)
