-- A clear between a failure and the close of its connection.
use Rattle.std.proofs.Common.{ℕ, ◌≡◌, ◌≢◌, ◌==◌, Bool, true, false, List, Option, Some, None, refl, sym, subst, arith}
use Rattle.mdb_base.specs.declared.options.Options.{Options}
use Rattle.mdb_events.specs.declared.fact.Fact.{Fact}
use Rattle.mdb_log.specs.History.{Item, PoolItem, of_pool, with_facts}
use Rattle.mdb_log.specs.Opening.{pool_options}
use Rattle.mdb_log.proofs.Later.{of_pool-with_facts}
use Rattle.mdb_pool_rules.specs.Facts.{clear_facts}
use Rattle.mdb_driver_rules.specs.Errors.{Clear, nothing, whole, only, Trouble}
use Rattle.mdb_driver_rules.specs.Facts.{clearing}
use Rattle.mdb_histories.specs.SoundHistory.{SoundHistory}
use Rattle.mdb_histories.proofs.Comes.{own-leave}
use Rattle.mdb_histories.proofs.Failing.{Behind, behind-clear}
use Rattle.mdb_histories.proofs.Owns.{clear-own}
use Rattle.mdb_histories.proofs.PoolSteps.{ComeFine}

-- a clear leaves what is said of a connection that failed
pub behind-clearing : (o : Options) (m : ℕ) (xs : List PoolItem) (c p : ℕ) (j : List Item) → SoundHistory j → (y : Option Trouble) (clear : Clear) → ComeFine m j (clearing o m y clear j) → Behind xs c (of_pool p j) → Behind xs c (of_pool p (with_facts m (clearing o m y clear j) j))
behind-clearing o m xs c p j s None clear come b = b
behind-clearing o m xs c p j s (Some x) nothing come b = b
behind-clearing o m xs c p j s (Some x) whole come b = on (x.pool == p) refl
  where
    fs : List Fact
    fs = clear_facts x.pool x.address (pool_options o) m (of_pool x.pool j) None x.error

    on : (d : Bool) → (x.pool == p) ≡ d → Behind xs c (of_pool p (with_facts m fs j))
    on true e =
        let same : p ≡ x.pool = grind arith in
        subst (λ n. Behind xs c (of_pool n (with_facts m fs j))) (sym same)
        (subst (Behind xs c) (sym (of_pool-with_facts x.pool m fs j)) (behind-clear xs c x.pool x.address (pool_options o) m None x.error (of_pool x.pool j) (subst (λ n. Behind xs c (of_pool n j)) same b)))
    on false e =
        let ne : x.pool ≢ p = grind arith in
        subst (Behind xs c) (sym (own-leave x.pool m fs j s come.come (clear-own x.pool x.address (pool_options o) m (of_pool x.pool j) None x.error) p ne)) b
behind-clearing o m xs c p j s (Some x) (only t) come b = on (x.pool == p) refl
  where
    fs : List Fact
    fs = clear_facts x.pool x.address (pool_options o) m (of_pool x.pool j) (Some t) x.error

    on : (d : Bool) → (x.pool == p) ≡ d → Behind xs c (of_pool p (with_facts m fs j))
    on true e =
        let same : p ≡ x.pool = grind arith in
        subst (λ n. Behind xs c (of_pool n (with_facts m fs j))) (sym same)
        (subst (Behind xs c) (sym (of_pool-with_facts x.pool m fs j)) (behind-clear xs c x.pool x.address (pool_options o) m (Some t) x.error (of_pool x.pool j) (subst (λ n. Behind xs c (of_pool n j)) same b)))
    on false e =
        let ne : x.pool ≢ p = grind arith in
        subst (Behind xs c) (sym (own-leave x.pool m fs j s come.come (clear-own x.pool x.address (pool_options o) m (of_pool x.pool j) (Some t) x.error) p ne)) b
