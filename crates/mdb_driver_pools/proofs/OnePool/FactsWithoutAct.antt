-- A call on one pool: its facts come, and no act.
use Rattle.std.proofs.Common.{ℕ, ◌≡◌, ◌≢◌, ◌||◌, false, List, set, Some, sym, ◌∙◌}
use Rattle.std.specs.Prelude.{slice_get}
use Rattle.mdb_events.specs.declared.fact.Fact.{Fact}
use Rattle.mdb_log.specs.declared.options.PoolOptions.{PoolOptions}
use Rattle.mdb_pool.specs.Core.{PoolCore}
use Rattle.mdb_log.specs.History.{Item, PoolItem, of_pool, with_facts, after_facts}
use Rattle.mdb_log.specs.Requests.{names_party, was_asked, leaves}
use Rattle.mdb_pool.specs.Now.{claimed_now, is_closed_now, settled_now}
use Rattle.mdb_log.specs.Own.{AllOwn, shuts}
use Rattle.mdb_pool.specs.Standing.{Fits, SameHome}
use Rattle.mdb_log.proofs.Later.{of_pool-with_facts}
use Rattle.mdb_log.proofs.Frame.{party-facts, asked-facts, acts-facts, open-facts, told-facts, claimed-facts, other-facts}
use Rattle.mdb_driver_pools.specs.Standing.{PoolsFit}
use Rattle.mdb_driver_pools.proofs.OnePool.FactsLeaveOthers.{homes-facts, apart-items}
use Rattle.mdb_driver_pools.proofs.OnePool.OthersStay.{Moved, moved}

-- what a call says: its facts are of the pool alone, which fits them; what was told and claimed stays
pub record Calls (s t : PoolCore) (m : ℕ) (fs : List Fact) (xs : List PoolItem) : Type 0 where
  pub same : SameHome s t
  pub own : AllOwn s.pool m xs fs
  pub fits : Fits t (after_facts s.pool m fs xs)
  pub shut : is_closed_now t ≡ shuts fs || is_closed_now s
  pub settled : (r : ℕ) → settled_now t r ≡ settled_now s r
  pub claimed : (c : ℕ) → claimed_now t c ≡ claimed_now s c

module _ (o : PoolOptions) (pools : List PoolCore) (h : List Item) (z : PoolsFit o pools h) (i : ℕ) (s t : PoolCore) (at_i : slice_get pools i ≡ Some s)
    (m : ℕ) (fs : List Fact) (v : Calls s t m fs (of_pool s.pool h)) where
  abbrev k : List Item
  k = with_facts m fs h

  pub there : (q : ℕ) → s.pool ≢ q → of_pool q k ≡ of_pool q h
  there q ne = of_pool-with_facts q m fs h ∙ other-facts s.pool q m ne fs (of_pool s.pool h) (of_pool q h) (λ r e. apart-items o pools h z s.pool q ne r e) v.own

  moves : Moved pools h s t k (after_facts s.pool m fs (of_pool s.pool h)) (λ r. false) (λ r. false) (λ r. false) (shuts fs)
  moves = record {
    same = v.same;
    fits = v.fits;
    here = of_pool-with_facts s.pool m fs h;
    there = there;
    homes_k = homes-facts s.pool m fs (of_pool s.pool h) h v.own;
    open_k = λ a. open-facts s.pool m fs (of_pool s.pool h) h a v.own;
    status = v.shut;
    names = λ r. acts-facts names_party m r fs h;
    requested = λ r. acts-facts was_asked m r fs h;
    parties = λ r. party-facts s.pool m r fs (of_pool s.pool h);
    asks = λ r. asked-facts s.pool m r fs (of_pool s.pool h);
    fresh = λ r e. cc;
    opens = λ b e r. rw (told-facts m r fs h, acts-facts leaves m r fs h) (e r);
    settles = v.settled;
    known = λ r e. cc;
    claims = λ c e. claimed-facts s.pool m c fs h ∙ (e ∙ sym (v.claimed c));
    unclaimed = λ q c ne. claimed-facts q m c fs h;
  }

  pub call-fits : PoolsFit o (set pools i t) k
  call-fits = moved o pools h z i s t at_i k (after_facts s.pool m fs (of_pool s.pool h)) (λ r. false) (λ r. false) (λ r. false) (shuts fs) moves
