-- Which pool is open at an address after facts, by what they say of whole pools.
use Rattle.std.proofs.Common.{ℕ, ◌≡◌, ◌==◌, ◌&&◌, Bool, true, false, not, if◌then◌else◌, List, [], ◌∷◌, ◌++◌, Option, Some, None, refl, sym, ◌∙◌, ap}
use Rattle.std.specs.Prelude.{flat_map}
use Rattle.mdb_base.specs.Equality.{same_address}
use Rattle.mdb_base.specs.declared.address.ServerAddress.{ServerAddress}
use Rattle.mdb_base.specs.declared.options.Options.{Options}
use Rattle.mdb_describe.specs.declared.topology.TopologyDescription.{TopologyDescription}
use Rattle.mdb_describe.specs.Servers.{is_listed}
use Rattle.mdb_events.specs.declared.fact.Fact.{Fact}
use Rattle.mdb_events.specs.declared.fact.Fact.TheVariants.{Opened, Pool, Raised}
use Rattle.mdb_events.specs.declared.cmap.CmapEvent.TheVariants.{PoolCreated, PoolReady, PoolCleared, PoolClosed}
use Rattle.mdb_log.specs.History.{Item, made, of_pool, open_pool, is_number, with_facts}
use Rattle.mdb_log.specs.State.{state_of, ready}
use Rattle.mdb_log.specs.Opening.{pool_options}
use Rattle.mdb_describe.proofs.Addresses.{same-address}
use Rattle.mdb_driver_rules.specs.Errors.{Clear, nothing, whole, only, Trouble}
use Rattle.mdb_driver_rules.specs.Touching.{is_ready_at}
use Rattle.mdb_laws.specs.Causes.{Mark, opened, closed, told_cleared, marks_of, readied_at, closed_at, clears}
use Rattle.mdb_laws.proofs.Marks.{own-number}

-- the pool that is open at the address after the marks, where x was before them
abbrev pub open_after : ServerAddress → List Mark → Option ℕ → Option ℕ
open_after a [] x = x
open_after a (opened p b ∷ ms) x = open_after a ms (if same_address b a then Some p else x)
open_after a (closed p b ∷ ms) x = open_after a ms (if is_number x p then None else x)
open_after a (_ ∷ ms) x = open_after a ms x

pub open-marks : (a : ServerAddress) (m : ℕ) (fs : List Fact) (k : List Item) → open_pool (with_facts m fs k) a ≡ open_after a (marks_of fs) (open_pool k a)
open-marks a m [] k = refl
open-marks a m (Opened p b ∷ fs) k = open-marks a m fs (made m (Opened p b) ∷ k)
open-marks a m (Raised p s e ∷ fs) k = open-marks a m fs (made m (Raised p s e) ∷ k)
open-marks a m (Pool p (PoolCreated e) ∷ fs) k = open-marks a m fs (made m (Pool p (PoolCreated e)) ∷ k)
open-marks a m (Pool p (PoolReady e) ∷ fs) k = open-marks a m fs (made m (Pool p (PoolReady e)) ∷ k)
open-marks a m (Pool p (PoolCleared e) ∷ fs) k = open-marks a m fs (made m (Pool p (PoolCleared e)) ∷ k)
open-marks a m (Pool p (PoolClosed e) ∷ fs) k = open-marks a m fs (made m (Pool p (PoolClosed e)) ∷ k)
open-marks a m (Pool p e ∷ fs) k = open-marks a m fs (made m (Pool p e) ∷ k)
open-marks a m (f ∷ fs) k = open-marks a m fs (made m f ∷ k)

pub after-append : (a : ServerAddress) (ms ns : List Mark) (x : Option ℕ) → open_after a (ms ++ ns) x ≡ open_after a ns (open_after a ms x)
after-append a [] ns x = refl
after-append a (opened p b ∷ ms) ns x = after-append a ms ns (if same_address b a then Some p else x)
after-append a (closed p b ∷ ms) ns x = after-append a ms ns (if is_number x p then None else x)
after-append a (mark ∷ ms) ns x = after-append a ms ns x

module _ (o : Options) (h : List Item) (u : TopologyDescription) (a : ServerAddress) where
  -- what becomes ready stays as open as it was
  one-readied : (b : ServerAddress) (q : Option ℕ) (x : Option ℕ) → open_after a (readied_at o h u b q) x ≡ x
  one-readied b None x = refl
  one-readied b (Some q) x = on (is_ready_at u b && not (ready (state_of (pool_options o) (of_pool q h)))) refl
    where
      on : (c : Bool) → is_ready_at u b && not (ready (state_of (pool_options o) (of_pool q h))) ≡ c → open_after a (readied_at o h u b (Some q)) x ≡ x
      on true f = rw f refl
      on false f = rw f refl

  pub all-readied : (xs : List ServerAddress) (x : Option ℕ) → open_after a (flat_map (λ b. readied_at o h u b (open_pool h b)) xs) x ≡ x
  all-readied [] x = refl
  all-readied (b ∷ xs) x =
      after-append a (readied_at o h u b (open_pool h b)) (flat_map (λ c. readied_at o h u c (open_pool h c)) xs) x
      ∙ (ap (open_after a (flat_map (λ c. readied_at o h u c (open_pool h c)) xs)) (one-readied b (open_pool h b) x) ∙ all-readied xs x)

  abbrev C : ServerAddress → List Mark
  C b = closed_at b (open_pool h b)

  -- where none is open none is after closes
  one-none : (b : ServerAddress) (q : Option ℕ) → open_after a (closed_at b q) None ≡ None
  one-none b None = refl
  one-none b (Some q) = refl

  pub closed-none : (xs : List ServerAddress) → open_after a (flat_map C xs) None ≡ None
  closed-none [] = refl
  closed-none (b ∷ xs) = after-append a (C b) (flat_map C xs) None ∙ (ap (open_after a (flat_map C xs)) (one-none b (open_pool h b)) ∙ closed-none xs)

  -- the pool of one of the addresses is closed
  pub closed-one : (p : ℕ) → open_pool h a ≡ Some p → (xs : List ServerAddress) → is_listed xs a ≡ true → open_after a (flat_map C xs) (Some p) ≡ None
  closed-one p there [] e = cc
  closed-one p there (b ∷ xs) e = after-append a (C b) (flat_map C xs) (Some p) ∙ on (same_address b a) (λ g. closed-one p there xs g) refl
    where
      step : (q : Option ℕ) → open_after a (flat_map C xs) (Some p) ≡ None → open_after a (flat_map C xs) (open_after a (closed_at b q) (Some p)) ≡ None
      step None deeper = deeper
      step (Some q) deeper = test (p == q) refl
        where
          test : (c : Bool) → (p == q) ≡ c → open_after a (flat_map C xs) (open_after a (closed_at b (Some q)) (Some p)) ≡ None
          test true f = ap (λ c. open_after a (flat_map C xs) (if c then None else Some p)) f ∙ closed-none xs
          test false f = ap (λ c. open_after a (flat_map C xs) (if c then None else Some p)) f ∙ deeper

      on : (c : Bool) → (is_listed xs a ≡ true → open_after a (flat_map C xs) (Some p) ≡ None) → same_address b a ≡ c → open_after a (flat_map C xs) (open_after a (C b) (Some p)) ≡ None
      on true deeper f =
          let w : open_pool h b ≡ Some p = ap (open_pool h) (same-address b a f) ∙ there in
          ap (λ y. open_after a (flat_map C xs) (open_after a (closed_at b y) (Some p))) w
          ∙ (ap (λ c. open_after a (flat_map C xs) (if c then None else Some p)) (own-number p) ∙ closed-none xs)
      on false deeper f = step (open_pool h b) (deeper (sym (rw f refl) ∙ e))

  -- a clear leaves open what is
  pub cleared-same : (x : Option Trouble) (clear : Clear) (y : Option ℕ) → open_after a (clears o h x clear) y ≡ y
  cleared-same None clear y = refl
  cleared-same (Some x) nothing y = refl
  cleared-same (Some x) whole y = on (ready (state_of (pool_options o) (of_pool x.pool h))) refl
    where
      on : (b : Bool) → ready (state_of (pool_options o) (of_pool x.pool h)) ≡ b → open_after a (clears o h (Some x) whole) y ≡ y
      on true f = ap (λ b. open_after a (if b then (told_cleared x.pool x.address None ∷ []) else []) y) f
      on false f = ap (λ b. open_after a (if b then (told_cleared x.pool x.address None ∷ []) else []) y) f
  cleared-same (Some x) (only s) y = refl
