-- The place that is found for an act is that of the pool that the act concerns.
use Rattle.std.proofs.Common.{ℕ, ◌≡◌, ◌≢◌, ◌<◌, ◌==◌, Bool, true, false, List, length, Option, Some, None, is_some, refl, sym, ◌∙◌, ap, subst, arith}
use Rattle.std.specs.Prelude.{find, slice_get, position}
use Rattle.mdb_base.specs.declared.address.ServerAddress.{ServerAddress}
use Rattle.mdb_log.specs.declared.options.PoolOptions.{PoolOptions}
use Rattle.mdb_log.specs.declared.step.Act.{Act}
use Rattle.mdb_log.specs.declared.step.Act.TheVariants as Do
use Rattle.mdb_log.specs.History.{Item, of_pool, open_pool, has_asked, is_number}
use Rattle.mdb_log.specs.Connections.{holding}
use Rattle.mdb_log.specs.Requests.{is_claimed}
use Rattle.mdb_log.specs.Homes.{has_job, homes}
use Rattle.mdb_log.proofs.Numbers.{same-number}
use Rattle.mdb_log.proofs.Frame.{other-number}
use Rattle.mdb_pool.specs.Core.{PoolCore}
use Rattle.mdb_pool.specs.Now.{asked_now, claimed_now, has_job_now, holds_now, is_open_now, is_spent}
use Rattle.mdb_pool.specs.Standing.{Fits}
use Rattle.mdb_pool.proofs.Told.OfItems.{job-by}
use Rattle.mdb_pool.proofs.Told.OfQueries.{asked-is, asked-knows, holds-is, open-asked}
use Rattle.mdb_driver_rules.specs.Homes.{concerns, home_of}
use Rattle.mdb_driver_pools.specs.Living.{lives_at}
use Rattle.mdb_driver_pools.specs.Standing.{at_address, home, is_open_at, PoolFits, PoolsFit}
use Rattle.mdb_driver_pools.specs.Finding.{asked_by, holder, numbered, index_of}
use Rattle.mdb_driver_rules.specs.Acts.{is_pool_act}
use Rattle.mdb_driver_rules.proofs.General.OneElement.{at-place, find-at, find-none, position-at, position-none, position-within}
use Rattle.mdb_driver_pools.proofs.InMemory.LivingPools.{lives-within, spent-asked, spent-holder, spent-job, spent-open_at, test-lives}

-- the number of a pool in which something lives is its place
pub numbered-is : (pools : List PoolCore) (q i : ℕ) → numbered pools q ≡ Some i → q ≡ i
numbered-is pools q i e = on (lives_at pools q) refl e
  where
    on : (b : Bool) → lives_at pools q ≡ b → numbered pools q ≡ Some i → q ≡ i
    on true f e = let k : Some q ≡ Some i = sym (rw f refl) ∙ e in cc
    on false f e = let k : ◌≡◌ {A = Option ℕ} None (Some i) = sym (rw f refl) ∙ e in cc

pub numbered-gone : (pools : List PoolCore) (q : ℕ) → numbered pools q ≡ None → lives_at pools q ≡ false
numbered-gone pools q e = on (lives_at pools q) refl e
  where
    on : (b : Bool) → lives_at pools q ≡ b → numbered pools q ≡ None → lives_at pools q ≡ false
    on true f e = let k : ◌≡◌ {A = Option ℕ} (Some q) None = sym (rw f refl) ∙ e in cc
    on false f e = f

numbered-lives : (pools : List PoolCore) (q i : ℕ) → numbered pools q ≡ Some i → lives_at pools i ≡ true
numbered-lives pools q i e = on (lives_at pools q) refl e
  where
    on : (b : Bool) → lives_at pools q ≡ b → numbered pools q ≡ Some i → lives_at pools i ≡ true
    on true f e = let k : Some q ≡ Some i = sym (rw f refl) ∙ e in let w : q ≡ i = cc in subst (λ j. lives_at pools j ≡ true) w f
    on false f e = let k : ◌≡◌ {A = Option ℕ} None (Some i) = sym (rw f refl) ∙ e in cc

searched-lives : (test : PoolCore → Bool) → ((s : PoolCore) → is_spent s ≡ true → test s ≡ false) → (pools : List PoolCore) (i : ℕ) → position test pools ≡ Some i → lives_at pools i ≡ true
searched-lives test fails pools i e = on (slice_get pools i) refl
  where
    on : (o : Option PoolCore) → slice_get pools i ≡ o → lives_at pools i ≡ true
    on None g = absurd (at-place pools i (position-within test pools i e) g)
    on (Some s) g = test-lives test fails pools i s e g

pub open-lives : (pools : List PoolCore) (a : ServerAddress) (i : ℕ) → at_address pools a ≡ Some i → lives_at pools i ≡ true
open-lives pools a i e = searched-lives (is_open_at a) (spent-open_at a) pools i e

pub holder-lives : (pools : List PoolCore) (r i : ℕ) → holder pools r ≡ Some i → lives_at pools i ≡ true
holder-lives pools r i e = searched-lives (λ s. holds_now s r) (spent-holder r) pools i e

-- something lives in the pool at the place
pub place-lives : (pools : List PoolCore) (act : Act) (i : ℕ) → index_of pools act ≡ Some i → lives_at pools i ≡ true
place-lives pools (Do.Request r a) i e = open-lives pools a i e
place-lives pools (Do.Warm r a) i e = open-lives pools a i e
place-lives pools (Do.Maintain a) i e = open-lives pools a i e
place-lives pools (Do.Expire a) i e = open-lives pools a i e
place-lives pools (Do.Collect r) i e = searched-lives (λ s. is_open_now s r) (spent-asked r) pools i e
place-lives pools (Do.GiveUp r) i e = searched-lives (λ s. is_open_now s r) (spent-asked r) pools i e
place-lives pools Do.Claim i e = searched-lives (λ s. has_job_now s) spent-job pools i e
place-lives pools (Do.Established q c how) i e = numbered-lives pools q i e
place-lives pools (Do.Return r used) i e = holder-lives pools r i e
place-lives pools (Do.Pin r) i e = holder-lives pools r i e
place-lives pools (Do.Replicate q c) i e = numbered-lives pools q i e
place-lives pools (Do.Take r q c) i e = numbered-lives pools q i e
place-lives pools (Do.Unpin q c) i e = numbered-lives pools q i e
place-lives pools _ i e = cc

-- so there is one
pub place-within : (pools : List PoolCore) (act : Act) (i : ℕ) → index_of pools act ≡ Some i → i < length pools
place-within pools act i e = lives-within pools i (place-lives pools act i e)

-- the act neither asks for a request nor names a pool
abbrev pub is_searched : Act → Bool
is_searched (Do.Request r a) = true
is_searched (Do.Warm r a) = true
is_searched (Do.Maintain a) = true
is_searched (Do.Expire a) = true
is_searched Do.Claim = true
is_searched (Do.Return r used) = true
is_searched (Do.Pin r) = true
is_searched _ = false

module _ (o : PoolOptions) (pools : List PoolCore) (h : List Item) (z : PoolsFit o pools h) where
  -- the pool as it knows itself
  pub fits-at : (i : ℕ) (s : PoolCore) → slice_get pools i ≡ Some s → Fits s (of_pool s.pool h)
  fits-at i s at_i = let d : PoolFits o h i s = z.each i s at_i in subst (λ p. Fits s (of_pool p h)) (sym d.number) d.fits

  pub number-at : (i : ℕ) (s : PoolCore) → slice_get pools i ≡ Some s → s.pool ≡ i
  number-at i s at_i = (z.each i s at_i).number

  -- what the history says of an act, by what the pool keeps
  pub asked-at : (r i : ℕ) (s : PoolCore) → slice_get pools i ≡ Some s → has_asked (of_pool s.pool h) r ≡ asked_now s r
  asked-at r i s at_i = asked-is s (of_pool s.pool h) (fits-at i s at_i) r

  pub holds-at : (r i : ℕ) (s : PoolCore) → slice_get pools i ≡ Some s → is_some (holding (of_pool s.pool h) r) ≡ holds_now s r
  holds-at r i s at_i = holds-is s (of_pool s.pool h) (fits-at i s at_i) r

  pub job-at : (i : ℕ) (s : PoolCore) → slice_get pools i ≡ Some s → has_job h s.pool ≡ has_job_now s
  job-at i s at_i =
      let p : ℕ = s.pool in
      let claims : (c : ℕ) → is_claimed h p c ≡ claimed_now s c = λ c. ap (λ q. is_claimed h q c) (number-at i s at_i) ∙ z.claims i s c at_i in
      sym (job-by s (of_pool p h) (fits-at i s at_i) (is_claimed h p) claims)

  -- The test of a number passes for the pool at the place, and for none before it.
  abbrev IsFirst : (ℕ → Bool) → ℕ → PoolCore → Type 0
  IsFirst test i s = (test s.pool ≡ true) × ((j : ℕ) (x : PoolCore) → slice_get pools j ≡ Some x → j < i → test x.pool ≡ false)

  by-number : (q i : ℕ) (s : PoolCore) → slice_get pools i ≡ Some s → q ≡ i → IsFirst (λ p. q == p) i s
  by-number q i s at_i e =
      let here : (q == s.pool) ≡ true = rw (e, number-at i s at_i) (same-number i) in
      (here, λ j x f l. (let ne : q ≢ x.pool = λ k. (let n : x.pool ≡ j = number-at j x f in omega arith) in other-number q x.pool ne))

  by-address : (a : ServerAddress) (i : ℕ) (s : PoolCore) → slice_get pools i ≡ Some s → open_pool h a ≡ Some i → IsFirst (λ p. is_number (open_pool h a) p) i s
  by-address a i s at_i e =
      let k : IsFirst (λ p. i == p) i s = by-number i i s at_i refl in
      (ap (λ x. is_number x s.pool) e ∙ k.0, λ j x f l. ap (λ y. is_number y x.pool) e ∙ k.1 j x f l)

  by-test : (f : PoolCore → Bool) (test : ℕ → Bool) → ((j : ℕ) (x : PoolCore) → slice_get pools j ≡ Some x → test x.pool ≡ f x) → (i : ℕ) (s : PoolCore) → slice_get pools i ≡ Some s → position f pools ≡ Some i → IsFirst test i s
  by-test f test same i s at_i e =
      let k : (f s ≡ true) × ((j : ℕ) (x : PoolCore) → slice_get pools j ≡ Some x → j < i → f x ≡ false) = position-at f pools i s e at_i in
      (same i s at_i ∙ k.0, λ j x g l. same j x g ∙ k.1 j x g l)

  -- a request is open in one pool, and no other was asked by it
  by-open : (r i : ℕ) (s : PoolCore) → slice_get pools i ≡ Some s → asked_by pools r ≡ Some i → IsFirst (λ p. has_asked (of_pool p h) r) i s
  by-open r i s at_i e = (asked-at r i s at_i ∙ asked, λ j x f l. asked-at r j x f ∙ no-other j x f l (asked_now x r) refl)
    where
      asked : asked_now s r ≡ true
      asked = open-asked s r (position-at (λ x. is_open_now x r) pools i s e at_i).0

      no-other : (j : ℕ) (x : PoolCore) → slice_get pools j ≡ Some x → j < i → (b : Bool) → asked_now x r ≡ b → b ≡ false
      no-other j x f l false g = refl
      no-other j x f l true g = let same : j ≡ i = z.apart r j i x s f at_i (asked-knows x r g) (asked-knows s r asked) in absurd (omega arith)

  first-concerned : (act : Act) → is_pool_act act ≡ true → (i : ℕ) (s : PoolCore) → slice_get pools i ≡ Some s → index_of pools act ≡ Some i → IsFirst (concerns h act) i s
  first-concerned (Do.Request r a) k i s at_i e = by-address a i s at_i (z.open_are a ∙ e)
  first-concerned (Do.Warm r a) k i s at_i e = by-address a i s at_i (z.open_are a ∙ e)
  first-concerned (Do.Maintain a) k i s at_i e = by-address a i s at_i (z.open_are a ∙ e)
  first-concerned (Do.Expire a) k i s at_i e = by-address a i s at_i (z.open_are a ∙ e)
  first-concerned (Do.Collect r) k i s at_i e = by-open r i s at_i e
  first-concerned (Do.GiveUp r) k i s at_i e = by-open r i s at_i e
  first-concerned Do.Claim k i s at_i e = by-test (λ x. has_job_now x) (concerns h Do.Claim) job-at i s at_i e
  first-concerned (Do.Established q c how) k i s at_i e = by-number q i s at_i (numbered-is pools q i e)
  first-concerned (Do.Return r used) k i s at_i e = by-test (λ x. holds_now x r) (concerns h (Do.Return r used)) (λ j x f. holds-at r j x f) i s at_i e
  first-concerned (Do.Pin r) k i s at_i e = by-test (λ x. holds_now x r) (concerns h (Do.Pin r)) (λ j x f. holds-at r j x f) i s at_i e
  first-concerned (Do.Replicate q c) k i s at_i e = by-number q i s at_i (numbered-is pools q i e)
  first-concerned (Do.Take r q c) k i s at_i e = by-number q i s at_i (numbered-is pools q i e)
  first-concerned (Do.Unpin q c) k i s at_i e = by-number q i s at_i (numbered-is pools q i e)
  first-concerned _ k i s at_i e = cc

  -- The number of no pool passes the test.
  abbrev IsNone : (ℕ → Bool) → Type 0
  IsNone test = (j : ℕ) (x : PoolCore) → slice_get pools j ≡ Some x → test x.pool ≡ false

  no-test : (f : PoolCore → Bool) (test : ℕ → Bool) → ((j : ℕ) (x : PoolCore) → slice_get pools j ≡ Some x → test x.pool ≡ f x) → position f pools ≡ None → IsNone test
  no-test f test same e j x g = same j x g ∙ position-none f pools e j x g

  none-concerned : (act : Act) → index_of pools act ≡ None → is_searched act ≡ true → IsNone (concerns h act)
  none-concerned (Do.Request r a) e k j x f = ap (λ y. is_number y x.pool) (z.open_are a ∙ e)
  none-concerned (Do.Warm r a) e k j x f = ap (λ y. is_number y x.pool) (z.open_are a ∙ e)
  none-concerned (Do.Maintain a) e k j x f = ap (λ y. is_number y x.pool) (z.open_are a ∙ e)
  none-concerned (Do.Expire a) e k j x f = ap (λ y. is_number y x.pool) (z.open_are a ∙ e)
  none-concerned Do.Claim e k j y g = no-test (λ x. has_job_now x) (concerns h Do.Claim) job-at e j y g
  none-concerned (Do.Return r used) e k j y g = no-test (λ x. holds_now x r) (concerns h (Do.Return r used)) (λ j x f. holds-at r j x f) e j y g
  none-concerned (Do.Pin r) e k j y g = no-test (λ x. holds_now x r) (concerns h (Do.Pin r)) (λ j x f. holds-at r j x f) e j y g
  none-concerned _ e k j y g = cc

  -- the pool with the number
  pub placed-by-number : (q i : ℕ) (s : PoolCore) → slice_get pools i ≡ Some s → q ≡ i → find (λ x. q == x.number) (homes h) ≡ Some (home s)
  placed-by-number q i s at_i e = let w : IsFirst (λ p. q == p) i s = by-number q i s at_i e in rw z.homes_are (find-at home (λ x. q == x.number) pools i s at_i w.0 w.1)

  pub home-placed : (act : Act) → is_pool_act act ≡ true → (i : ℕ) (s : PoolCore) → slice_get pools i ≡ Some s → index_of pools act ≡ Some i → home_of h act ≡ Some (home s)
  home-placed act k i s at_i e =
      let w : IsFirst (concerns h act) i s = first-concerned act k i s at_i e in
      rw z.homes_are (find-at home (λ x. concerns h act x.number) pools i s at_i w.0 w.1)

  pub home-missing : (act : Act) → is_searched act ≡ true → index_of pools act ≡ None → home_of h act ≡ None
  home-missing act k e = rw z.homes_are (find-none home (λ x. concerns h act x.number) pools (none-concerned act e k))
