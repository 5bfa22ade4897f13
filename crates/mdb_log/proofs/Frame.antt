-- Facts of one pool leave what concerns the others as it was.
use Rattle.std.proofs.Common.{ℕ, ◌≡◌, ◌≢◌, ◌==◌, Bool, true, false, List, [], ◌∷◌, refl, sym, ◌∙◌, ap, arith, not, ◌&&◌, ◌||◌, Option, Some, None, if◌then◌else◌}
use Rattle.mdb_base.specs.declared.address.ServerAddress.{ServerAddress}
use Rattle.mdb_events.specs.declared.fact.Fact.{Fact}
use Rattle.mdb_events.specs.declared.fact.Fact.TheVariants.{Opened, Pool, Granted, Ended, Raised, Sdam, CheckNow, Cancel}
use Rattle.mdb_events.specs.declared.cmap.CmapEvent.TheVariants.{PoolCreated, PoolReady, PoolCleared, PoolClosed, ConnectionCreated, ConnectionReady, ConnectionClosed, ConnectionCheckoutStarted, ConnectionCheckoutFailed, ConnectionCheckedOut, ConnectionCheckedIn}
use Rattle.mdb_log.specs.declared.step.Act.{Act}
use Rattle.mdb_log.specs.History.{Item, made, PoolItem, after_fact, after_facts, with_facts, has_asked, has_taken, has_party, last_moment, open_pool, if_so, is_number}
use Rattle.mdb_log.specs.Requests.{some_act, told, is_claimed}
use Rattle.mdb_log.specs.Own.{IsOwn, AllOwn, is_closing, shuts}

pub other-number : (p q : ℕ) → p ≢ q → (p == q) ≡ false
other-number p q ne = on (p == q) refl
  where
    on : (b : Bool) → (p == q) ≡ b → (p == q) ≡ false
    on true e = let f : p ≡ q = grind arith in absurd (ne f)
    on false e = e

-- facts don't ask, don't step and don't open
pub asked-fact : (p m r : ℕ) (f : Fact) (xs : List PoolItem) → has_asked (after_fact p m f xs) r ≡ has_asked xs r
asked-fact p m r (Opened q a) xs = refl
asked-fact p m r (Pool q (PoolCreated e)) xs = grind arith
asked-fact p m r (Pool q (PoolReady e)) xs = grind arith
asked-fact p m r (Pool q (PoolCleared e)) xs = refl
asked-fact p m r (Pool q (PoolClosed e)) xs = grind arith
asked-fact p m r (Pool q (ConnectionCreated e)) xs = grind arith
asked-fact p m r (Pool q (ConnectionReady e)) xs = refl
asked-fact p m r (Pool q (ConnectionClosed e)) xs = grind arith
asked-fact p m r (Pool q (ConnectionCheckoutStarted e)) xs = refl
asked-fact p m r (Pool q (ConnectionCheckoutFailed e)) xs = refl
asked-fact p m r (Pool q (ConnectionCheckedOut e)) xs = refl
asked-fact p m r (Pool q (ConnectionCheckedIn e)) xs = grind arith
asked-fact p m r (Granted k q c) xs = grind arith
asked-fact p m r (Ended k end) xs = grind arith
asked-fact p m r (Raised q service error) xs = grind arith
asked-fact p m r (Sdam e) xs = refl
asked-fact p m r (CheckNow a) xs = refl
asked-fact p m r (Cancel a) xs = refl

pub asked-facts : (p m r : ℕ) (fs : List Fact) (xs : List PoolItem) → has_asked (after_facts p m fs xs) r ≡ has_asked xs r
asked-facts p m r [] xs = refl
asked-facts p m r (f ∷ fs) xs = asked-facts p m r fs (after_fact p m f xs) ∙ asked-fact p m r f xs

pub taken-fact : (p m r : ℕ) (f : Fact) (xs : List PoolItem) → has_taken (after_fact p m f xs) r ≡ has_taken xs r
taken-fact p m r (Opened q a) xs = refl
taken-fact p m r (Pool q (PoolCreated e)) xs = grind arith
taken-fact p m r (Pool q (PoolReady e)) xs = grind arith
taken-fact p m r (Pool q (PoolCleared e)) xs = refl
taken-fact p m r (Pool q (PoolClosed e)) xs = grind arith
taken-fact p m r (Pool q (ConnectionCreated e)) xs = grind arith
taken-fact p m r (Pool q (ConnectionReady e)) xs = refl
taken-fact p m r (Pool q (ConnectionClosed e)) xs = grind arith
taken-fact p m r (Pool q (ConnectionCheckoutStarted e)) xs = refl
taken-fact p m r (Pool q (ConnectionCheckoutFailed e)) xs = refl
taken-fact p m r (Pool q (ConnectionCheckedOut e)) xs = refl
taken-fact p m r (Pool q (ConnectionCheckedIn e)) xs = grind arith
taken-fact p m r (Granted k q c) xs = grind arith
taken-fact p m r (Ended k end) xs = grind arith
taken-fact p m r (Raised q service error) xs = grind arith
taken-fact p m r (Sdam e) xs = refl
taken-fact p m r (CheckNow a) xs = refl
taken-fact p m r (Cancel a) xs = refl

pub taken-facts : (p m r : ℕ) (fs : List Fact) (xs : List PoolItem) → has_taken (after_facts p m fs xs) r ≡ has_taken xs r
taken-facts p m r [] xs = refl
taken-facts p m r (f ∷ fs) xs = taken-facts p m r fs (after_fact p m f xs) ∙ taken-fact p m r f xs

pub party-facts : (p m r : ℕ) (fs : List Fact) (xs : List PoolItem) → has_party (after_facts p m fs xs) r ≡ has_party xs r
party-facts p m r fs xs = rw (asked-facts p m r fs xs, taken-facts p m r fs xs) refl

pub party-fact : (p m r : ℕ) (f : Fact) (xs : List PoolItem) → has_party (after_fact p m f xs) r ≡ has_party xs r
party-fact p m r f xs = rw (asked-fact p m r f xs, taken-fact p m r f xs) refl

-- whoever asked is a party
pub asked-party : (xs : List PoolItem) (r : ℕ) → has_asked xs r ≡ true → has_party xs r ≡ true
asked-party xs r e = rw e refl

pub no-party-asked : (xs : List PoolItem) (r : ℕ) → has_party xs r ≡ false → has_asked xs r ≡ false
no-party-asked xs r e = on (has_asked xs r) refl
  where
    on : (b : Bool) → has_asked xs r ≡ b → has_asked xs r ≡ false
    on true f = let k : has_party xs r ≡ true = rw f refl in cc
    on false f = f

pub last-facts : (m : ℕ) (fs : List Fact) (h : List Item) → last_moment (with_facts m fs h) ≡ last_moment h
last-facts m [] h = refl
last-facts m (f ∷ fs) h = last-facts m fs (made m f ∷ h)

pub acts-facts : (test : Act → ℕ → Bool) (m r : ℕ) (fs : List Fact) (h : List Item) → some_act test (with_facts m fs h) r ≡ some_act test h r
acts-facts test m r [] h = refl
acts-facts test m r (f ∷ fs) h = acts-facts test m r fs (made m f ∷ h)

pub told-facts : (m r : ℕ) (fs : List Fact) (h : List Item) → told (with_facts m fs h) r ≡ told h r
told-facts m r [] h = refl
told-facts m r (f ∷ fs) h = told-facts m r fs (made m f ∷ h)

pub claimed-facts : (p m c : ℕ) (fs : List Fact) (h : List Item) → is_claimed (with_facts m fs h) p c ≡ is_claimed h p c
claimed-facts p m c [] h = refl
claimed-facts p m c (f ∷ fs) h = claimed-facts p m c fs (made m f ∷ h)

-- a fact of the pool p closes it or leaves the open pools
abbrev unless : Bool → ℕ → Option ℕ → Option ℕ
unless b p o = if b && is_number o p then None else o

open-fact : (p m : ℕ) (f : Fact) (xs : List PoolItem) (h : List Item) (a : ServerAddress) → IsOwn p xs f → open_pool (made m f ∷ h) a ≡ unless (is_closing f) p (open_pool h a)
open-fact p m (Opened q b) xs h a i = absurd i
open-fact p m (Pool q (PoolCreated e)) xs h a i = absurd i
open-fact p m (Pool q (PoolReady e)) xs h a i = refl
open-fact p m (Pool q (PoolCleared e)) xs h a i = refl
open-fact p m (Pool q (PoolClosed e)) xs h a i = rw i refl
open-fact p m (Pool q (ConnectionCreated e)) xs h a i = refl
open-fact p m (Pool q (ConnectionReady e)) xs h a i = refl
open-fact p m (Pool q (ConnectionClosed e)) xs h a i = refl
open-fact p m (Pool q (ConnectionCheckoutStarted e)) xs h a i = refl
open-fact p m (Pool q (ConnectionCheckoutFailed e)) xs h a i = refl
open-fact p m (Pool q (ConnectionCheckedOut e)) xs h a i = refl
open-fact p m (Pool q (ConnectionCheckedIn e)) xs h a i = refl
open-fact p m (Granted k q c) xs h a i = refl
open-fact p m (Ended k end) xs h a i = refl
open-fact p m (Raised q service error) xs h a i = refl
open-fact p m (Sdam e) xs h a i = absurd i
open-fact p m (CheckNow b) xs h a i = absurd i
open-fact p m (Cancel b) xs h a i = absurd i

unless-unless : (b c : Bool) (p : ℕ) (o : Option ℕ) → unless b p (unless c p o) ≡ unless (c || b) p o
unless-unless b false p o = refl
unless-unless true true p None = refl
unless-unless false true p None = refl
unless-unless b true p (Some q) = on b (q == p) refl
  where
    on : (d k : Bool) → (q == p) ≡ k → unless d p (unless true p (Some q)) ≡ unless true p (Some q)
    on true true e = rw e refl
    on true false e = rw (e, e) refl
    on false k e = refl

pub open-facts : (p m : ℕ) (fs : List Fact) (xs : List PoolItem) (h : List Item) (a : ServerAddress) → AllOwn p m xs fs → open_pool (with_facts m fs h) a ≡ unless (shuts fs) p (open_pool h a)
open-facts p m [] xs h a i = refl
open-facts p m (f ∷ fs) xs h a i =
    open-facts p m fs (after_fact p m f xs) (made m f ∷ h) a i.1 ∙ (ap (unless (shuts fs) p) (open-fact p m f xs h a i.0) ∙ unless-unless (shuts fs) (is_closing f) p (open_pool h a))

-- where the pool p was open it is so unless it was shut
pub open-home : (p : ℕ) (here was now b : Bool) (o : Option ℕ) → o ≡ (if here && not was then Some p else None) → now ≡ b || was → unless b p o ≡ (if here && not now then Some p else None)
open-home p true true now true o e f = rw (e, f) refl
open-home p true true now false o e f = rw (e, f) refl
open-home p true false now true o e f = let k : (p == p) ≡ true = grind arith in rw (e, f, k) refl
open-home p true false now false o e f = rw (e, f) refl
open-home p false true now true o e f = rw e refl
open-home p false true now false o e f = rw e refl
open-home p false false now true o e f = rw e refl
open-home p false false now false o e f = rw e refl

-- a fact of the pool p is none of the pool q
module _ (p q m : ℕ) (ne : p ≢ q) where
  skips : (k : ℕ) (x : PoolItem) (xs : List PoolItem) → k ≡ p → if_so (k == q) x xs ≡ xs
  skips k x xs e = rw (e, other-number p q ne) refl

  pub other-fact : (f : Fact) (xs ys : List PoolItem) → ((r : ℕ) → has_party xs r ≡ true → has_party ys r ≡ false) → IsOwn p xs f → after_fact q m f ys ≡ ys
  other-fact (Opened k a) xs ys apart i = refl
  other-fact (Pool k (PoolCreated e)) xs ys apart i = absurd i
  other-fact (Pool k (PoolReady e)) xs ys apart i = skips k _ ys i
  other-fact (Pool k (PoolCleared e)) xs ys apart i = refl
  other-fact (Pool k (PoolClosed e)) xs ys apart i = skips k _ ys i
  other-fact (Pool k (ConnectionCreated e)) xs ys apart i = skips k _ ys i
  other-fact (Pool k (ConnectionReady e)) xs ys apart i = refl
  other-fact (Pool k (ConnectionClosed e)) xs ys apart i = skips k _ ys i
  other-fact (Pool k (ConnectionCheckoutStarted e)) xs ys apart i = refl
  other-fact (Pool k (ConnectionCheckoutFailed e)) xs ys apart i = refl
  other-fact (Pool k (ConnectionCheckedOut e)) xs ys apart i = refl
  other-fact (Pool k (ConnectionCheckedIn e)) xs ys apart i = skips k _ ys i
  other-fact (Granted r k c) xs ys apart i = skips k _ ys i
  other-fact (Ended r end) xs ys apart i = rw (no-party-asked ys r (apart r (asked-party xs r i))) refl
  other-fact (Raised k service error) xs ys apart i = skips k _ ys i
  other-fact (Sdam e) xs ys apart i = refl
  other-fact (CheckNow a) xs ys apart i = refl
  other-fact (Cancel a) xs ys apart i = refl

  pub other-facts : (fs : List Fact) (xs ys : List PoolItem) → ((r : ℕ) → has_party xs r ≡ true → has_party ys r ≡ false) → AllOwn p m xs fs → after_facts q m fs ys ≡ ys
  other-facts [] xs ys apart i = refl
  other-facts (f ∷ fs) xs ys apart i =
      ap (after_facts q m fs) (other-fact f xs ys apart i.0) ∙
      other-facts fs (after_fact p m f xs) ys (λ r e. apart r (sym (party-fact p m r f xs) ∙ e)) i.1
