-- What a sound history says of the pools that were opened: an open pool was opened and not closed, and nothing is said of a pool before it was opened.
use Rattle.std.proofs.Common.{ℕ, ◌≡◌, ◌==◌, ◌||◌, Bool, true, false, if◌then◌else◌, List, [], ◌∷◌, ◌++◌, Option, Some, None, is_some, refl, sym, ◌∙◌, ap, subst, arith}
use Rattle.std.specs.Prelude.{find}
use Rattle.std.specs.List.{list_any}
use Rattle.mdb_base.specs.Equality.{same_address}
use Rattle.mdb_base.specs.declared.address.ServerAddress.{ServerAddress}
use Rattle.mdb_events.specs.declared.cmap.CmapEvent.TheVariants.{PoolCreated, PoolReady, PoolClosed, ConnectionCreated, ConnectionClosed, ConnectionCheckedIn}
use Rattle.mdb_events.specs.declared.fact.Fact.{Fact}
use Rattle.mdb_events.specs.declared.fact.Fact.TheVariants.{Opened, Pool, Granted, Ended, Raised}
use Rattle.mdb_log.specs.declared.step.Act.{Act}
use Rattle.mdb_log.specs.declared.step.Act.TheVariants as Do
use Rattle.mdb_log.specs.declared.step.FailedAt.TheVariants.{Pre, Post}
use Rattle.mdb_log.specs.History.{Item, did, made, PoolItem, if_so, is_number, of_pool, open_pool, after_act, after_fact, has_asked, has_party, given}
use Rattle.mdb_log.specs.Homes.{Home, homes}
use Rattle.mdb_log.proofs.Numbers.{same-number}
use Rattle.mdb_histories.specs.SoundHistory.{SoundHistory, MayCome, StepNames, FactNames, was_opened}

pub any-push : (p : ℕ) (hs : List Home) (x : Home) → list_any (λ y. y.number == p) (hs ++ x ∷ []) ≡ list_any (λ y. y.number == p) hs || (x.number == p)
any-push p [] x = or-none (x.number == p)
  where
    or-none : (b : Bool) → b || false ≡ b
    or-none true = refl
    or-none false = refl
any-push p (y ∷ hs) x = ap (λ b. (y.number == p) || b) (any-push p hs x) ∙ or-assoc (y.number == p) (list_any (λ y. y.number == p) hs) (x.number == p)
  where
    or-assoc : (a b c : Bool) → a || (b || c) ≡ (a || b) || c
    or-assoc true b c = refl
    or-assoc false b c = refl

-- once opened, a pool was opened
pub still-opened : (m p : ℕ) (f : Fact) (h : List Item) → was_opened h p ≡ true → was_opened (made m f ∷ h) p ≡ true
still-opened m p (Opened q a) h e = any-push p (homes h) (record { number = q; address = a }) ∙ rw e refl
still-opened m p _ h e = e

pub now-opened : (m p : ℕ) (a : ServerAddress) (h : List Item) → was_opened (made m (Opened p a) ∷ h) p ≡ true
now-opened m p a h = any-push p (homes h) (record { number = p; address = a }) ∙ rw (same-number p) (or-true (was_opened h p))
  where
    or-true : (b : Bool) → b || true ≡ true
    or-true true = refl
    or-true false = refl

not-before : (m p : ℕ) (f : Fact) (h : List Item) → was_opened (made m f ∷ h) p ≡ false → was_opened h p ≡ false
not-before m p f h e = on (was_opened h p) refl
  where
    on : (b : Bool) → was_opened h p ≡ b → was_opened h p ≡ false
    on false g = g
    on true g = let w : was_opened (made m f ∷ h) p ≡ true = still-opened m p f h g in cc

-- an open pool was opened
pub open-opened : (h : List Item) (a : ServerAddress) (p : ℕ) → open_pool h a ≡ Some p → was_opened h p ≡ true
open-opened [] a p e = cc
open-opened (did step reply ∷ h) a p e = open-opened h a p e
open-opened (made m f ∷ h) a p e = on f e (open-opened h a p)
  where
    on : (f : Fact) → open_pool (made m f ∷ h) a ≡ Some p → (open_pool h a ≡ Some p → was_opened h p ≡ true) → was_opened (made m f ∷ h) p ≡ true
    on (Opened q b) e deeper = at_address (same_address b a) refl e
      where
        at_address : (c : Bool) → same_address b a ≡ c → (if same_address b a then Some q else open_pool h a) ≡ Some p → was_opened (made m (Opened q b) ∷ h) p ≡ true
        at_address true g e = let w : Some q ≡ Some p = sym (rw g refl) ∙ e in let v : q ≡ p = cc in subst (λ n. was_opened (made m (Opened n b) ∷ h) p ≡ true) (sym v) (now-opened m p b h)
        at_address false g e = still-opened m p (Opened q b) h (deeper (sym (rw g refl) ∙ e))
    on (Pool q (PoolClosed ev)) e deeper = at_closed (is_number (open_pool h a) q) refl e
      where
        at_closed : (c : Bool) → is_number (open_pool h a) q ≡ c → (if is_number (open_pool h a) q then None else open_pool h a) ≡ Some p → was_opened h p ≡ true
        at_closed true g e = let w : ◌≡◌ {A = Option ℕ} None (Some p) = sym (rw g refl) ∙ e in cc
        at_closed false g e = deeper (sym (rw g refl) ∙ e)
    on _ e deeper = deeper e

-- a pool that was opened is none that was not
other-opened : (h : List Item) (p q : ℕ) → was_opened h q ≡ true → was_opened h p ≡ false → (q == p) ≡ false
other-opened h p q e f = on (q == p) refl
  where
    on : (b : Bool) → (q == p) ≡ b → (q == p) ≡ false
    on false g = g
    on true g = let w : q ≡ p = grind arith in let v : was_opened h p ≡ true = subst (λ n. was_opened h n ≡ true) w e in cc

other-open : (h : List Item) (p : ℕ) (a : ServerAddress) → was_opened h p ≡ false → is_number (open_pool h a) p ≡ false
other-open h p a f = on (open_pool h a) refl
  where
    on : (x : Option ℕ) → open_pool h a ≡ x → is_number (open_pool h a) p ≡ false
    on None e = ap (λ y. is_number y p) e
    on (Some q) e = ap (λ y. is_number y p) e ∙ other-opened h p q (open-opened h a q e) f

module _ (h : List Item) (p m : ℕ) (none : of_pool p h ≡ []) (unopened : was_opened h p ≡ false) where
  skipped : (b : Bool) (x : PoolItem) → b ≡ false → if_so b x (of_pool p h) ≡ []
  skipped b x e = rw e none

  act-none : (act : Act) → StepNames h act → after_act p (open_pool h) m act (of_pool p h) ≡ []
  act-none (Do.Request r a) w = skipped (is_number (open_pool h a) p) _ (other-open h p a unopened)
  act-none (Do.Warm r a) w = skipped (is_number (open_pool h a) p) _ (other-open h p a unopened)
  act-none (Do.GiveUp r) w = skipped (has_asked (of_pool p h) r) _ (ap (λ xs. has_asked xs r) none)
  act-none (Do.Established q c how) w = skipped (q == p) _ (other-opened h p q w unopened)
  act-none (Do.Failed q c Pre error) w = skipped (q == p) _ (other-opened h p q w unopened)
  act-none (Do.Failed q c (Post service) error) w = skipped (q == p) _ (other-opened h p q w unopened)
  act-none (Do.Return r used) w = skipped (is_some (given (of_pool p h) r)) _ (ap (λ xs. is_some (given xs r)) none)
  act-none (Do.Pin r) w = skipped (is_some (given (of_pool p h) r)) _ (ap (λ xs. is_some (given xs r)) none)
  act-none (Do.Replicate q c) w = skipped (q == p) _ (other-opened h p q w unopened)
  act-none (Do.Take r q c) w = skipped (q == p) _ (other-opened h p q w.there unopened)
  act-none (Do.Unpin q c) w = skipped (q == p) _ (other-opened h p q w unopened)
  act-none _ w = none

  fact-none : (f : Fact) → FactNames h f → after_fact p m f (of_pool p h) ≡ []
  fact-none (Pool q (PoolCreated e)) w = skipped (q == p) _ (other-opened h p q w unopened)
  fact-none (Pool q (PoolReady e)) w = skipped (q == p) _ (other-opened h p q w unopened)
  fact-none (Pool q (PoolClosed e)) w = skipped (q == p) _ (other-opened h p q w unopened)
  fact-none (Pool q (ConnectionCreated e)) w = skipped (q == p) _ (other-opened h p q w unopened)
  fact-none (Pool q (ConnectionClosed e)) w = skipped (q == p) _ (other-opened h p q w unopened)
  fact-none (Pool q (ConnectionCheckedIn e)) w = skipped (q == p) _ (other-opened h p q w unopened)
  fact-none (Granted r q c) w = skipped (q == p) _ (other-opened h p q w unopened)
  fact-none (Raised q service error) w = skipped (q == p) _ (other-opened h p q w unopened)
  fact-none (Ended r end) w = skipped (has_asked (of_pool p h) r) _ (ap (λ xs. has_asked xs r) none)
  fact-none _ w = none

-- nothing is said of a pool before it was opened
pub unopened-empty : (h : List Item) → SoundHistory h → (p : ℕ) → was_opened h p ≡ false → of_pool p h ≡ []
unopened-empty [] s p e = refl
unopened-empty (did step reply ∷ h) s p e = let w : MayCome h (did step reply) = s.0 in act-none h p step.moment (unopened-empty h s.1 p e) e step.act w.names
unopened-empty (made m f ∷ h) s p e = let w : MayCome h (made m f) = s.0 in let g : was_opened h p ≡ false = not-before m p f h e in fact-none h p m (unopened-empty h s.1 p g) g f w.names

-- so whatever is said of a pool is said of one that was opened
pub party-opened : (h : List Item) → SoundHistory h → (p r : ℕ) → has_party (of_pool p h) r ≡ true → was_opened h p ≡ true
party-opened h s p r e = on (was_opened h p) refl
  where
    on : (b : Bool) → was_opened h p ≡ b → was_opened h p ≡ true
    on true f = f
    on false f = let w : has_party (of_pool p h) r ≡ false = ap (λ xs. has_party xs r) (unopened-empty h s p f) in cc

or-true : (b : Bool) → b || true ≡ true
or-true true = refl
or-true false = refl

-- a pool that is found was opened
pub home-opened : (h : List Item) (test : Home → Bool) (x : Home) → find test (homes h) ≡ Some x → was_opened h x.number ≡ true
home-opened h test x e = found (homes h) e
  where
    found : (hs : List Home) → find test hs ≡ Some x → list_any (λ y. y.number == x.number) hs ≡ true
    found [] e = cc
    found (y ∷ hs) e = on (test y) refl e (found hs)
      where
        on : (b : Bool) → test y ≡ b → find test (y ∷ hs) ≡ Some x → (find test hs ≡ Some x → list_any (λ y. y.number == x.number) hs ≡ true) → list_any (λ y. y.number == x.number) (y ∷ hs) ≡ true
        on true f g deeper = let w : Some y ≡ Some x = sym (rw f refl) ∙ g in let v : y ≡ x = cc in subst (λ z. list_any (λ y. y.number == z.number) (y ∷ hs) ≡ true) v (rw (same-number y.number) refl)
        on false f g deeper = rw (deeper (sym (rw f refl) ∙ g)) (or-true (y.number == x.number))
