-- What facts leave of a pool: where it is open, and its state.
use Rattle.std.proofs.Common.{ℕ, ◌≡◌, ◌==◌, Bool, true, false, if◌then◌else◌, List, [], ◌∷◌, ◌++◌, Option, Some, None, refl, sym, ◌∙◌, arith}
use Rattle.std.specs.List.{list_any}
use Rattle.std.proofs.lemmas.Grind.{flat_map-append}
use Rattle.mdb_base.specs.declared.address.ServerAddress.{ServerAddress}
use Rattle.mdb_events.specs.declared.fact.Fact.{Fact}
use Rattle.mdb_events.specs.declared.fact.Fact.TheVariants.{Opened, Pool, Raised, Granted, Ended}
use Rattle.mdb_events.specs.declared.cmap.CmapEvent.TheVariants.{PoolCreated, PoolReady, PoolCleared, PoolClosed, ConnectionCreated, ConnectionClosed, ConnectionCheckedIn}
use Rattle.mdb_log.specs.declared.options.PoolOptions.{PoolOptions}
use Rattle.mdb_log.specs.History.{Item, made, PoolItem, created, closed, checked_in, granted, ended, of_pool, open_pool, is_number, has_asked, if_so, after_fact, with_facts}
use Rattle.mdb_log.specs.Homes.{homes}
use Rattle.mdb_log.specs.State.{state_of}
use Rattle.mdb_driver_rules.specs.OfServers.{is_of_server}
use Rattle.mdb_driver_rules.proofs.NumbersWithinLimits.{any_out}
use Rattle.mdb_laws.specs.Causes.{mark_of, marks_of}

pub own-number : (p : ℕ) → (p == p) ≡ true
own-number p = grind arith

pub same-number : (p q : ℕ) → (p == q) ≡ true → p ≡ q
same-number p q e = grind arith

pub any-head : {T : Type 0} (test : T → Bool) (x : T) (xs : List T) → list_any test (x ∷ xs) ≡ false → (test x ≡ false) × (list_any test xs ≡ false)
any-head test x xs e = on (test x) refl e
  where
    on : (b : Bool) → test x ≡ b → list_any test (x ∷ xs) ≡ false → (test x ≡ false) × (list_any test xs ≡ false)
    on true g d = let t : true ≡ false = sym (rw g refl) ∙ d in cc
    on false g d = (g, sym (rw g refl) ∙ d)

pub any-append : {T : Type 0} (test : T → Bool) (xs ys : List T) → list_any test xs ≡ false → list_any test ys ≡ false → list_any test (xs ++ ys) ≡ false
any-append test [] ys e f = f
any-append test (x ∷ xs) ys e f = let d : (test x ≡ false) × (list_any test xs ≡ false) = any-head test x xs e in rw d.0 (any-append test xs ys d.1 f)

pub marks-append : (fs gs : List Fact) → marks_of (fs ++ gs) ≡ marks_of fs ++ marks_of gs
marks-append fs gs = flat_map-append mark_of fs gs

-- facts that are of no server say nothing of whole pools
one-mark : (f : Fact) → is_of_server f ≡ false → mark_of f ≡ []
one-mark (Opened q a) e = cc
one-mark (Raised q s error) e = cc
one-mark (Pool q (PoolCreated v)) e = cc
one-mark (Pool q (PoolReady v)) e = cc
one-mark (Pool q (PoolCleared v)) e = cc
one-mark (Pool q (PoolClosed v)) e = cc
one-mark (Pool q _) e = refl
one-mark _ e = refl

pub out-marks : (fs : List Fact) → any_out fs ≡ false → marks_of fs ≡ []
out-marks [] e = refl
out-marks (f ∷ fs) e = let d : (is_of_server f ≡ false) × (any_out fs ≡ false) = any-head is_of_server f fs e in rw (one-mark f d.0) (out-marks fs d.1)

-- the fact opens a pool
abbrev pub is_opened : Fact → Bool
is_opened (Opened q a) = true
is_opened _ = false

-- it opens some pool, or is of the pool p as a whole
abbrev pub touches : ℕ → Fact → Bool
touches p (Opened q a) = true
touches p (Raised q s e) = q == p
touches p (Pool q (PoolCreated e)) = q == p
touches p (Pool q (PoolReady e)) = q == p
touches p (Pool q (PoolClosed e)) = q == p
touches p _ = false

one-untouched : (p : ℕ) (f : Fact) → is_of_server f ≡ false → touches p f ≡ false
one-untouched p (Opened q a) e = cc
one-untouched p (Raised q s error) e = cc
one-untouched p (Pool q (PoolCreated v)) e = cc
one-untouched p (Pool q (PoolReady v)) e = cc
one-untouched p (Pool q (PoolClosed v)) e = cc
one-untouched p (Pool q _) e = refl
one-untouched p _ e = refl

pub out-untouched : (p : ℕ) (fs : List Fact) → any_out fs ≡ false → list_any (touches p) fs ≡ false
out-untouched p [] e = refl
out-untouched p (f ∷ fs) e = let d : (is_of_server f ≡ false) × (any_out fs ≡ false) = any-head is_of_server f fs e in rw (one-untouched p f d.0) (out-untouched p fs d.1)

one-unopened : (f : Fact) → is_of_server f ≡ false → is_opened f ≡ false
one-unopened (Opened q a) e = cc
one-unopened _ e = refl

pub out-unopened : (fs : List Fact) → any_out fs ≡ false → list_any is_opened fs ≡ false
out-unopened [] e = refl
out-unopened (f ∷ fs) e = let d : (is_of_server f ≡ false) × (any_out fs ≡ false) = any-head is_of_server f fs e in rw (one-unopened f d.0) (out-unopened fs d.1)

-- The pool p is open at the address, and has the state that it had after the history h.
pub record Seen (o : PoolOptions) (h k : List Item) (a : ServerAddress) (p : ℕ) : Type 0 where
  pub here : open_pool k a ≡ Some p
  pub state : state_of o (of_pool p k) ≡ state_of o (of_pool p h)

-- an item that changes no state, where it comes
pub if-so-state : (o : PoolOptions) (b : Bool) (x : PoolItem) (xs : List PoolItem) → state_of o (x ∷ xs) ≡ state_of o xs → state_of o (if_so b x xs) ≡ state_of o xs
if-so-state o true x xs e = e
if-so-state o false x xs e = refl

one-state : (o : PoolOptions) (p m : ℕ) (f : Fact) (xs : List PoolItem) → touches p f ≡ false → state_of o (after_fact p m f xs) ≡ state_of o xs
one-state o p m (Opened q a) xs e = cc
one-state o p m (Raised q s error) xs e = rw e refl
one-state o p m (Pool q (PoolCreated v)) xs e = rw e refl
one-state o p m (Pool q (PoolReady v)) xs e = rw e refl
one-state o p m (Pool q (PoolClosed v)) xs e = rw e refl
one-state o p m (Pool q (ConnectionCreated v)) xs e = if-so-state o (q == p) (created v.connection_id m) xs refl
one-state o p m (Pool q (ConnectionClosed v)) xs e = if-so-state o (q == p) (closed v.connection_id) xs refl
one-state o p m (Pool q (ConnectionCheckedIn v)) xs e = if-so-state o (q == p) (checked_in v.connection_id m) xs refl
one-state o p m (Pool q _) xs e = refl
one-state o p m (Granted r q c) xs e = if-so-state o (q == p) (granted r c) xs refl
one-state o p m (Ended r end) xs e = if-so-state o (has_asked xs r) (ended r end) xs refl
one-state o p m _ xs e = refl

one-open : (p m : ℕ) (f : Fact) (k : List Item) (a : ServerAddress) → touches p f ≡ false → open_pool k a ≡ Some p → open_pool (made m f ∷ k) a ≡ Some p
one-open p m (Opened q b) k a e g = cc
one-open p m (Pool q (PoolClosed v)) k a e g = let w : (p == q) ≡ false = grind arith in rw (g, w) refl
one-open p m (Pool q _) k a e g = g
one-open p m _ k a e g = g

pub spared : (o : PoolOptions) (m : ℕ) (h : List Item) (a : ServerAddress) (p : ℕ) (fs : List Fact) (k : List Item) → list_any (touches p) fs ≡ false → Seen o h k a p → Seen o h (with_facts m fs k) a p
spared o m h a p [] k e z = z
spared o m h a p (f ∷ fs) k e z =
    let d : (touches p f ≡ false) × (list_any (touches p) fs ≡ false) = any-head (touches p) f fs e in
    spared o m h a p fs (made m f ∷ k) d.1 (record { here = one-open p m f k a d.0 z.here; state = one-state o p m f (of_pool p k) d.0 ∙ z.state })

-- what is open now was open then
abbrev pub Below : List Item → List Item → Type 0
Below h k = (a : ServerAddress) (p : ℕ) → open_pool k a ≡ Some p → open_pool h a ≡ Some p

one-below : (m : ℕ) (f : Fact) (k : List Item) (a : ServerAddress) (p : ℕ) → is_opened f ≡ false → open_pool (made m f ∷ k) a ≡ Some p → open_pool k a ≡ Some p
one-below m (Opened q b) k a p e g = cc
one-below m (Pool q (PoolClosed v)) k a p e g = on (is_number (open_pool k a) q) refl g
  where
    on : (b : Bool) → is_number (open_pool k a) q ≡ b → (if is_number (open_pool k a) q then None else open_pool k a) ≡ Some p → open_pool k a ≡ Some p
    on true f d = let c : ◌≡◌ {A = Option ℕ} None (Some p) = sym (rw f refl) ∙ d in cc
    on false f d = sym (rw f refl) ∙ d
one-below m (Pool q _) k a p e g = g
one-below m _ k a p e g = g

pub below-facts : (m : ℕ) (h : List Item) (fs : List Fact) (k : List Item) → list_any is_opened fs ≡ false → Below h k → Below h (with_facts m fs k)
below-facts m h [] k e z = z
below-facts m h (f ∷ fs) k e z =
    let d : (is_opened f ≡ false) × (list_any is_opened fs ≡ false) = any-head is_opened f fs e in
    below-facts m h fs (made m f ∷ k) d.1 (λ a p g. z a p (one-below m f k a p d.0 g))

one-homes : (m : ℕ) (f : Fact) (k : List Item) → is_opened f ≡ false → homes (made m f ∷ k) ≡ homes k
one-homes m (Opened q b) k e = cc
one-homes m _ k e = refl

pub same-homes : (m : ℕ) (fs : List Fact) (k : List Item) → list_any is_opened fs ≡ false → homes (with_facts m fs k) ≡ homes k
same-homes m [] k e = refl
same-homes m (f ∷ fs) k e =
    let d : (is_opened f ≡ false) × (list_any is_opened fs ≡ false) = any-head is_opened f fs e in
    same-homes m fs (made m f ∷ k) d.1 ∙ one-homes m f k d.0
