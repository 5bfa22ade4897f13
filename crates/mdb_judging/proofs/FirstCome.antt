-- Who comes first, by what is known of the parties.
use Rattle.std.proofs.Common.{ℕ, ◌≡◌, ◌==◌, Bool, true, false, not, ◌&&◌, ◌||◌, if◌then◌else◌, nat_lt, filter, List, [], ◌∷◌, Option, Some, None, refl, sym, ap, ◌∙◌, subst}
use Rattle.mdb_log.specs.History.{Item, is_number, of_pool}
use Rattle.mdb_log.specs.Connections.{has}
use Rattle.mdb_log.specs.Requests.{some_act, was_asked}
use Rattle.mdb_log.specs.Legal.{first}
use Rattle.mdb_log.specs.PlainConnections.{is_created}
use Rattle.mdb_log.specs.PlainRequests.{requests, pool_of, is_warm, is_granted, is_ended, queued, waiting}
use Rattle.mdb_log.specs.PlainLegal.{IsNext}
use Rattle.mdb_log.proofs.Numbers.{same-number}
use Rattle.mdb_tallies.specs.declared.connection.Connection.{Connection}
use Rattle.mdb_tallies.specs.declared.party.Party.{Party}
use Rattle.mdb_tallies.specs.Standing.{connection_of, party_of}
use Rattle.mdb_tallies.specs.Verdicts.{queued_now}
use Rattle.mdb_judging.specs.Fairness.{FairGrant}
use Rattle.mdb_judging.specs.Taking.{Tells}
use Rattle.mdb_tallies.proofs.Parties.{unasked-pool}
use Rattle.mdb_tallies.proofs.Placed.{same}
use Rattle.mdb_judging.proofs.Queued.{requests-asked}

pub tells-is : (b : Bool) → Tells b (b ≡ true)
tells-is true = refl
tells-is false = λ e. cc

pub has-filter : (f : ℕ → Bool) (r : ℕ) (ks : List ℕ) → has r (filter f ks) ≡ f r && has r ks
has-filter f r [] = none (f r)
  where
    none : (b : Bool) → false ≡ b && false
    none true = refl
    none false = refl
has-filter f r (k ∷ ks) = go (has-filter f r ks) (f k) (k == r) refl refl
  where
    go : has r (filter f ks) ≡ f r && has r ks → (a b : Bool) → f k ≡ a → (k == r) ≡ b → has r (if a then (k ∷ filter f ks) else filter f ks) ≡ f r && (b || has r ks)
    go rest true true u v = let here : f r ≡ true = ap f (sym (same k r v)) ∙ u in rw (v, here) refl
    go rest true false u v = rw v rest
    go rest false true u v = let here : f r ≡ false = ap f (sym (same k r v)) ∙ u in rest ∙ rw here refl
    go rest false false u v = rest

-- who has a pool asked it
pub asked-here : (h : List Item) (r p : ℕ) → pool_of h r ≡ Some p → some_act was_asked h r ≡ true
asked-here h r p e = by (some_act was_asked h r) (pool_of h r) e (unasked-pool h r)
  where
    by : (b : Bool) (x : Option ℕ) → x ≡ Some p → (if b then x else None) ≡ x → b ≡ true
    by true x e u = refl
    by false x e u = cc

-- a request of the pool is queued there until it is granted a connection or ended
pub queued-here : (h : List Item) (r p : ℕ) → pool_of h r ≡ Some p → has r (queued p h) ≡ not (is_granted h r || is_ended h r)
queued-here h r p e = has-filter (λ q. is_number (pool_of h q) p && not (is_granted h q || is_ended h q)) r (requests h) ∙ rw (requests-asked h r, asked-here h r p e, e, same-number p) (ends (not (is_granted h r || is_ended h r)))
  where
    ends : (b : Bool) → b && true ≡ b
    ends true = refl
    ends false = refl

pub next-warm : (h : List Item) (r p : ℕ) → is_warm h r ≡ true → pool_of h r ≡ Some p → Tells (not (is_granted h r || is_ended h r)) (IsNext p h r)
next-warm h r p e f = rw (e, queued-here h r p f) (tells-is (not (is_granted h r || is_ended h r)))

pub tells-number : (x : Option ℕ) (r : ℕ) → Tells (is_number x r) (x ≡ Some r)
tells-number None r = λ e. cc
tells-number (Some m) r = by (m == r) refl
  where
    by : (b : Bool) → (m == r) ≡ b → Tells b (Some m ≡ Some r)
    by true u = ap (λ n. Some n) (same m r u)
    by false u = λ e. let t : true ≡ false = sym (same-number r) ∙ sym (ap (λ x. is_number x r) e) ∙ u in cc

pub next-caller : (h : List Item) (r p : ℕ) (x : Option ℕ) → is_warm h r ≡ false → x ≡ first (waiting p h) → Tells (is_number x r) (IsNext p h r)
next-caller h r p x e f = rw e (rw (← f) (tells-number x r))

pub is-some : (x : Option ℕ) (p : ℕ) → is_number x p ≡ true → x ≡ Some p
is-some None p e = cc
is-some (Some m) p e = ap (λ n. Some n) (same m p e)

-- the grant is of the pool's own connection
pub fair-here : (h : List Item) (r p c : ℕ) (b : Bool) → pool_of h r ≡ Some p → is_created (of_pool p h) c ≡ true → Tells b (IsNext p h r) → Tells b (FairGrant h r p c)
fair-here h r p c true e f t = (e, f, t)
fair-here h r p c false e f t = λ g. t g.2

-- the grant is of no connection of the pool that the request asked
pub not-fair : (h : List Item) (r p c : ℕ) → is_number (pool_of h r) p && is_created (of_pool p h) c ≡ false → FairGrant h r p c → ⊥
not-fair h r p c e g = let t : true ≡ false = sym (rw (g.0, g.1, same-number p) refl) ∙ e in cc

-- what the auditor makes of a warm request
pub warm-known : (h : List Item) (r p : ℕ) (x : Party) (b : Bool) → x ≡ party_of h r → x.is_warm ≡ true → b ≡ queued_now x → pool_of h r ≡ Some p → Tells b (IsNext p h r)
warm-known h r p x b e w u f = subst (λ z. Tells z (IsNext p h r)) (sym (u ∙ ap queued_now e ∙ rw (asked-here h r p f) refl)) (next-warm h r p (sym (ap (λ z. z.is_warm) e) ∙ w) f)

pub caller-known : (h : List Item) (r p : ℕ) (x : Party) (found : Option ℕ) (b : Bool) → x ≡ party_of h r → x.is_warm ≡ false → b ≡ is_number found r → found ≡ first (waiting p h) → Tells b (IsNext p h r)
caller-known h r p x found b e w u f = subst (λ z. Tells z (IsNext p h r)) (sym u) (next-caller h r p found (sym (ap (λ z. z.is_warm) e) ∙ w) f)

both-true : (a b : Bool) → a && b ≡ true → (a ≡ true) × (b ≡ true)
both-true true b e = (refl, e)
both-true false b e = cc

-- what the auditor makes of a grant
pub grant-known : (h : List Item) (r p c : ℕ) (x : Party) (y : Connection) (own b : Bool) → x ≡ party_of h r → y ≡ connection_of h p c → own ≡ is_number x.pool p && nat_lt 0 y.creations → own ≡ true → (pool_of h r ≡ Some p → Tells b (IsNext p h r)) → Tells b (FairGrant h r p c)
grant-known h r p c x y own b e f u v t =
    let parts = both-true (is_number (pool_of h r) p) (is_created (of_pool p h) c) (sym (ap (λ z. is_number z.pool p && nat_lt 0 y.creations) e ∙ ap (λ z. is_number (pool_of h r) p && nat_lt 0 z.creations) f) ∙ sym u ∙ v) in
    let is : pool_of h r ≡ Some p = is-some (pool_of h r) p parts.0 in
    fair-here h r p c b is parts.1 (t is)

pub no-grant-known : (h : List Item) (r p c : ℕ) (x : Party) (y : Connection) (own : Bool) → x ≡ party_of h r → y ≡ connection_of h p c → own ≡ is_number x.pool p && nat_lt 0 y.creations → own ≡ false → FairGrant h r p c → ⊥
no-grant-known h r p c x y own e f u v = not-fair h r p c (sym (ap (λ z. is_number z.pool p && nat_lt 0 y.creations) e ∙ ap (λ z. is_number (pool_of h r) p && nat_lt 0 z.creations) f) ∙ sym u ∙ v)
