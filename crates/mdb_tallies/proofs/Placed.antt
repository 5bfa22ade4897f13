-- Tables in which one connection of a pool was replaced are those after the change.
use Rattle.std.proofs.Common.{ℕ, ◌+◌, ◌-◌, ◌≡◌, ◌==◌, Bool, true, false, ◌&&◌, if◌then◌else◌, refl, sym, ap, ◌∙◌, arith}
use Rattle.mdb_log.specs.Connections.{one_if}
use Rattle.mdb_log.proofs.Numbers.{same-number}
use Rattle.mdb_tallies.specs.declared.connection.Connection.{Connection}
use Rattle.mdb_tallies.specs.declared.pools.Pool.{Pool}
use Rattle.mdb_tallies.specs.declared.tables.Tables.{Tables}
use Rattle.mdb_tallies.specs.declared.occurrence.Occurrence.TheVariants as change
use Rattle.mdb_tallies.specs.Tables.{at, same_key}
use Rattle.mdb_tallies.specs.Kept.{Replaces, Follows, Covers}
use Rattle.mdb_tallies.specs.Changes.{recounted, pool_if, changed_if, pending_now, at_hand_now, closed_now, once_created, once_closed, once_checked_in, once_established, once_failed}

pub same : (q p : ℕ) → (q == p) ≡ true → q ≡ p
same q p e = grind arith

-- lists and gifts that stay cover as before
pub covers-same : (old new : Tables) → new.gifts ≡ old.gifts → new.places ≡ old.places → Covers old → Covers new
covers-same old new g l covers = record { all = λ r p c. rw (g, l) (covers.all r p c); once = λ r i below. rw l (covers.once r i (rw l at below)) }

-- at the key itself
here : (q d : ℕ) → same_key q d 0 q d 0 ≡ true
here q d = rw (same-number q, same-number d) refl

pub placed : (q d k : ℕ) (x : Connection) (f : Connection → Connection) (old new : Tables) → Replaces q d x k old new → x ≡ f (at old.connections q d 0) → (p c : ℕ) → at new.connections p c 0 ≡ changed_if ((q == p) && (d == c)) f (at old.connections p c 0)
placed q d k x f old new r e p c = r.connections p c 0 ∙ ap (λ y. if same_key q d 0 p c 0 then y else at old.connections p c 0) e ∙ go (q == p) (d == c) refl refl
  where
    go : (b t : Bool) → (q == p) ≡ b → (d == c) ≡ t → (if (b && t) && true then f (at old.connections q d 0) else at old.connections p c 0) ≡ changed_if (b && t) f (at old.connections p c 0)
    go true true u v = ap (λ n. f (at old.connections n d 0)) (same q p u) ∙ ap (λ n. f (at old.connections p n 0)) (same d c v)
    go true false u v = refl
    go false t u v = refl

placed-here : (q d k : ℕ) (x : Connection) (old new : Tables) → Replaces q d x k old new → (p : ℕ) → (q == p) ≡ true → at new.connections p d 0 ≡ x
placed-here q d k x old new r p u = let at_key : same_key q d 0 p d 0 ≡ true = rw (u, same-number d) refl in r.connections p d 0 ∙ ap (λ b. if b then x else at old.connections p d 0) at_key

pub placed-pool : (q d k : ℕ) (x : Connection) (old new : Tables) → Replaces q d x k old new → (p : ℕ) → at new.pools p 0 0 ≡ pool_if (q == p) (recounted (at old.connections p d 0) (at new.connections p d 0) (record (at old.pools p 0 0) { created = (at old.pools p 0 0).created + k })) (at old.pools p 0 0)
placed-pool q d k x old new r p = r.pools p 0 0 ∙ go (q == p) refl
  where
    go : (b : Bool) → (q == p) ≡ b → (if (b && true) && true then recounted (at old.connections q d 0) x (record (at old.pools q 0 0) { created = (at old.pools q 0 0).created + k }) else at old.pools p 0 0) ≡ pool_if b (recounted (at old.connections p d 0) (at new.connections p d 0) (record (at old.pools p 0 0) { created = (at old.pools p 0 0).created + k })) (at old.pools p 0 0)
    go true u = ap (λ n. recounted (at old.connections n d 0) x (record (at old.pools n 0 0) { created = (at old.pools n 0 0).created + k })) (same q p u) ∙ ap (λ y. recounted (at old.connections p d 0) y (record (at old.pools p 0 0) { created = (at old.pools p 0 0).created + k })) (sym (placed-here q d k x old new r p u))
    go false u = refl

none_more : (n : ℕ) → n + 0 ≡ n
none_more n = omega arith

-- the pool that created no more
pub placed-pool-none : (q d : ℕ) (x : Connection) (old new : Tables) → Replaces q d x 0 old new → (p : ℕ) → at new.pools p 0 0 ≡ pool_if (q == p) (recounted (at old.connections p d 0) (at new.connections p d 0) (at old.pools p 0 0)) (at old.pools p 0 0)
placed-pool-none q d x old new r p = placed-pool q d 0 x old new r p ∙ ap (λ n. pool_if (q == p) (recounted (at old.connections p d 0) (at new.connections p d 0) (record (at old.pools p 0 0) { created = n })) (at old.pools p 0 0)) (none_more (at old.pools p 0 0).created)

no_change : (n m : ℕ) → (n + m) - m ≡ n
no_change n m = omega arith

recounted-same : (x y : Connection) (pool : Pool) → closed_now y ≡ closed_now x → pending_now y ≡ pending_now x → at_hand_now y ≡ at_hand_now x → recounted x y pool ≡ pool
recounted-same x y pool e f g = rw (e, f, g, no_change pool.closed (closed_now x), no_change pool.pending (one_if (pending_now x)), no_change pool.available (one_if (at_hand_now x))) refl

pool-same : (b : Bool) (x y : Connection) (pool : Pool) → closed_now y ≡ closed_now x → pending_now y ≡ pending_now x → at_hand_now y ≡ at_hand_now x → pool_if b (recounted x y pool) pool ≡ pool
pool-same true x y pool e f g = recounted-same x y pool e f g
pool-same false x y pool e f g = refl

-- a change that no count of the pool sees
abbrev pub Unseen : (Connection → Connection) → Type 0
Unseen f = (x : Connection) → (closed_now (f x) ≡ closed_now x) × (pending_now (f x) ≡ pending_now x) × (at_hand_now (f x) ≡ at_hand_now x)

pub placed-unseen : (q d : ℕ) (x : Connection) (f : Connection → Connection) (old new : Tables) → Unseen f → Replaces q d x 0 old new → x ≡ f (at old.connections q d 0) → (p : ℕ) → at new.pools p 0 0 ≡ at old.pools p 0 0
placed-unseen q d x f old new s r e p = r.pools p 0 0 ∙ go (q == p) refl
  where
    go : (b : Bool) → (q == p) ≡ b → (if (b && true) && true then recounted (at old.connections q d 0) x (record (at old.pools q 0 0) { created = (at old.pools q 0 0).created + 0 }) else at old.pools p 0 0) ≡ at old.pools p 0 0
    go true u =
        ap (λ y. recounted (at old.connections q d 0) y (record (at old.pools q 0 0) { created = (at old.pools q 0 0).created + 0 })) e
        ∙ ap (λ n. recounted (at old.connections q d 0) (f (at old.connections q d 0)) (record (at old.pools q 0 0) { created = n })) (none_more (at old.pools q 0 0).created)
        ∙ (let t = s (at old.connections q d 0) in recounted-same (at old.connections q d 0) (f (at old.connections q d 0)) (at old.pools q 0 0) t.0 t.1 t.2)
        ∙ ap (λ n. at old.pools n 0 0) (same q p u)
    go false u = refl

-- changes of which the tables say nothing

pub nothing-follows : (b : Bool) (t : Tables) → Follows b change.Nothing t t
nothing-follows b t = record { connections = λ p c. refl; gifts = λ s p c. refl; parties = λ s. refl; pools = λ p. refl; lists = λ covers. covers }

pub given_up-follows : (b : Bool) (r : ℕ) (t : Tables) → Follows b (change.GivenUp r) t t
given_up-follows b r t = record { connections = λ p c. refl; gifts = λ s p c. refl; parties = λ s. refl; pools = λ p. refl; lists = λ covers. covers }

pub pinned-follows : (b : Bool) (r : ℕ) (t : Tables) → Follows b (change.Pinned r) t t
pinned-follows b r t = record { connections = λ p c. refl; gifts = λ s p c. refl; parties = λ s. refl; pools = λ p. refl; lists = λ covers. covers }

pub replicated-follows : (b : Bool) (q d : ℕ) (t : Tables) → Follows b (change.Replicated q d) t t
replicated-follows b q d t = record { connections = λ p c. refl; gifts = λ s p c. refl; parties = λ s. refl; pools = λ p. refl; lists = λ covers. covers }

pub unpinned-follows : (b : Bool) (q d : ℕ) (t : Tables) → Follows b (change.Unpinned q d) t t
unpinned-follows b q d t = record { connections = λ p c. refl; gifts = λ s p c. refl; parties = λ s. refl; pools = λ p. refl; lists = λ covers. covers }

pub ruleset quiet_follows = (nothing-follows, given_up-follows, pinned-follows, replicated-follows, unpinned-follows)

pub created-follows : (b : Bool) (q d : ℕ) (x : Connection) (old new : Tables) → Replaces q d x 1 old new → x ≡ once_created (at old.connections q d 0) → Follows b (change.Created q d) old new
created-follows b q d x old new r e = record { connections = placed q d 1 x once_created old new r e; gifts = λ s p c. ap (λ t. at t s p c) r.gifts; parties = λ s. ap (λ t. at t s 0 0) r.parties; pools = placed-pool q d 1 x old new r; lists = covers-same old new r.gifts r.places }

pub closed-follows : (b : Bool) (q d : ℕ) (x : Connection) (old new : Tables) → Replaces q d x 0 old new → x ≡ once_closed (at old.connections q d 0) → Follows b (change.Closed q d) old new
closed-follows b q d x old new r e = record { connections = placed q d 0 x once_closed old new r e; gifts = λ s p c. ap (λ t. at t s p c) r.gifts; parties = λ s. ap (λ t. at t s 0 0) r.parties; pools = placed-pool-none q d x old new r; lists = covers-same old new r.gifts r.places }

pub checked_in-follows : (b : Bool) (q d : ℕ) (x : Connection) (old new : Tables) → Replaces q d x 0 old new → x ≡ once_checked_in (at old.connections q d 0) → Follows b (change.CheckedIn q d) old new
checked_in-follows b q d x old new r e = record { connections = placed q d 0 x once_checked_in old new r e; gifts = λ s p c. ap (λ t. at t s p c) r.gifts; parties = λ s. ap (λ t. at t s 0 0) r.parties; pools = placed-pool-none q d x old new r; lists = covers-same old new r.gifts r.places }

pub established-follows : (b : Bool) (q d : ℕ) (x : Connection) (old new : Tables) → Replaces q d x 0 old new → x ≡ once_established (at old.connections q d 0) → Follows b (change.Established q d) old new
established-follows b q d x old new r e = record { connections = placed q d 0 x once_established old new r e; gifts = λ s p c. ap (λ t. at t s p c) r.gifts; parties = λ s. ap (λ t. at t s 0 0) r.parties; pools = placed-pool-none q d x old new r; lists = covers-same old new r.gifts r.places }

pub failed-follows : (b : Bool) (q d : ℕ) (x : Connection) (old new : Tables) → Replaces q d x 0 old new → x ≡ once_failed (at old.connections q d 0) → Follows b (change.Failed q d) old new
failed-follows b q d x old new r e = record { connections = placed q d 0 x once_failed old new r e; gifts = λ s p c. ap (λ t. at t s p c) r.gifts; parties = λ s. ap (λ t. at t s 0 0) r.parties; pools = placed-pool-none q d x old new r; lists = covers-same old new r.gifts r.places }

pub ruleset place_follows = (created-follows, closed-follows, checked_in-follows, established-follows, failed-follows)
