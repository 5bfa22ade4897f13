-- What is true of items for the proofs that a pool keeps them sound: of connections that nobody has, of pools that are not closed, of requests that are queued.
use Rattle.std.proofs.Common.{ℕ, ◌≡◌, ◌<◌, ◌==◌, Bool, true, false, not, ◌&&◌, List, [], ◌∷◌, Option, Some, None, is_some, refl, sym, ◌∙◌, ap, arith}
use Rattle.mdb_events.specs.declared.end.End.{End}
use Rattle.mdb_log.specs.declared.options.PoolOptions.{PoolOptions}
use Rattle.mdb_log.specs.History.{PoolItem, asked, warmed, gave_up, returned, pinned_by, established, failed, replicated, taken, unpinned, created, closed, checked_in, granted, ended, raised, pool_created, pool_ready, pool_closed, has_asked, has_taken, given, without}
use Rattle.mdb_log.specs.Connections.{has, live, is_live, created_total, pending_list, available_list, parties, pins}
use Rattle.mdb_log.specs.Requests.{queued, end_of}
use Rattle.mdb_log.specs.State.{is_closed, state_of, ready}
use Rattle.mdb_log.proofs.Numbers.{has-without, has-without-is}
use Rattle.mdb_sound.specs.Sound.{Sound, was_closed, in_use, just_failed, MayClose}
use Rattle.mdb_sound.specs.Counts.{askings, grantings, endings, was_granted}
use Rattle.mdb_sound.specs.Once.{Once}
use Rattle.mdb_sound.specs.Laws.{NamingLaws}
use Rattle.mdb_sound.proofs.Once.{once}
use Rattle.mdb_sound.proofs.Connections.{connection-laws, naming-laws}
use Rattle.mdb_sound.proofs.Generations.{closed-for-good}

-- Calm: nobody has a connection that is available, and it has no pin.
pub record Calm (xs : List PoolItem) : Type 0 where
  pub free : (c : ℕ) → has c (available_list xs) ≡ true → parties xs c ≡ []
  pub loose : (c : ℕ) → has c (available_list xs) ≡ true → pins xs c ≡ 0

pub none-is : {A : Type 0} (o : Option A) → is_some o ≡ false → o ≡ None
none-is None e = refl
none-is (Some x) e = cc

pub open-ready : (o : PoolOptions) (xs : List PoolItem) → Sound xs → ready (state_of o xs) ≡ true → was_closed xs ≡ false
open-ready o xs s e = on (was_closed xs) refl
  where
    on : (b : Bool) → was_closed xs ≡ b → was_closed xs ≡ false
    on true f = let g : state_of o xs ≡ is_closed = (closed-for-good o xs s f).stays_closed in let h : ready (state_of o xs) ≡ false = ap ready g in cc
    on false f = f

pub unused-free : (xs : List PoolItem) (c : ℕ) → parties xs c ≡ [] → in_use xs c ≡ false
unused-free xs c e = rw e (neither (not (has c (pending_list xs))) (not (just_failed xs c)))
  where
    neither : (a b : Bool) → a && (b && false) ≡ false
    neither true true = refl
    neither true false = refl
    neither false b = refl

pub one-lives : (xs : List PoolItem) (c : ℕ) → live xs c ≡ 1 → is_live xs c ≡ true
one-lives xs c e = rw e refl

pub queued-unended : (xs : List PoolItem) → Sound xs → (r : ℕ) → has r (queued xs) ≡ true → end_of xs r ≡ None
queued-unended xs s r w = none-is (end_of xs r) (on (has_asked xs r) (has_taken xs r) (was_granted xs r) (is_some (end_of xs r)) (has r (queued xs)) (is_some (given xs r)) (askings xs r) (grantings xs r) (endings xs r) (once xs s r) w)
  where
    on : (a t g e q h : Bool) (ka kg ke : ℕ) → Once a t g e q h ka kg ke → (q ≡ true) → e ≡ false
    on a t g e q h ka kg ke i k = let q_is : q ≡ a && (not g && not e) = i.queued_means in grind arith

-- nobody has a connection that was not created
pub strangers : (xs : List PoolItem) → Sound xs → (c : ℕ) → created_total xs < c → parties xs c ≡ []
strangers [] s c l = refl
strangers (asked q m ∷ xs) s c l = strangers xs s.1 c l
strangers (warmed q m ∷ xs) s c l = strangers xs s.1 c l
strangers (gave_up q ∷ xs) s c l = strangers xs s.1 c l
strangers (pinned_by q ∷ xs) s c l = strangers xs s.1 c l
strangers (established d how m ∷ xs) s c l = strangers xs s.1 c l
strangers (failed d service ∷ xs) s c l = strangers xs s.1 c l
strangers (replicated d ∷ xs) s c l = strangers xs s.1 c l
strangers (unpinned d ∷ xs) s c l = strangers xs s.1 c l
strangers (closed d ∷ xs) s c l = strangers xs s.1 c l
strangers (checked_in d m ∷ xs) s c l = strangers xs s.1 c l
strangers (raised service error ∷ xs) s c l = strangers xs s.1 c l
strangers (pool_created ∷ xs) s c l = strangers xs s.1 c l
strangers (pool_ready ∷ xs) s c l = strangers xs s.1 c l
strangers (pool_closed ∷ xs) s c l = strangers xs s.1 c l
strangers (created d m ∷ xs) s c l = strangers xs s.1 c (omega arith)
strangers (returned q used ∷ xs) s c l = ap (without q) (strangers xs s.1 c l)
strangers (ended q end ∷ xs) s c l = ap (without q) (strangers xs s.1 c l)
strangers (taken q d ∷ xs) s c l =
    let n : NamingLaws xs (taken q d) c = naming-laws xs (taken q d) s c in
    let k : (d == c) ≡ false = n.silent_before_creation l refl in
    rw k (strangers xs s.1 c l)
strangers (granted q d ∷ xs) s c l =
    let n : NamingLaws xs (granted q d) c = naming-laws xs (granted q d) s c in
    let k : (d == c) ≡ false = n.silent_before_creation l refl in
    rw k (strangers xs s.1 c l)

-- another than the one that was taken out
pub not-out : (d c : ℕ) (ks : List ℕ) → has d (without c ks) ≡ true → (has d ks ≡ true) × ((c == d) ≡ false)
not-out d c ks e = let w : has d ks && not (c == d) ≡ true = sym (has-without-is d c ks) ∙ e in (grind arith, grind arith)

-- an available connection may be closed
pub available-closes : (xs : List PoolItem) → Sound xs → Calm xs → (c : ℕ) → has c (available_list xs) ≡ true → MayClose xs c
available-closes xs s z c e = record { lives = one-lives xs c ((connection-laws xs s c).available_lives e); unused = unused-free xs c (z.free c e); unpinned = z.loose c e }

-- what the items leave calm
pub calm-close : (xs : List PoolItem) (c : ℕ) → Calm xs → Calm (closed c ∷ xs)
calm-close xs c z = record { free = λ d e. z.free d (has-without d c (available_list xs) e); loose = λ d e. z.loose d (has-without d c (available_list xs) e) }

pub calm-end : (xs : List PoolItem) (r : ℕ) (end : End) → Calm xs → Calm (ended r end ∷ xs)
calm-end xs r end z = record { free = λ d e. ap (without r) (z.free d e); loose = z.loose }

pub calm-grant : (xs : List PoolItem) (r c : ℕ) → Calm xs → Calm (granted r c ∷ xs)
calm-grant xs r c z = record { free = λ d e. let w : (has d (available_list xs) ≡ true) × ((c == d) ≡ false) = not-out d c (available_list xs) e in rw w.1 (z.free d w.0); loose = λ d e. z.loose d (not-out d c (available_list xs) e).0 }

pub calm-create : (xs : List PoolItem) (c m : ℕ) → Calm xs → Calm (created c m ∷ xs)
calm-create xs c m z = record { free = z.free; loose = z.loose }
