-- Items that say alike are served alike.
use Rattle.std.proofs.Common.{ℕ, zero, suc, ◌≡◌, ◌+◌, Bool, true, false, not, List, [], ◌∷◌, ◌++◌, filter, Option, Some, None, refl, sym, ◌∙◌, ap, if◌then◌else◌, length}
use Rattle.mdb_base.specs.declared.address.ServerAddress.{ServerAddress}
use Rattle.mdb_base.specs.declared.object_id.ObjectId.{ObjectId}
use Rattle.mdb_events.specs.declared.fact.Fact.{Fact}
use Rattle.mdb_events.specs.declared.fact.Fact.TheVariants as fact
use Rattle.mdb_events.specs.declared.reasons.ConnectionClosedReason.{ConnectionClosedReason}
use Rattle.mdb_log.specs.declared.options.PoolOptions.{PoolOptions}
use Rattle.mdb_log.specs.History.{PoolItem, after_fact, after_facts}
use Rattle.mdb_log.specs.Connections.{has, service_of, available_list}
use Rattle.mdb_log.specs.Requests.{queued, is_warm, waiting}
use Rattle.mdb_log.specs.State.{state_of, ready, is_stale, is_idle, may_create}
use Rattle.mdb_log.specs.Legal.{IsNext, FirstCome, AllFirstCome, first}
use Rattle.mdb_pool_rules.specs.Facts.{perished}
use Rattle.mdb_pool_rules.specs.Serving.{last_of, wants_connection, is_blocked, candidate, creation, warm_move, meet, caller_move, move_for, next_move, serve, serving, IsServed}
use Rattle.mdb_pool_rules.proofs.SameAnswers.Queries.{Alike}
use Rattle.mdb_pool_rules.proofs.SameAnswers.FactsOf.{alike-fact, alike-facts}

module _ (o : PoolOptions) (xs ys : List PoolItem) (k : Alike xs ys) where
  stale-alike : (c : ℕ) → is_stale o xs c ≡ is_stale o ys c
  stale-alike c =
      let s : Option ObjectId = if o.load_balanced then service_of ys c else None in
      rw (k.service_of c, k.generation_before c s, k.generation_of s) refl

  idle-alike : (m c : ℕ) → is_idle o m xs c ≡ is_idle o m ys c
  idle-alike m c = on o.max_idle_time refl
    where
      on : (l : Option ℕ) → o.max_idle_time ≡ l → is_idle o m xs c ≡ is_idle o m ys c
      on None e = rw e refl
      on (Some limit) e = rw (e, k.since c) refl

  perished-alike : (m c : ℕ) → perished o m xs c ≡ perished o m ys c
  perished-alike m c = rw (stale-alike c, idle-alike m c) refl

  wants-alike : wants_connection o xs ≡ wants_connection o ys
  wants-alike = rw (k.live_total, k.created_total) refl

  blocked-alike : (r : ℕ) → is_blocked o xs r ≡ is_blocked o ys r
  blocked-alike r = rw (k.is_warm r, wants-alike, k.pending_list) refl

  candidate-alike : (rs : List ℕ) → candidate o xs rs ≡ candidate o ys rs
  candidate-alike [] = refl
  candidate-alike (r ∷ rs) = rw (blocked-alike r, candidate-alike rs) refl

  room-alike : may_create o xs ≡ may_create o ys
  room-alike = rw (k.created_total, k.live_total, k.pending_list) refl

  module _ (p : ℕ) (a : ServerAddress) (m : ℕ) where
    creation-alike : (r : ℕ) → creation p a xs r ≡ creation p a ys r
    creation-alike r = rw k.created_total refl

    warm-alike : (r : ℕ) → warm_move p a o xs r ≡ warm_move p a o ys r
    warm-alike r = rw (wants-alike, creation-alike r) refl

    meet-alike : (r c : ℕ) (why : Option ConnectionClosedReason) → meet p a o m xs r c why ≡ meet p a o m ys r c why
    meet-alike r c None = rw (k.asked_at r) refl
    meet-alike r c (Some why) = rw (k.known_service c) refl

    caller-alike : (r : ℕ) (c : Option ℕ) → caller_move p a o m xs r c ≡ caller_move p a o m ys r c
    caller-alike r None = rw (room-alike, creation-alike r) refl
    caller-alike r (Some c) = meet-alike r c (perished o m xs c) ∙ ap (meet p a o m ys r c) (perished-alike m c)

    move-alike : (r : Option ℕ) → move_for p a o m xs r ≡ move_for p a o m ys r
    move-alike None = refl
    move-alike (Some r) = rw (k.is_warm r, warm-alike r, k.available_list, caller-alike r (last_of (available_list ys))) refl

    pub next-alike : next_move p a o m xs ≡ next_move p a o m ys
    next-alike =
        let r : candidate o xs (queued xs) ≡ candidate o ys (queued ys) = candidate-alike (queued xs) ∙ ap (candidate o ys) k.queued in
        let moves : move_for p a o m xs (candidate o xs (queued xs)) ≡ move_for p a o m ys (candidate o ys (queued ys)) = move-alike (candidate o xs (queued xs)) ∙ ap (move_for p a o m ys) r in
        ap (λ s. if ready s then move_for p a o m xs (candidate o xs (queued xs)) else []) (k.state_of o) ∙ ap (λ fs. if ready (state_of o ys) then fs else []) moves

  pub served-alike : IsServed o xs → IsServed o ys
  served-alike i p a m = sym (next-alike p a m) ∙ i p a m

module _ (p : ℕ) (a : ServerAddress) (o : PoolOptions) (m : ℕ) where
  pub serve-alike : (n : ℕ) (xs ys : List PoolItem) → Alike xs ys → serve p a o m n xs ≡ serve p a o m n ys
  serve-alike zero xs ys k = refl
  serve-alike (suc n) xs ys k =
      let move : next_move p a o m xs ≡ next_move p a o m ys = next-alike o xs ys k p a m in
      let rest : serve p a o m n (after_facts p m (next_move p a o m xs) xs) ≡ serve p a o m n (after_facts p m (next_move p a o m xs) ys) = serve-alike n (after_facts p m (next_move p a o m xs) xs) (after_facts p m (next_move p a o m xs) ys) (alike-facts p m (next_move p a o m xs) xs ys k) in
      ap (λ fs. next_move p a o m xs ++ fs) rest ∙ ap (λ fs. fs ++ serve p a o m n (after_facts p m fs ys)) move

  pub serving-alike : (xs ys : List PoolItem) → Alike xs ys → serving p a o m xs ≡ serving p a o m ys
  serving-alike xs ys k = serve-alike (length (queued xs) + length (available_list xs)) xs ys k ∙ rw (k.queued, k.available_list) refl

-- and the same requests come first
waiting-alike : (xs ys : List PoolItem) → Alike xs ys → waiting xs ≡ waiting ys
waiting-alike xs ys k = callers (queued xs) ∙ ap (filter (λ r. not (is_warm ys r))) k.queued
  where
    callers : (rs : List ℕ) → filter (λ r. not (is_warm xs r)) rs ≡ filter (λ r. not (is_warm ys r)) rs
    callers [] = refl
    callers (r ∷ rs) = rw (k.is_warm r, callers rs) refl

next-one-alike : (xs ys : List PoolItem) → Alike xs ys → (r : ℕ) → IsNext xs r → IsNext ys r
next-one-alike xs ys k r i = on (is_warm ys r) refl
  where
    on : (b : Bool) → is_warm ys r ≡ b → IsNext ys r
    on true e = let f : is_warm xs r ≡ true = k.is_warm r ∙ e in rw e (sym (ap (has r) k.queued) ∙ (rw f at i))
    on false e = let f : is_warm xs r ≡ false = k.is_warm r ∙ e in rw e (sym (ap first (waiting-alike xs ys k)) ∙ (rw f at i))

first-alike : (p : ℕ) (f : Fact) (xs ys : List PoolItem) → Alike xs ys → FirstCome p xs f → FirstCome p ys f
first-alike p (fact.Granted r q c) xs ys k i = (i.0, next-one-alike xs ys k r i.1)
first-alike p _ xs ys k i = tt

pub all-first-alike : (p m : ℕ) (fs : List Fact) (xs ys : List PoolItem) → Alike xs ys → AllFirstCome p m xs fs → AllFirstCome p m ys fs
all-first-alike p m [] xs ys k i = tt
all-first-alike p m (f ∷ fs) xs ys k i = (first-alike p f xs ys k i.0, all-first-alike p m fs (after_fact p m f xs) (after_fact p m f ys) (alike-fact p m f xs ys k) i.1)
