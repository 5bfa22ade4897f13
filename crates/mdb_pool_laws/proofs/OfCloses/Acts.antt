-- Every close that an accepted act of a pool makes has a cause.
use Rattle.std.proofs.Common.{ℕ, ◌≡◌, Bool, true, false, if◌then◌else◌, List, [], ◌∷◌, Option, Some, None, is_some, refl, sym, ◌∙◌, ap}
use Rattle.mdb_base.specs.declared.address.ServerAddress.{ServerAddress}
use Rattle.mdb_base.specs.declared.object_id.ObjectId.{ObjectId}
use Rattle.mdb_base.specs.declared.error.Error.{Error}
use Rattle.mdb_events.specs.declared.end.End.TheVariants.{Cleared, TimedOut}
use Rattle.mdb_events.specs.declared.fact.Fact.TheVariants.{Raised}
use Rattle.mdb_events.specs.declared.reasons.ConnectionClosedReason.TheVariants.{Error as ErrorReason}
use Rattle.mdb_log.specs.declared.options.PoolOptions.{PoolOptions}
use Rattle.mdb_log.specs.declared.step.Act.{Act}
use Rattle.mdb_log.specs.declared.step.Act.TheVariants.{Maintain, GiveUp}
use Rattle.mdb_log.specs.History.{PoolItem, asked, warmed, gave_up, returned, pinned_by, established, failed, replicated, taken, unpinned, created, closed, checked_in, granted, ended, raised, pool_created, pool_ready, pool_closed, after_fact, after_facts, is_number}
use Rattle.mdb_log.specs.Connections.{has, pending_list, known_service, granted_to}
use Rattle.mdb_log.specs.Requests.{queued, end_of}
use Rattle.mdb_log.specs.State.{State, is_new, is_ready, is_paused, is_closed, state_of}
use Rattle.mdb_log.proofs.Numbers.{same-number}
use Rattle.mdb_pool_rules.specs.Facts.{new_pool_error, closed_fact, cleared_fact, clear_facts, readied, turned_away, overdue, fail_requester, act_facts}
use Rattle.mdb_pool_rules.specs.Serving.{serving}
use Rattle.mdb_pool_rules.specs.Answer.{all_facts}
use Rattle.mdb_sound.specs.Laws.{IsOver}
use Rattle.mdb_sound.specs.Sound.{Sound, was_closed, just_failed}
use Rattle.mdb_sound.proofs.Acts.{Done, requests as asks, warms, gives_up, establishes, fails, returns, pins_one, replicates, takes, unpins, maintains, expires, readies, clears, shuts, tells}
use Rattle.mdb_sound.proofs.Generations.{closed-for-good}
use Rattle.mdb_pool_rules.specs.Rested.{Rested}
use Rattle.mdb_pool_laws.specs.CloseCauses.{failing, AllCaused}
use Rattle.mdb_pool_laws.proofs.OfCloses.Quiet.{caused-both, end-caused, ends-caused}
use Rattle.mdb_pool_laws.proofs.OfCloses.Backs.{returned-caused, given_up-caused, unpinned-caused, established-caused, requester-caused}
use Rattle.mdb_pool_laws.proofs.OfCloses.Sweeps.{maintained-caused, closed-caused}
use Rattle.mdb_pool_laws.proofs.OfCloses.Serving.{serving-caused}

-- a pool that is closed was closed
pub shut-was : (o : PoolOptions) (xs : List PoolItem) → state_of o xs ≡ is_closed → was_closed xs ≡ true
shut-was o [] e = cc
shut-was o (pool_created ∷ xs) e = on o.load_balanced refl
  where
    on : (b : Bool) → o.load_balanced ≡ b → was_closed (pool_created ∷ xs) ≡ true
    on true f = let g : is_ready ≡ is_closed = sym (ap (λ b. if b then is_ready else is_new) f) ∙ e in cc
    on false f = let g : is_new ≡ is_closed = sym (ap (λ b. if b then is_ready else is_new) f) ∙ e in cc
shut-was o (pool_ready ∷ xs) e = cc
shut-was o (pool_closed ∷ xs) e = refl
shut-was o (raised None error ∷ xs) e = cc
shut-was o (raised (Some s) error ∷ xs) e = shut-was o xs e
shut-was o (asked r m ∷ xs) e = shut-was o xs e
shut-was o (warmed r m ∷ xs) e = shut-was o xs e
shut-was o (gave_up r ∷ xs) e = shut-was o xs e
shut-was o (returned r used ∷ xs) e = shut-was o xs e
shut-was o (pinned_by r ∷ xs) e = shut-was o xs e
shut-was o (established c how m ∷ xs) e = shut-was o xs e
shut-was o (failed c service ∷ xs) e = shut-was o xs e
shut-was o (replicated c ∷ xs) e = shut-was o xs e
shut-was o (taken r c ∷ xs) e = shut-was o xs e
shut-was o (unpinned c ∷ xs) e = shut-was o xs e
shut-was o (created c m ∷ xs) e = shut-was o xs e
shut-was o (closed c ∷ xs) e = shut-was o xs e
shut-was o (checked_in c m ∷ xs) e = shut-was o xs e
shut-was o (granted r c ∷ xs) e = shut-was o xs e
shut-was o (ended r end ∷ xs) e = shut-was o xs e

-- where a connection is pending the pool is not closed
pending-unshut : (o : PoolOptions) (xs : List PoolItem) → Sound xs → (c : ℕ) → has c (pending_list xs) ≡ true → state_of o xs ≡ is_closed → ⊥
pending-unshut o xs s c h e =
    let over : IsOver o xs = closed-for-good o xs s (shut-was o xs e) in
    let none : has c (pending_list xs) ≡ false = ap (has c) over.none_pending in
    absurd (let k : true ≡ false = sym h ∙ none in cc)

module _ (p : ℕ) (a : ServerAddress) (o : PoolOptions) (here : ServerAddress → Option ℕ) (m : ℕ) (act : Act) where
  pub readied-caused : (xs zs : List PoolItem) → AllCaused p o here m act zs (readied p a o m xs)
  readied-caused xs zs = on (state_of o xs) refl
    where
      on : (t : State) → state_of o xs ≡ t → AllCaused p o here m act zs (readied p a o m xs)
      on is_new e = rw e (tt, tt)
      on is_ready e = rw e tt
      on (is_paused error) e = rw e (tt, tt)
      on is_closed e = rw e tt

  turned-caused : (ys zs : List PoolItem) (r : ℕ) → AllCaused p o here m act zs (turned_away p a o m ys r)
  turned-caused ys zs r = on (state_of o ys) refl
    where
      on : (t : State) → state_of o ys ≡ t → AllCaused p o here m act zs (turned_away p a o m ys r)
      on is_new e = rw e (end-caused p o here m act p a ys zs r (Cleared new_pool_error))
      on is_ready e = rw e tt
      on (is_paused error) e = rw e (end-caused p o here m act p a ys zs r (Cleared error))
      on is_closed e = rw e tt

  pub clear-caused : (xs zs : List PoolItem) (service : Option ObjectId) (error : Error) → AllCaused p o here m act zs (clear_facts p a o m xs service error)
  clear-caused xs zs service error = on (state_of o xs) service refl
    where
      on : (t : State) (k : Option ObjectId) → state_of o xs ≡ t → AllCaused p o here m act zs (clear_facts p a o m xs k error)
      on is_closed k e = rw e tt
      on is_new None e = rw e (tt, tt)
      on is_new (Some s) e = rw e (tt, (tt, tt))
      on (is_paused why) None e = rw e (tt, tt)
      on (is_paused why) (Some s) e = rw e (tt, (tt, tt))
      on is_ready (Some s) e = rw e (tt, (tt, tt))
      on is_ready None e = rw e (tt, (tt, ends-caused p o here m act p a xs (after_facts p m (Raised p None error ∷ cleared_fact p a None error ∷ []) zs) (Cleared error) (queued xs)))

  -- a connection that just failed is closed; the facts of another pool's failure close none of this one
  pub failed-caused : (q : ℕ) (b : ServerAddress) (ws ys : List PoolItem) (c : ℕ) (error : Error) → (q ≡ p → just_failed ys c ≡ true) → AllCaused p o here m act ys (closed_fact q b c ErrorReason (known_service ws c) ∷ fail_requester q b o m ws error (granted_to ws c))
  failed-caused q b ws ys c error w = (λ i. failing (w i) refl, requester-caused p a o here m act q b ws (after_fact p m (closed_fact q b c ErrorReason (known_service ws c)) ys) error (granted_to ws c))

  module _ (xs : List PoolItem) (s : Sound xs) (z : Rested xs) where
    -- the facts of the act itself
    pub act-caused : (ys : List PoolItem) → ((b : ServerAddress) → act ≡ Maintain b → is_number (here b) p ≡ true) → Done m xs act ys → AllCaused p o here m act ys (act_facts p a o m xs ys act)
    act-caused ys at d = on act ys refl d
      where
        on : (k : Act) (ys : List PoolItem) → act ≡ k → Done m xs k ys → AllCaused p o here m act ys (act_facts p a o m xs ys k)
        on k ys same (asks r b w) = (tt, turned-caused ys ys r)
        on k ys same (warms r b w) = turned-caused ys ys r
        on k ys same (gives_up r w) = by (is_some (end_of xs r)) refl
          where
            by : (b : Bool) → is_some (end_of xs r) ≡ b → AllCaused p o here m act (gave_up r ∷ xs) (act_facts p a o m xs (gave_up r ∷ xs) (GiveUp r))
            by true e = rw e tt
            by false e = rw e (given_up-caused p a o here m act xs r w.asked_for)
        on k ys same (establishes q c how w) = (tt, established-caused p a o here m act xs c how (pending-unshut o xs s c w))
        on k ys same (fails q c at error service w) = failed-caused p a (failed c service ∷ xs) (failed c service ∷ xs) c error (λ i. same-number c)
        on k ys same (returns r used h) = returned-caused p a o here m act xs r used
        on k ys same (pins_one r h) = tt
        on k ys same (replicates q c w) = tt
        on k ys same (takes r q c w) = tt
        on k ys same (unpins q c w) = unpinned-caused p a o here m act xs c
        on k ys same (maintains b) = maintained-caused p a o here m act b same (at b same) xs
        on k ys same (expires b) = ends-caused p o here m act p a xs xs TimedOut (overdue o m xs)
        on k ys same (readies q) = readied-caused xs xs
        on k ys same (clears q service error) = clear-caused xs xs service error
        on k ys same (shuts q) = closed-caused p a o here m act xs s z.apart
        on k ys same (tells j quiet) = rw (quiet p a o) tt

    -- and then those of the serving
    pub all-caused : (ys : List PoolItem) → AllCaused p o here m act ys (act_facts p a o m xs ys act) → AllCaused p o here m act ys (all_facts p a o m xs ys act)
    all-caused ys d = caused-both p o here m act (act_facts p a o m xs ys act) (serving p a o m (after_facts p m (act_facts p a o m xs ys act) ys)) ys d (serving-caused p a o here m act (after_facts p m (act_facts p a o m xs ys act) ys))
