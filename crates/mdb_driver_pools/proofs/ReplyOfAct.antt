-- The reply to an accepted act is one of those that go with it.
use Rattle.std.proofs.Common.{ℕ, ◌≡◌, ◌≢◌, Bool, true, false, List, [], ◌∷◌, Option, Some, None, is_some, nat_lt, refl, sym, ◌∙◌, if◌then◌else◌}
use Rattle.std.specs.Prelude.{slice_get, ⊤}
use Rattle.mdb_base.specs.declared.options.Options.{Options}
use Rattle.mdb_events.specs.declared.end.End.{End}
use Rattle.mdb_log.specs.declared.step.Step.{Step}
use Rattle.mdb_log.specs.declared.step.Act.{Act}
use Rattle.mdb_log.specs.declared.step.Act.TheVariants as Do
use Rattle.mdb_log.specs.declared.reply.Reply.TheVariants.{Done}
use Rattle.mdb_log.specs.declared.reply.Refused.{Refused as Why}
use Rattle.mdb_log.specs.declared.reply.Refused.TheVariants.{TimeBack}
use Rattle.mdb_log.specs.Acts.{IsDriverAct}
use Rattle.mdb_log.specs.Driver.{tells_outcome, tells_warm, tells_job, tells_end, is_done, answers}
use Rattle.mdb_log.specs.History.{Item, PoolItem, of_pool, given, last_moment}
use Rattle.mdb_log.specs.Connections.{has, pending_list}
use Rattle.mdb_log.specs.Requests.{end_of, outcome_of, is_claimed}
use Rattle.mdb_log.specs.Homes.{Home}
use Rattle.mdb_log.specs.Opening.{pool_options}
use Rattle.mdb_pool.specs.Core.{PoolCore}
use Rattle.mdb_pool_rules.specs.Answer.{first_job}
use Rattle.mdb_pool_rules.specs.Refusal.{first_row}
use Rattle.mdb_driver_rules.specs.Homes.{home_of, is_here}
use Rattle.mdb_driver_rules.specs.Answer.{pool_reply, reply_to}
use Rattle.mdb_driver_rules.specs.Facts.{step_facts}
use Rattle.mdb_driver_pools.specs.Finding.{index_of, missing_pool}
use Rattle.mdb_driver_rules.specs.Acts.{is_pool_act}
use Rattle.mdb_driver_rules.specs.Refusal.{rows_of, first_refusal, refused_by, ran_out, exhausted, refusal}
use Rattle.mdb_driver_pools.specs.Standing.{home, PoolsFit}
use Rattle.mdb_driver_rules.proofs.General.OneElement.{at-place}
use Rattle.mdb_driver_pools.proofs.OnePool.FoundAt.{place-within, home-placed}
use Rattle.mdb_driver_pools.proofs.OnePool.RefusedByItsRows.{rows-missing}

-- an outcome tells how the request stands
pub tells-how : (p : ℕ) (xs : List PoolItem) (r : ℕ) → tells_outcome (outcome_of p xs r) ≡ true
tells-how p xs r = on (end_of xs r) (given xs r) refl refl
  where
    at_pending : (c : ℕ) (b : Bool) → end_of xs r ≡ None → given xs r ≡ Some c → has c (pending_list xs) ≡ b → tells_outcome (outcome_of p xs r) ≡ true
    at_pending c true e f g = rw (e, f, g) refl
    at_pending c false e f g = rw (e, f, g) refl

    on : (a : Option End) (b : Option ℕ) → end_of xs r ≡ a → given xs r ≡ b → tells_outcome (outcome_of p xs r) ≡ true
    on (Some end) b e f = rw e refl
    on None None e f = rw (e, f) refl
    on None (Some c) e f = at_pending c (has c (pending_list xs)) e f refl

-- where what it was given is pending, it is not in hand
pub warm-how : (p : ℕ) (xs : List PoolItem) (r : ℕ) → ((c : ℕ) → given xs r ≡ Some c → has c (pending_list xs) ≡ true) → tells_warm (outcome_of p xs r) ≡ true
warm-how p xs r pends = on (end_of xs r) (given xs r) refl refl
  where
    on : (a : Option End) (b : Option ℕ) → end_of xs r ≡ a → given xs r ≡ b → tells_warm (outcome_of p xs r) ≡ true
    on (Some end) b e f = rw e refl
    on None None e f = rw (e, f) refl
    on None (Some c) e f = rw (e, f, pends c f) refl

ended-how : (p : ℕ) (xs : List PoolItem) (r : ℕ) → tells_end (if is_some (end_of xs r) then outcome_of p xs r else Done) ≡ true
ended-how p xs r = on (end_of xs r) refl
  where
    on : (a : Option End) → end_of xs r ≡ a → tells_end (if is_some (end_of xs r) then outcome_of p xs r else Done) ≡ true
    on None e = rw e refl
    on (Some end) e = rw e refl

tells-job : (p : ℕ) (claimed : ℕ → Bool) (cs : List ℕ) → tells_job (first_job p claimed cs) ≡ true
tells-job p claimed [] = refl
tells-job p claimed (c ∷ cs) = on (claimed c) refl (tells-job p claimed cs)
  where
    on : (b : Bool) → claimed c ≡ b → tells_job (first_job p claimed cs) ≡ true → tells_job (first_job p claimed (c ∷ cs)) ≡ true
    on true e rest = rw e rest
    on false e rest = rw e refl

-- a step that is accepted passes its rows
row-passes : (b : Bool) (why : Why) (rows : List (Bool × Why)) → first_row ((b, why) ∷ rows) ≡ None → first_row rows ≡ None
row-passes true why rows e = cc
row-passes false why rows e = e

pub not-refused : (a b : Option Why) → refused_by a b ≡ None → a ≡ None
not-refused None b e = refl
not-refused (Some why) b e = cc

module _ (o : Options) (pools : List PoolCore) (h : List Item) (z : PoolsFit (pool_options o) pools h) (m : ℕ) where
  abbrev at_m : Act → Step
  at_m act = record { moment = m; act = act }

  pub passes-rows : (act : Act) → refusal o h (at_m act) ≡ None → first_row (rows_of o h act) ≡ None
  passes-rows act e =
      row-passes (nat_lt m (last_moment h)) (TimeBack (last_moment h)) (rows_of o h act)
      (not-refused (first_refusal o h (at_m act)) (ran_out (exhausted o h (at_m act) (step_facts o h (at_m act)))) e)

  -- an accepted act of one pool concerns one
  pub homed : (act : Act) → is_pool_act act ≡ true → missing_pool pools act ≢ None → refusal o h (at_m act) ≡ None → (x : Home) × (home_of h act ≡ Some x)
  homed act k ne e = on (index_of pools act) refl
    where
      at_slot : (i : ℕ) (u : Option PoolCore) → index_of pools act ≡ Some i → slice_get pools i ≡ u → (x : Home) × (home_of h act ≡ Some x)
      at_slot i None f g = absurd (at-place pools i (place-within pools act i f) g)
      at_slot i (Some s) f g = (home s, home-placed (pool_options o) pools h z act k i s g f)

      on : (a : Option ℕ) → index_of pools act ≡ a → (x : Home) × (home_of h act ≡ Some x)
      on None f = absurd (ne (sym (rows-missing o pools h z act f k) ∙ passes-rows act e))
      on (Some i) f = at_slot i (slice_get pools i) f refl

  -- What a warm request was given after its step is pending.
  abbrev pub WarmPends : List Item → Act → Type 0
  WarmPends y (Do.Warm r a) = (x : Home) → home_of h (Do.Warm r a) ≡ Some x → (c : ℕ) → given (of_pool x.number y) r ≡ Some c → has c (pending_list (of_pool x.number y)) ≡ true
  WarmPends y _ = ⊤

  -- an act of which there is no more to tell
  abbrev only_done : Act → Bool
  only_done (Do.Request r a) = false
  only_done (Do.Warm r a) = false
  only_done (Do.Collect r) = false
  only_done Do.Claim = false
  only_done (Do.GiveUp r) = false
  only_done (Do.Take r q c) = false
  only_done _ = true

  done : (y : List Item) (act : Act) → only_done act ≡ true → (x : Option Home) → is_done (pool_reply h y act x) ≡ true
  done y (Do.Request r a) k x = cc
  done y (Do.Warm r a) k x = cc
  done y (Do.Collect r) k x = cc
  done y Do.Claim k x = cc
  done y (Do.GiveUp r) k x = cc
  done y (Do.Take r q c) k x = cc
  done y _ k None = refl
  done y _ k (Some x) = refl

  -- the reply, where y is the history after the step
  pub accepted-kind : (act : Act) → IsDriverAct act → refusal o h (at_m act) ≡ None → (y : List Item) → WarmPends y act → answers act (reply_to o h (at_m act) y act) ≡ true
  accepted-kind (Do.Open q) d e y w = absurd d
  accepted-kind (Do.Ready p) d e y w = absurd d
  accepted-kind (Do.Clear p service error) d e y w = absurd d
  accepted-kind (Do.Close p) d e y w = absurd d
  accepted-kind (Do.Request r a) d e y w =
      let x : (x : Home) × (home_of h (Do.Request r a) ≡ Some x) = homed (Do.Request r a) refl (λ k. cc) e in
      rw x.1 (tells-how x.0.number (of_pool x.0.number y) r)
  accepted-kind (Do.Warm r a) d e y w =
      let x : (x : Home) × (home_of h (Do.Warm r a) ≡ Some x) = homed (Do.Warm r a) refl (λ k. cc) e in
      rw x.1 (warm-how x.0.number (of_pool x.0.number y) r (w x.0 x.1))
  accepted-kind (Do.Collect r) d e y w =
      let x : (x : Home) × (home_of h (Do.Collect r) ≡ Some x) = homed (Do.Collect r) refl (λ k. cc) e in
      rw x.1 (tells-how x.0.number (of_pool x.0.number y) r)
  accepted-kind (Do.Take r q c) d e y w =
      let x : (x : Home) × (home_of h (Do.Take r q c) ≡ Some x) = homed (Do.Take r q c) refl (λ k. cc) e in
      rw x.1 refl
  accepted-kind Do.Claim d e y w = on (home_of h Do.Claim)
    where
      on : (x : Option Home) → tells_job (pool_reply h y Do.Claim x) ≡ true
      on None = refl
      on (Some x) = tells-job x.number (is_claimed h x.number) (pending_list (of_pool x.number h))
  accepted-kind (Do.GiveUp r) d e y w = on (home_of h (Do.GiveUp r))
    where
      on : (x : Option Home) → tells_end (pool_reply h y (Do.GiveUp r) x) ≡ true
      on None = refl
      on (Some x) = ended-how x.number (of_pool x.number h) r
  accepted-kind (Do.Rtt a q sample) d e y w = on (is_here h a q) refl
    where
      on : (b : Bool) → is_here h a q ≡ b → answers (Do.Rtt a q sample) (reply_to o h (at_m (Do.Rtt a q sample)) y (Do.Rtt a q sample)) ≡ true
      on true f = rw f refl
      on false f = rw f refl
  accepted-kind (Do.Error r error) d e y w = refl
  accepted-kind (Do.Hello a q came) d e y w = refl
  accepted-kind (Do.Beaten a q duration came) d e y w = refl
  accepted-kind (Do.Hosts hosts) d e y w = refl
  accepted-kind (Do.Want x) d e y w = refl
  accepted-kind (Do.Unwant x) d e y w = refl
  accepted-kind (Do.Established q c how) d e y w = done y (Do.Established q c how) refl (home_of h (Do.Established q c how))
  accepted-kind (Do.Failed q c at error) d e y w = done y (Do.Failed q c at error) refl (home_of h (Do.Failed q c at error))
  accepted-kind (Do.Return r used) d e y w = done y (Do.Return r used) refl (home_of h (Do.Return r used))
  accepted-kind (Do.Pin r) d e y w = done y (Do.Pin r) refl (home_of h (Do.Pin r))
  accepted-kind (Do.Replicate q c) d e y w = done y (Do.Replicate q c) refl (home_of h (Do.Replicate q c))
  accepted-kind (Do.Unpin q c) d e y w = done y (Do.Unpin q c) refl (home_of h (Do.Unpin q c))
  accepted-kind (Do.Maintain a) d e y w = done y (Do.Maintain a) refl (home_of h (Do.Maintain a))
  accepted-kind (Do.Expire a) d e y w = done y (Do.Expire a) refl (home_of h (Do.Expire a))
  accepted-kind (Do.Beat a q) d e y w = done y (Do.Beat a q) refl (home_of h (Do.Beat a q))
  accepted-kind (Do.ClusterTime time) d e y w = done y (Do.ClusterTime time) refl (home_of h (Do.ClusterTime time))
  accepted-kind Do.Stop d e y w = done y Do.Stop refl (home_of h Do.Stop)
