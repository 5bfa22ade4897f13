-- What a driver answers to any step keeps its history sound.
use Rattle.std.proofs.Common.{ℕ, ◌≡◌, true, List, [], ◌∷◌, Option, Some, None, is_some, nat_lt, refl, sym, subst}
use Rattle.mdb_base.specs.declared.address.ServerAddress.{ServerAddress}
use Rattle.mdb_base.specs.declared.options.Options.{Options}
use Rattle.mdb_describe.specs.Servers.{in_order, is_known}
use Rattle.mdb_events.specs.declared.fact.Fact.{Fact}
use Rattle.mdb_log.specs.declared.step.Step.{Step}
use Rattle.mdb_log.specs.declared.step.Act.{Act}
use Rattle.mdb_log.specs.declared.step.Act.TheVariants as Do
use Rattle.mdb_log.specs.declared.reply.Reply.{Reply}
use Rattle.mdb_log.specs.declared.reply.Refused.{Refused}
use Rattle.mdb_log.specs.declared.reply.Refused.TheVariants.{TimeBack}
use Rattle.mdb_log.specs.declared.reply.Reply.TheVariants.{Done as DoneReply}
use Rattle.mdb_log.specs.Acts.{IsDriverAct}
use Rattle.mdb_log.specs.History.{Item, did, of_pool, open_pool, last_moment, with_facts, with_answer}
use Rattle.mdb_log.specs.Own.{IsAccepted}
use Rattle.mdb_log.specs.Opening.{pool_options}
use Rattle.mdb_log.proofs.Later.{with_answer-accepted}
use Rattle.mdb_pool_rules.specs.Refusal.{first_row}
use Rattle.mdb_pool_rules.proofs.FirstRow.{first-passes}
use Rattle.mdb_pool_rules.specs.Rested.{Rested}
use Rattle.mdb_topology.specs.declared.topology.TopologyCore.{TopologyCore}
use Rattle.mdb_driver_rules.specs.Answer.{answer, reply_to}
use Rattle.mdb_driver_rules.specs.Description.{description_of}
use Rattle.mdb_driver_rules.specs.Facts.{step_facts}
use Rattle.mdb_driver_rules.specs.Homes.{begun}
use Rattle.mdb_topology.specs.Logging.{opening_step}
use Rattle.mdb_driver_rules.specs.Refusal.{rows_of, first_refusal, exhausted, ran_out, refused_by, refusal}
use Rattle.mdb_topology.specs.Standing.{StandsFor}
use Rattle.mdb_histories.specs.SoundHistory.{SoundHistory, MayCome}
use Rattle.mdb_histories.proofs.Accepted.{step-comes}
use Rattle.mdb_histories.proofs.Comes.{AllMayCome, come-sound}
use Rattle.mdb_histories.proofs.FailedSteps.{failed-come}
use Rattle.mdb_histories.proofs.Outside.{outside-come}
use Rattle.mdb_histories.proofs.PoolSteps.{pool-come}
use Rattle.mdb_histories.proofs.Replies.{accepted-reply, like-reply, like-come}
use Rattle.mdb_histories.proofs.Rest.{rested-none, each-rested}

first-none : (a b : Option Refused) → refused_by a b ≡ None → a ≡ None
first-none None b e = refl
first-none (Some why) b e = cc

-- an accepted step is refused by no row
rows-pass : (o : Options) (h : List Item) (step : Step) → refusal o h step ≡ None → first_row (rows_of o h step.act) ≡ None
rows-pass o h step e =
    let first : first_refusal o h step ≡ None = first-none (first_refusal o h step) (ran_out (exhausted o h step (step_facts o h step))) e in
    (first-passes (nat_lt step.moment (last_moment h)) (TimeBack (last_moment h)) (rows_of o h step.act) first).1

module _ (o : Options) (h : List Item) (s : SoundHistory h) (rest : (p : ℕ) → Rested (of_pool p h)) (step : Step) (come : first_row (rows_of o h step.act) ≡ None → AllMayCome step.moment (begun h step) (step_facts o h step)) where
  accepted : (reply : Reply) → IsAccepted reply → refusal o h step ≡ None → SoundHistory (with_answer step reply (step_facts o h step) h)
  accepted reply fine e =
      let rows : first_row (rows_of o h step.act) ≡ None = rows-pass o h step e in
      let facts : List Fact = step_facts o h step in
      let first : MayCome h (did step reply) = step-comes o h s rest step reply rows in
      let later : AllMayCome step.moment (did step reply ∷ h) facts = like-come step.moment facts (begun h step) (did step reply ∷ h) (like-reply step DoneReply reply h) (come rows) in
      subst SoundHistory (sym (with_answer-accepted step reply facts h fine)) (come-sound step.moment facts (did step reply ∷ h) (first, s) later)

  -- a step whose facts may come is answered soundly
  answer-sound : SoundHistory (with_answer step (answer o h step).reply (answer o h step).facts h)
  answer-sound = on (refusal o h step) refl
    where
      on : (why : Option Refused) → refusal o h step ≡ why → SoundHistory (with_answer step (answer o h step).reply (answer o h step).facts h)
      on (Some why) e = rw e s
      on None e = rw e (accepted (reply_to o h step (with_facts step.moment (step_facts o h step) (begun h step)) step.act) (accepted-reply o h step (with_facts step.moment (step_facts o h step) (begun h step)) step.act) e)

module _ (w : TopologyCore) (h : List Item) (z : StandsFor w h) (s : SoundHistory h) where
  abbrev o : Options
  o = w.options

  rest : (p : ℕ) → Rested (of_pool p h)
  rest = each-rested (pool_options o) w.pools.cores.items h z.pools.fit

  ordered : in_order (description_of o h).servers ≡ true
  ordered = rw z.described.known z.described.ordered

  open-for : (a : ServerAddress) → is_some (open_pool h a) ≡ is_known a (description_of o h).servers
  open-for a = rw z.described.known (z.described.open_for a)

  come-by : (m : ℕ) (act : Act) → IsDriverAct act → first_row (rows_of o h act) ≡ None → AllMayCome m (begun h (record { moment = m; act = act })) (step_facts o h (record { moment = m; act = act }))
  come-by m (Do.Failed q c at error) d rows = failed-come o h s rest m q c at error rows ordered open-for
  come-by m (Do.Error r e) d rows = outside-come o h s rest (record { moment = m; act = Do.Error r e }) rows tt
  come-by m (Do.Hello a p came) d rows = outside-come o h s rest (record { moment = m; act = Do.Hello a p came }) rows tt
  come-by m (Do.Beat a p) d rows = outside-come o h s rest (record { moment = m; act = Do.Beat a p }) rows tt
  come-by m (Do.Beaten a p n came) d rows = outside-come o h s rest (record { moment = m; act = Do.Beaten a p n came }) rows tt
  come-by m (Do.Rtt a p n) d rows = outside-come o h s rest (record { moment = m; act = Do.Rtt a p n }) rows tt
  come-by m (Do.Hosts hosts) d rows = outside-come o h s rest (record { moment = m; act = Do.Hosts hosts }) rows tt
  come-by m (Do.ClusterTime t) d rows = outside-come o h s rest (record { moment = m; act = Do.ClusterTime t }) rows tt
  come-by m (Do.Want r) d rows = outside-come o h s rest (record { moment = m; act = Do.Want r }) rows tt
  come-by m (Do.Unwant r) d rows = outside-come o h s rest (record { moment = m; act = Do.Unwant r }) rows tt
  come-by m Do.Stop d rows = outside-come o h s rest (record { moment = m; act = Do.Stop }) rows tt
  come-by m (Do.Open q) d rows = absurd d
  come-by m (Do.Ready q) d rows = absurd d
  come-by m (Do.Clear q service error) d rows = absurd d
  come-by m (Do.Close q) d rows = absurd d
  come-by m (Do.Request r a) d rows = pool-come o h s rest (record { moment = m; act = Do.Request r a }) rows refl
  come-by m (Do.Warm r a) d rows = pool-come o h s rest (record { moment = m; act = Do.Warm r a }) rows refl
  come-by m (Do.Maintain a) d rows = pool-come o h s rest (record { moment = m; act = Do.Maintain a }) rows refl
  come-by m (Do.Expire a) d rows = pool-come o h s rest (record { moment = m; act = Do.Expire a }) rows refl
  come-by m (Do.Collect r) d rows = pool-come o h s rest (record { moment = m; act = Do.Collect r }) rows refl
  come-by m Do.Claim d rows = pool-come o h s rest (record { moment = m; act = Do.Claim }) rows refl
  come-by m (Do.GiveUp r) d rows = pool-come o h s rest (record { moment = m; act = Do.GiveUp r }) rows refl
  come-by m (Do.Established q c how) d rows = pool-come o h s rest (record { moment = m; act = Do.Established q c how }) rows refl
  come-by m (Do.Return r used) d rows = pool-come o h s rest (record { moment = m; act = Do.Return r used }) rows refl
  come-by m (Do.Pin r) d rows = pool-come o h s rest (record { moment = m; act = Do.Pin r }) rows refl
  come-by m (Do.Replicate q c) d rows = pool-come o h s rest (record { moment = m; act = Do.Replicate q c }) rows refl
  come-by m (Do.Take r q c) d rows = pool-come o h s rest (record { moment = m; act = Do.Take r q c }) rows refl
  come-by m (Do.Unpin q c) d rows = pool-come o h s rest (record { moment = m; act = Do.Unpin q c }) rows refl

  pub keeps-sound : (step : Step) → IsDriverAct step.act → SoundHistory (with_answer step (answer o h step).reply (answer o h step).facts h)
  keeps-sound step d = answer-sound o h s rest step (come-by step.moment step.act d)

-- the answer to the opening of a driver begins a sound history
pub opening-sound : (o : Options) → SoundHistory (with_answer (opening_step o) (answer o [] (opening_step o)).reply (answer o [] (opening_step o)).facts [])
opening-sound o = answer-sound o [] tt (λ p. rested-none) (opening_step o) (λ rows. outside-come o [] tt (λ p. rested-none) (opening_step o) rows tt)
