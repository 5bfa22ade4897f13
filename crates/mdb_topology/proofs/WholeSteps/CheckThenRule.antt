-- A step that does nothing in a pool by itself: its facts are that of a check, and those of its rule.
use Rattle.std.proofs.Common.{ℕ, ◌≡◌, ◌≤◌, true, false, if◌then◌else◌, List, [], ◌∷◌, ◌++◌, length, Option, Some, None, nat_lt, refl, sym, ◌∙◌, ap, subst, arith, append-nil}
use Rattle.std.specs.Prelude.{flat_map}
use Rattle.std.proofs.lemmas.List.{append_assoc}
use Rattle.std.proofs.lemmas.Bool.Decides.{nat_tests}
use Rattle.mdb_base.specs.declared.options.Options.{Options}
use Rattle.mdb_events.specs.declared.fact.Fact.{Fact}
use Rattle.mdb_events.specs.declared.fact.Fact.TheVariants.{Granted}
use Rattle.mdb_log.specs.declared.options.PoolOptions.{PoolOptions}
use Rattle.mdb_log.specs.declared.step.Step.{Step}
use Rattle.mdb_log.specs.declared.step.Act.{Act}
use Rattle.mdb_log.specs.declared.step.Act.TheVariants as Do
use Rattle.mdb_log.specs.declared.reply.Refused.TheVariants.{Exhausted}
use Rattle.mdb_log.specs.declared.reply.What.{What}
use Rattle.mdb_log.specs.declared.reply.What.TheVariants.{Servers}
use Rattle.mdb_log.specs.declared.reply.Reply.{Reply}
use Rattle.mdb_log.specs.declared.reply.Reply.TheVariants.{Changed, Count, Done}
use Rattle.mdb_log.specs.History.{Item, did, made, of_pool, with_facts, with_answer}
use Rattle.mdb_log.specs.Homes.{Home}
use Rattle.mdb_log.specs.LegalLog.{FirstCome, AllFirstCome, IsFairAnswer}
use Rattle.mdb_log.specs.Legal.{IsNext}
use Rattle.mdb_log.specs.Fresh.{GrantsFresh}
use Rattle.mdb_log.specs.Beside.{FreshGrant, AllFreshGrants}
use Rattle.mdb_log.specs.Opening.{pool_options}
use Rattle.mdb_log.specs.Own.{IsAccepted}
use Rattle.mdb_log.proofs.Later.{with_answer-accepted}
use Rattle.mdb_pool.specs.Core.{PoolCore}
use Rattle.mdb_pool_rules.specs.Serving.{serving}
use Rattle.mdb_pool_rules.proofs.NoMove.{served-serving}
use Rattle.mdb_driver_rules.specs.Homes.{home_of, begun}
use Rattle.mdb_driver_rules.specs.Turns.{in_turn}
use Rattle.mdb_driver_rules.specs.Monitors.{heartbeat}
use Rattle.mdb_driver_rules.specs.Description.{rule_after, description_of}
use Rattle.mdb_driver_rules.specs.Publishing.{told_by}
use Rattle.mdb_driver_rules.specs.Facts.{trouble, clear_of, clearing, asking, own_facts, serve_all, step_facts}
use Rattle.mdb_driver_rules.specs.Refusal.{first_refusal, first_past, sooner, exhausted, ran_out, refused_by, refusal}
use Rattle.mdb_driver_rules.specs.Answer.{reply_to, answered, answer}
use Rattle.mdb_driver_pools.specs.Standing.{home, PoolsStand}
use Rattle.mdb_driver_pools.specs.Telling.{Comes, Tells}
use Rattle.mdb_topology.specs.Marking.{spoken}
use Rattle.mdb_driver_rules.proofs.LeavesAsItIs.{turn-append}
use Rattle.mdb_driver_rules.proofs.FactsPastLimits.{past-append}
use Rattle.mdb_driver_rules.proofs.General.OneElement.{flat-none}
use Rattle.mdb_driver_rules.proofs.SameHistories.{SameFor, IsOutside, IsPlain, outside, same-fact, same-trans, same-sym, same-reply}
use Rattle.mdb_driver_pools.proofs.PartsInTurn.{same-stand}

-- grants are as fair, and of connections as fresh, where the pools know the same
pub same-fair : (m : ℕ) (fs : List Fact) (h k : List Item) → SameFor h k → AllFirstCome m h fs → AllFirstCome m k fs
same-fair m [] h k e a = tt
same-fair m (f ∷ fs) h k e a = (one f a.0, same-fair m fs (made m f ∷ h) (made m f ∷ k) (same-fact m f h k e) a.1)
  where
    one : (f : Fact) → FirstCome h f → FirstCome k f
    one (Granted r q c) b = subst (λ xs. IsNext xs r) (sym (e.items q)) b
    one _ b = tt

pub same-fresh : (o : PoolOptions) (m : ℕ) (fs : List Fact) (h k : List Item) → SameFor h k → AllFreshGrants o m h fs → AllFreshGrants o m k fs
same-fresh o m [] h k e a = tt
same-fresh o m (f ∷ fs) h k e a = (one f a.0, same-fresh o m fs (made m f ∷ h) (made m f ∷ k) (same-fact m f h k e) a.1)
  where
    one : (f : Fact) → FreshGrant o m h f → FreshGrant o m k f
    one (Granted r q c) b = subst (λ xs. GrantsFresh o m xs (Granted r q c)) (sym (e.items q)) b
    one _ b = tt

-- an act of no pool has no facts of its own
pub no-own : (o : Options) (h : List Item) (m : ℕ) (act : Act) → IsOutside act → (x : Option Home) (k : List Item) → own_facts o h (record { moment = m; act = act }) x k ≡ []
no-own o h m act c None k = refl
no-own o h m (Do.Error r e) c (Some x) k = refl
no-own o h m (Do.Hello a p came) c (Some x) k = refl
no-own o h m (Do.Beat a p) c (Some x) k = refl
no-own o h m (Do.Beaten a p d came) c (Some x) k = refl
no-own o h m (Do.Rtt a p d) c (Some x) k = refl
no-own o h m (Do.Hosts hosts) c (Some x) k = refl
no-own o h m (Do.ClusterTime t) c (Some x) k = refl
no-own o h m (Do.Want w) c (Some x) k = refl
no-own o h m (Do.Unwant w) c (Some x) k = refl
no-own o h m Do.Stop c (Some x) k = refl
no-own o h m _ c (Some x) k = elim c [ ]

pub accepted-plain : (reply : Reply) → IsPlain reply → IsAccepted reply
accepted-plain Done c = tt
accepted-plain (Changed b) c = tt
accepted-plain (Count n) c = tt
accepted-plain _ c = elim c [ ]

fair-plain : (h : List Item) (step : Step) (reply : Reply) (fs : List Fact) → IsPlain reply → AllFirstCome step.moment (did step reply ∷ h) fs → IsFairAnswer h step reply fs
fair-plain h step Done fs c a = a
fair-plain h step (Changed b) fs c a = a
fair-plain h step (Count n) fs c a = a
fair-plain h step _ fs c a = elim c [ ]

-- pools that are served have nothing to serve
pub served-all : (o : Options) (m : ℕ) (pools : List PoolCore) (k : List Item) → PoolsStand (pool_options o) pools k → serve_all o m k ≡ []
served-all o m pools k z =
    ap (flat_map (λ (x : Home). serving x.number x.address (pool_options o) m (of_pool x.number k))) z.fit.homes_are
    ∙ flat-none home (λ (x : Home). serving x.number x.address (pool_options o) m (of_pool x.number k)) pools (λ j s at. served-serving (pool_options o) (of_pool s.pool k) (z.served s.pool) s.pool s.address m)

module _ (o : Options) (h : List Item) (m : ℕ) (act : Act) where
  abbrev step : Step
  step = record { moment = m; act = act }

  abbrev k : List Item
  k = begun h step

  -- what a check and its rule tell
  abbrev pub told : List (List Item → List Fact)
  told = (λ k. heartbeat o h act) ∷ told_by o m (rule_after o h step) (description_of o h)

  abbrev pub F : List Fact
  F = in_turn m told k

  -- the parts after those of the rule
  abbrev rest : List (List Item → List Fact)
  rest = clearing o m (trouble o h step) (clear_of o h step) ∷ asking o (trouble o h step) (clear_of o h step) ∷ own_facts o h step (home_of h act) ∷ serve_all o m ∷ []

  pub told-first : step_facts o h step ≡ F ++ in_turn m rest (with_facts m F k)
  told-first = turn-append m told rest k

  -- the first number past a limit refuses the step
  refused-first : (what : What) → first_refusal o h step ≡ None → length (description_of o k).servers ≤ 128 → first_past o m k (step_facts o h step) ≡ Some what → refusal o h step ≡ Some (Exhausted what)
  refused-first what first few past =
      let less : nat_lt 128 (length (description_of o k).servers) ≡ false = grind (arith, nat_tests) in
      let all : exhausted o h step (step_facts o h step) ≡ Some what = ap (λ b. if b then Some Servers else first_past o m k (step_facts o h step)) less ∙ past in
      ap (λ x. refused_by x (ran_out (exhausted o h step (step_facts o h step)))) first ∙ ap ran_out all

  -- a number that its rule takes past a limit is the first
  pub past-told : (what : What) → first_past o m k F ≡ Some what → first_past o m k (step_facts o h step) ≡ Some what
  past-told what e =
      ap (first_past o m k) told-first
      ∙ (past-append o m k F (in_turn m rest (with_facts m F k))
      ∙ ap (λ x. sooner x (first_past o m (with_facts m F k) (in_turn m rest (with_facts m F k)))) e)

  pub refused-told : (what : What) → first_refusal o h step ≡ None → length (description_of o k).servers ≤ 128 → first_past o m k F ≡ Some what → refusal o h step ≡ Some (Exhausted what)
  refused-told what first few e = refused-first what first few (past-told what e)

  -- more than 128 servers
  pub refused-servers : first_refusal o h step ≡ None → nat_lt 128 (length (description_of o k).servers) ≡ true → refusal o h step ≡ Some (Exhausted Servers)
  refused-servers first many =
      let all : exhausted o h step (step_facts o h step) ≡ Some Servers = ap (λ b. if b then Some Servers else first_past o m k (step_facts o h step)) many in
      ap (λ x. refused_by x (ran_out (exhausted o h step (step_facts o h step)))) first ∙ ap ran_out all

  -- with what an error clears and asks
  abbrev pub said : List (List Item → List Fact)
  said = (λ k. heartbeat o h act) ∷ spoken o h step

  abbrev pub G : List Fact
  G = in_turn m said k

  -- the parts after those
  abbrev pub own_then_served : List (List Item → List Fact)
  own_then_served = own_facts o h step (home_of h act) ∷ serve_all o m ∷ []

  pub said-first : step_facts o h step ≡ G ++ in_turn m own_then_served (with_facts m G k)
  said-first =
      ap (λ ps. in_turn m ps k) (sym (append_assoc told (clearing o m (trouble o h step) (clear_of o h step) ∷ asking o (trouble o h step) (clear_of o h step) ∷ []) own_then_served))
      ∙ turn-append m said own_then_served k

  -- a number that they take past a limit
  pub refused-said : (what : What) → first_refusal o h step ≡ None → length (description_of o k).servers ≤ 128 → first_past o m k G ≡ Some what → refusal o h step ≡ Some (Exhausted what)
  refused-said what first few e =
      refused-first what first few (ap (first_past o m k) said-first
      ∙ (past-append o m k G (in_turn m own_then_served (with_facts m G k))
      ∙ ap (λ x. sooner x (first_past o m (with_facts m G k) (in_turn m own_then_served (with_facts m G k)))) e))

  pub refused-spoken : heartbeat o h act ≡ [] → (what : What) → first_refusal o h step ≡ None → length (description_of o k).servers ≤ 128 → first_past o m k (in_turn m (spoken o h step) k) ≡ Some what → refusal o h step ≡ Some (Exhausted what)
  refused-spoken quiet what first few e = refused-said what first few (ap (λ fs. first_past o m k (in_turn m ((λ k. fs) ∷ spoken o h step) k)) quiet ∙ e)

  module _ (pools later : List PoolCore) (facts : List Fact) (z : PoolsStand (pool_options o) pools h) (out : IsOutside act) (tells : Tells o m said pools later [] facts) where
    begins : SameFor h k
    begins = outside m act Done h out tt

    comes : Comes o m G later [] facts k
    comes = tells k (same-stand (pool_options o) pools h k begins z)

    pub facts-told : facts ≡ G
    facts-told = comes.added

    pub step-told : step_facts o h step ≡ G
    step-told =
        said-first
        ∙ (rw (no-own o h m act out (home_of h act) (with_facts m G k)) (ap (λ fs. G ++ (fs ++ [])) (served-all o m later (with_facts m G k) comes.stand))
        ∙ append-nil G)

    module _ (reply : Reply) (plain : IsPlain reply) where
      same : SameFor (with_facts m G k) (with_facts m G (did step reply ∷ h))
      same = same-reply m act reply h G out plain

      pub stands-told : PoolsStand (pool_options o) later (with_answer step reply facts h)
      stands-told =
          subst (λ fs. PoolsStand (pool_options o) later (with_answer step reply fs h)) (sym facts-told)
          (subst (PoolsStand (pool_options o) later) (sym (with_answer-accepted step reply G h (accepted-plain reply plain)))
          (same-stand (pool_options o) later (with_facts m G k) (with_facts m G (did step reply ∷ h)) same comes.stand))

      begins-true : SameFor k (did step reply ∷ h)
      begins-true = same-trans k h (did step reply ∷ h) (same-sym h k begins) (outside m act reply h out plain)

      pub fair-told : IsFairAnswer h step reply facts
      fair-told = fair-plain h step reply facts plain (subst (AllFirstCome m (did step reply ∷ h)) (sym facts-told) (same-fair m G k (did step reply ∷ h) begins-true comes.fair))

      pub fresh-told : AllFreshGrants (pool_options o) m (did step reply ∷ h) facts
      fresh-told = subst (AllFreshGrants (pool_options o) m (did step reply ∷ h)) (sym facts-told) (same-fresh (pool_options o) m G k (did step reply ∷ h) begins-true comes.fresh)

      -- the answer, where no row and no limit refuses the step
      pub answer-told : first_refusal o h step ≡ None → length (description_of o k).servers ≤ 128 → first_past o m k G ≡ None → reply_to o h step (with_facts m G k) act ≡ reply
          → answer o h step ≡ record { reply = reply; facts = facts }
      answer-told first few past replies =
          let less : nat_lt 128 (length (description_of o k).servers) ≡ false = grind (arith, nat_tests) in
          let spare : exhausted o h step G ≡ None = ap (λ b. if b then Some Servers else first_past o m k G) less ∙ past in
          let none : refusal o h step ≡ None = ap (λ fs. refused_by (first_refusal o h step) (ran_out (exhausted o h step fs))) step-told ∙ (ap (λ x. refused_by (first_refusal o h step) (ran_out x)) spare ∙ ap (λ x. refused_by x None) first) in
          ap (λ x. answered o h step x (step_facts o h step)) none
          ∙ (ap (answered o h step None) step-told
          ∙ (ap (λ b. record { reply = b; facts = G }) replies
          ∙ ap (λ fs. record { reply = reply; facts = fs }) (sym facts-told)))
