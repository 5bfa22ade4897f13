-- A step that makes a change of the topology known: it is refused by a limit, or its answer is that of the change, after the fact of its check.
use Rattle.std.proofs.Common.{ℕ, ◌≡◌, ◌≤◌, ◌+◌, Bool, true, false, if◌then◌else◌, List, [], ◌∷◌, ◌++◌, map, length, Option, Some, None, is_some, nat_lt, append-nil, refl, sym, ◌∙◌, ap, subst, arith}
use Rattle.std.specs.Prelude.{unwrap_or, All}
use Rattle.mdb_base.specs.declared.address.ServerAddress.{ServerAddress}
use Rattle.mdb_base.specs.declared.options.Options.{Options}
use Rattle.mdb_describe.specs.declared.topology.TopologyDescription.{TopologyDescription}
use Rattle.mdb_describe.specs.declared.diff.Diff.{Diff}
use Rattle.mdb_describe.specs.Differences.{difference}
use Rattle.mdb_describe.specs.Servers.{in_order}
use Rattle.mdb_events.specs.declared.fact.Fact.{Fact}
use Rattle.mdb_monitor.specs.Standing.{StandsFor as MonitorStands}
use Rattle.mdb_log.specs.declared.step.Step.{Step}
use Rattle.mdb_log.specs.declared.reply.Reply.TheVariants.{Changed}
use Rattle.mdb_log.specs.declared.reply.Refused.TheVariants.{Exhausted}
use Rattle.mdb_log.specs.declared.reply.What.{What}
use Rattle.mdb_log.specs.declared.reply.What.TheVariants.{Servers, Pool}
use Rattle.mdb_log.specs.History.{Item, with_facts}
use Rattle.mdb_log.specs.Homes.{homes}
use Rattle.mdb_pool.specs.Core.{PoolCore}
use Rattle.mdb_topology.specs.declared.topology.TopologyCore.{TopologyCore}
use Rattle.mdb_topology.specs.declared.transition.Transition.{Transition}
use Rattle.mdb_topology.specs.declared.monitors.monitoring.Monitoring.TheVariants.{Same}
use Rattle.mdb_driver_rules.specs.Homes.{begun}
use Rattle.mdb_driver_rules.specs.Description.{rule_after, applied, description_of, known_after, is_stop}
use Rattle.mdb_driver_rules.specs.Limits.{past_last}
use Rattle.mdb_driver_rules.specs.Monitors.{setting, heartbeat}
use Rattle.mdb_driver_pools.specs.Planned.{opened_by}
use Rattle.mdb_driver_rules.specs.Publishing.{told_by, telling, publication}
use Rattle.mdb_driver_rules.specs.Refusal.{first_past, sooner, refusal, first_refusal}
use Rattle.mdb_driver_rules.specs.Turns.{in_turn}
use Rattle.mdb_topology.specs.Standing.{StandsFor}
use Rattle.mdb_driver_pools.specs.Standing.{home}
use Rattle.mdb_topology.specs.Stepping.{with_place, Follows, BecomesOf}
use Rattle.mdb_topology.specs.Changing.{IsUpdating, IsTold, passes_limit, IsTelling, IsChanged, ChangesTo, change_past}
use Rattle.mdb_topology.proofs.WholeSteps.TopologyStep.{telling-quiet, known-applied, follows-told, telling-outside, telling-still}
use Rattle.mdb_driver_rules.proofs.LeavesAsItIs.{turn-append}
use Rattle.mdb_driver_rules.proofs.FactsPastLimits.{past-append}
use Rattle.mdb_driver_rules.proofs.PoolsPastLimits.{telling-past, free-homes}
use Rattle.mdb_topology.proofs.WholeSteps.RefusedOfNoPool.{outside-refusal}
use Rattle.mdb_driver_rules.proofs.SameHistories.{IsPlain, IsOutside}
use Rattle.mdb_topology.proofs.WholeSteps.CheckThenRule.{refused-told, refused-servers, said}
use Rattle.std.proofs.lemmas.List.{length-map}
use Rattle.std.proofs.lemmas.Bool.Decides.{nat_tests}
use Rattle.mdb_driver_rules.specs.Answer.{reply_to}
use Rattle.mdb_driver_rules.specs.Facts.{trouble}
use Rattle.mdb_topology.specs.declared.transition.Decision.{Decision}
use Rattle.mdb_topology.specs.declared.transition.Decision.TheVariants.{Refused, Accepted, Repeated}
use Rattle.mdb_topology.proofs.OfMonitors.StepAtMonitor.{same-watches}
use Rattle.mdb_driver_rules.proofs.NumbersWithinLimits.{take_numbers, first-free}
use Rattle.mdb_topology.proofs.OfMonitors.FactsOfCheck.{heartbeat-calm, told-front}
use Rattle.mdb_driver_rules.proofs.Still.{still-check, still-connects, still-asking}
use Rattle.mdb_topology.proofs.OfMonitors.ChangesNoPool.{Watches, watched-fit, watched-counts}

-- where a number is past the limit, it is one of a pool
past-pool : (o : Options) (n : ℕ) (added : List ServerAddress) → is_some (past_last o n added) ≡ true → past_last o n added ≡ Some Pool
past-pool o n [] e = cc
past-pool o n (a ∷ more) e = on (nat_lt (unwrap_or o.limit_pool 4294967295) (n + length more)) refl e
  where
    on : (b : Bool) → nat_lt (unwrap_or o.limit_pool 4294967295) (n + length more) ≡ b → is_some (past_last o n (a ∷ more)) ≡ true → past_last o n (a ∷ more) ≡ Some Pool
    on true f e = rw f refl
    on false f e = let w : is_some (past_last o n (a ∷ more)) ≡ false = rw f refl in let t : true ≡ false = sym e ∙ w in cc

past-none : (o : Options) (n : ℕ) (added : List ServerAddress) → is_some (past_last o n added) ≡ false → past_last o n added ≡ None
past-none o n added e = on (past_last o n added) refl
  where
    on : (x : Option What) → past_last o n added ≡ x → past_last o n added ≡ None
    on None f = f
    on (Some what) f = let w : is_some (past_last o n added) ≡ true = rw f refl in let t : true ≡ false = sym w ∙ e in cc

-- The step makes u known and is refused by no row.
pub record MakesKnown (w : TopologyCore) (h : List Item) (step : Step) (u : TopologyDescription) : Type 0 where
  pub out : IsOutside step.act
  pub calm : trouble w.options h step ≡ None
  pub passes : first_refusal w.options h step ≡ None
  pub known : known_after (rule_after w.options h step) w.description ≡ Some u
  pub tells : told_by w.options step.moment (rule_after w.options h step) (description_of w.options h) ≡ publication w.options step.moment w.description u
  pub replies : (fs : List Fact) → reply_to w.options h step (with_facts step.moment fs (begun h step)) step.act ≡ Changed (is_some (difference w.description.servers u.servers))
  pub goes_on : is_stop step.act ≡ false
  pub free : take_numbers (heartbeat w.options h step.act) ≡ false

module _ (w : TopologyCore) (h : List Item) (z : StandsFor w h) (step : Step) (u : TopologyDescription) (c : MakesKnown w h step u) where
  abbrev o : Options
  o = w.options

  abbrev m : ℕ
  m = step.moment

  abbrev pools : List PoolCore
  pools = w.pools.cores.items

  abbrev d : Option Diff
  d = difference w.description.servers u.servers

  abbrev beats : List Fact
  beats = heartbeat o h step.act

  abbrev parts : List (List Item → List Fact)
  parts = (λ k. beats) ∷ publication o m w.description u

  parts-are : parts ≡ (λ k. beats) ∷ told_by o m (rule_after o h step) (description_of o h)
  parts-are = ap (λ ps. (λ (k : List Item). beats) ∷ ps) (sym c.tells)

  known-begun : description_of o (begun h step) ≡ u
  known-begun = ap (applied (rule_after o h step)) z.described.known ∙ (known-applied (rule_after o h step) w.description ∙ ap (λ x. unwrap_or x w.description) c.known)

  -- what a difference takes past a limit, where there are n pools
  abbrev past-of : ℕ → Option Diff → Option What
  past-of n None = None
  past-of n (Some x) = past_last o n x.added

  past-telling : (k : List Item) (x : Option Diff) → first_past o m k (in_turn m (telling o m w.description u x) k) ≡ past-of (length (homes k)) x
  past-telling k None = refl
  past-telling k (Some x) = telling-past o m w.description u x k

  homes-begun : length (homes (begun h step)) ≡ length pools
  homes-begun = ap length z.pools.fit.homes_are ∙ length-map pools home

  past-parts : first_past o m (begun h step) (in_turn m parts (begun h step)) ≡ past-of (length pools) d
  past-parts =
      let k : List Item = begun h step in
      let j : List Item = with_facts m beats k in
      past-append o m k beats (in_turn m (publication o m w.description u) j)
      ∙ (ap (λ x. sooner x (first_past o m j (in_turn m (publication o m w.description u) j))) (first-free o m k beats c.free)
      ∙ (past-telling j d
      ∙ ap (λ x. past-of x d) (ap length (free-homes m beats k c.free) ∙ homes-begun)))

  past-true : (x : Option Diff) → passes_limit w x ≡ true → past-of (length pools) x ≡ Some Pool
  past-true None e = cc
  past-true (Some x) e = past-pool o (length pools) x.added e

  past-false : (x : Option Diff) → passes_limit w x ≡ false → past-of (length pools) x ≡ None
  past-false None e = refl
  past-false (Some x) e = past-none o (length pools) x.added e

  abbrev pool-past : Option What
  pool-past = if passes_limit w d then Some Pool else None

  -- a limit that the change would pass refuses the step
  pub refused-change : (what : What) → change_past w u ≡ Some what → refusal o h step ≡ Some (Exhausted what)
  refused-change what e = on (nat_lt 128 (length u.servers)) refl
    where
      on-pool : (b : Bool) → passes_limit w d ≡ b → length u.servers ≤ 128 → pool-past ≡ Some what → refusal o h step ≡ Some (Exhausted what)
      on-pool true g few s =
          let it : Some Pool ≡ Some what = sym (ap (λ b. if b then Some Pool else None) g) ∙ s in
          let is : Pool ≡ what = cc in
          subst (λ x. refusal o h step ≡ Some (Exhausted x)) is
          (refused-told o h m step.act Pool c.passes (subst (λ t. length t.servers ≤ 128) (sym known-begun) few)
          (ap (λ ps. first_past o m (begun h step) (in_turn m ps (begun h step))) (sym parts-are) ∙ (past-parts ∙ past-true d g)))
      on-pool false g few s = let it : None ≡ Some what = sym (ap (λ b. if b then Some Pool else None) g) ∙ s in cc

      on : (b : Bool) → nat_lt 128 (length u.servers) ≡ b → refusal o h step ≡ Some (Exhausted what)
      on true f =
          let it : Some Servers ≡ Some what = sym (ap (λ b. if b then Some Servers else pool-past) f) ∙ e in
          let is : Servers ≡ what = cc in
          subst (λ x. refusal o h step ≡ Some (Exhausted x)) is (refused-servers o h m step.act c.passes (ap (λ t. nat_lt 128 (length t.servers)) known-begun ∙ f))
      on false f =
          let few : length u.servers ≤ 128 = grind (arith, nat_tests) in
          on-pool (passes_limit w d) refl few (sym (ap (λ b. if b then Some Servers else pool-past) f) ∙ e)

  within-limits : change_past w u ≡ None → (length u.servers ≤ 128) × (passes_limit w d ≡ false)
  within-limits e = on (nat_lt 128 (length u.servers)) refl
    where
      on-pool : (b : Bool) → passes_limit w d ≡ b → pool-past ≡ None → passes_limit w d ≡ false
      on-pool true g s = let it : Some Pool ≡ None = sym (ap (λ b. if b then Some Pool else None) g) ∙ s in cc
      on-pool false g s = g

      on : (b : Bool) → nat_lt 128 (length u.servers) ≡ b → (length u.servers ≤ 128) × (passes_limit w d ≡ false)
      on true f = let it : Some Servers ≡ None = sym (ap (λ b. if b then Some Servers else pool-past) f) ∙ e in cc
      on false f =
          let few : length u.servers ≤ 128 = grind (arith, nat_tests) in
          (few, on-pool (passes_limit w d) refl (sym (ap (λ b. if b then Some Servers else pool-past) f) ∙ e))

  -- what it says, where it has no trouble, is what its rule tells
  said-parts : in_turn m (said o h m step.act) (begun h step) ≡ in_turn m parts (begun h step)
  said-parts =
      let told : List (List Item → List Fact) = told_by o m (rule_after o h step) (description_of o h) in
      let j : List Item = with_facts m beats (begun h step) in
      ap (λ fs. beats ++ fs) (turn-append m told _ j ∙ (rw c.calm (append-nil (in_turn m told j)) ∙ ap (λ ps. in_turn m ps j) c.tells))

  -- a change within the limits is not refused
  pub spared-change : change_past w u ≡ None → refusal o h step ≡ None
  spared-change e =
      let within : (length u.servers ≤ 128) × (passes_limit w d ≡ false) = within-limits e in
      outside-refusal o h m step.act c.out None c.passes (subst (λ t. length t.servers ≤ 128) (sym known-begun) within.0)
      (ap (first_past o m (begun h step)) said-parts ∙ (past-parts ∙ past-false d within.1))

  -- else its answer is that of the change, after the fact of its check
  pub follows-change : w.pools.last ≤ m → (y n : Transition) → IsChanged w m u y → n.reply ≡ y.reply → n.changes ≡ y.changes → n.description ≡ y.description → n.monitors ≡ y.monitors → n.stops ≡ y.stops
      → n.facts.items ≡ beats ++ y.facts.items → Watches w h step n → Follows w n step h
  follows-change l y n r reply changes known monitors stops facts v =
      let within : (length u.servers ≤ 128) × (passes_limit w d ≡ false) = within-limits r.past in
      let then-u : unwrap_or n.description w.description ≡ u = ap (λ x. unwrap_or x w.description) (known ∙ r.known) in
      let replied : n.reply ≡ Changed (is_some d) = reply ∙ r.reply in
      let opened : n.changes.items ≡ y.changes.items = ap (λ x. x.items) changes in
      let set_up : map (λ x. x.setting) n.monitors.items ≡ map (λ x. setting o x.address) (opened_by n.changes.items) = rw (monitors, changes) r.settings in
      let told : IsTold o m pools (length pools) u parts y.changes.items (beats ++ y.facts.items) =
      told-front o m beats (heartbeat-calm o h step.act) pools (length pools) u (publication o m w.description u) y.changes.items y.facts.items r.told in
      follows-told w h z step l n (subst IsPlain (sym replied) tt) c.out c.calm c.passes (c.known ∙ sym (known ∙ r.known)) (λ fs. c.replies fs ∙ sym replied)
      (subst (λ ps. IsTold o m pools (length pools) (unwrap_or n.description w.description) ps n.changes.items n.facts.items) parts-are
      (subst (λ t. IsTold o m pools (length pools) t parts n.changes.items n.facts.items) (sym then-u)
      (subst (λ cs. IsTold o m pools (length pools) u parts cs n.facts.items) (sym opened)
      (subst (λ fs. IsTold o m pools (length pools) u parts y.changes.items fs) (sym facts) told))))
      (subst (λ t. in_order t.servers ≡ true) (sym then-u) r.ordered) (subst (λ t. length t.servers ≤ 128) (sym then-u) within.0)
      (sym (length-map n.monitors.items (λ x. x.setting)) ∙ (ap length set_up ∙ length-map (opened_by n.changes.items) (λ x. setting o x.address))) v.placed
      (watched-fit w h z step n v set_up (subst (λ x. All (λ x. MonitorStands x []) x.items) (sym monitors) r.new))
      (watched-counts w h z step n v (stops ∙ (r.goes_on ∙ sym c.goes_on)))
      (subst (λ ps. first_past o m (begun h step) (in_turn m ps (begun h step)) ≡ None) parts-are (past-parts ∙ past-false d within.1))

-- what a step of the topology alone does at the monitors
pub telling-watches : (w : TopologyCore) (h : List Item) → StandsFor w h → (step : Step) → IsTelling step.act → (n : Transition) → n.monitoring ≡ Same → Watches w h step n
telling-watches w h z step telling n e =
    let still = telling-still step.act telling in
    same-watches w h z step n e (still-connects step.act still h) (still-asking step.act still w.watchers) (λ p. still-check step.act still _ _ _)

-- Steps that do nothing at the monitors.
module _ (w : TopologyCore) (h : List Item) (z : StandsFor w h) (step : Step) (l : w.pools.last ≤ step.moment) (u : TopologyDescription) (c : IsUpdating w h step u) where
  makes-known : MakesKnown w h step u
  makes-known = record {
    out = telling-outside step.act c.act;
    calm = c.calm;
    passes = c.passes;
    known = c.known;
    tells = c.tells;
    replies = λ fs. c.replies (with_facts step.moment fs (begun h step));
    goes_on = c.stop;
    free = ap take_numbers (telling-quiet w.options h step.act c.act);
  }

  pub spared-update : change_past w u ≡ None → refusal w.options h step ≡ None
  spared-update e = spared-change w h z step u makes-known e

  accepted-change : (n : Transition) → IsChanged w step.moment u n → Follows w n step h
  accepted-change n r = follows-change w h z step u makes-known l n n r refl refl refl refl refl (ap (λ fs. fs ++ n.facts.items) (sym (telling-quiet w.options h step.act c.act))) (telling-watches w h z step c.act n r.nothing)

  pub changes-become : (stepped : Decision) → ChangesTo w step.moment u stepped → BecomesOf w step stepped h
  changes-become (Refused why) e = refused-change w h z step u makes-known e.0 e.2 ∙ ap (λ x. Some x) (sym e.1)
  changes-become (Accepted n) r = accepted-change n r
  changes-become (Repeated n s) r = accepted-change (with_place (Some s) w n) r
