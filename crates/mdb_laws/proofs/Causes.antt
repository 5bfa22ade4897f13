-- What becomes of pools has its causes, and none is left open where the server went.
use Rattle.std.proofs.Common.{ℕ, ◌≡◌, ◌+◌, ◌++◌, Bool, true, false, List, ◌∷◌, Option, Some, None, is_some, refl, sym, ◌∙◌, ap}
use Rattle.mdb_base.specs.declared.address.ServerAddress.{ServerAddress}
use Rattle.mdb_base.specs.declared.object_id.ObjectId.{ObjectId}
use Rattle.mdb_base.specs.declared.options.Options.{Options}
use Rattle.mdb_describe.specs.declared.topology.TopologyDescription.{TopologyDescription}
use Rattle.mdb_describe.specs.declared.diff.Diff.{Diff}
use Rattle.mdb_describe.specs.Differences.{difference}
use Rattle.mdb_describe.specs.Servers.{is_known, is_listed}
use Rattle.mdb_events.specs.declared.fact.Fact.{Fact}
use Rattle.mdb_log.specs.declared.step.Step.{Step}
use Rattle.mdb_log.specs.declared.step.Act.{Act}
use Rattle.mdb_log.specs.declared.step.Act.TheVariants as Do
use Rattle.mdb_log.specs.declared.reply.Reply.{Reply}
use Rattle.mdb_log.specs.Acts.{IsDriverAct}
use Rattle.mdb_log.specs.History.{Item, did, of_pool, open_pool, with_facts}
use Rattle.mdb_log.specs.Homes.{Home}
use Rattle.mdb_log.specs.Own.{IsAccepted}
use Rattle.mdb_log.specs.Requests.{is_claimed}
use Rattle.mdb_log.specs.State.{generation_of}
use Rattle.mdb_log.proofs.Later.{with_answer-accepted}
use Rattle.mdb_pool_rules.proofs.LimitsAreKept.{reply-accepted}
use Rattle.mdb_topology.specs.declared.topology.TopologyCore.{TopologyCore}
use Rattle.mdb_driver_rules.specs.Homes.{is_here, begun}
use Rattle.mdb_driver_rules.specs.Description.{Rule, description_of, rule_after, applied, change_by}
use Rattle.mdb_driver_rules.specs.Facts.{trouble, clear_of, step_facts}
use Rattle.mdb_driver_rules.specs.Refusal.{refusal}
use Rattle.mdb_driver_rules.specs.Answer.{answer, answered, reply_to, pool_reply}
use Rattle.mdb_topology.specs.Standing.{StandsFor}
use Rattle.mdb_laws.specs.Stale.{after}
use Rattle.mdb_laws.specs.Causes.{marks_of, changes, clears, described_after, difference_by, caused, gone, clears_among, HasCauses}
use Rattle.mdb_laws.proofs.Gone.{open_after, open-marks, cleared-same}
use Rattle.mdb_laws.proofs.OpenFor.{open-known}
use Rattle.mdb_laws.proofs.Risen.{act-generation, raised_among, facts-generation}
use Rattle.mdb_driver_rules.proofs.LeavesAsItIs.{description-facts}
use Rattle.mdb_laws.proofs.Published.{IsSound, removed-known}
use Rattle.mdb_laws.proofs.Caused.{sound-of, step-marks}

-- the reply to an accepted step is no refusal
pool-accepted : (h z : List Item) (act : Act) (x : Option Home) → IsAccepted (pool_reply h z act x)
pool-accepted h z act (Some x) = reply-accepted x.number (is_claimed h x.number) (of_pool x.number h) (of_pool x.number z) act
pool-accepted h z Do.Claim None = tt
pool-accepted h z _ None = tt

pub accepts : (o : Options) (h : List Item) (step : Step) (z : List Item) (act : Act) → IsAccepted (reply_to o h step z act)
accepts o h step z (Do.Hello a p came) = tt
accepts o h step z (Do.Beaten a p duration came) = tt
accepts o h step z (Do.Error r error) = tt
accepts o h step z (Do.Hosts hosts) = tt
accepts o h step z (Do.Rtt a p sample) = on (is_here h a p) refl
  where
    on : (b : Bool) → is_here h a p ≡ b → IsAccepted (reply_to o h step z (Do.Rtt a p sample))
    on true f = rw f tt
    on false f = rw f tt
accepts o h step z (Do.Want w) = tt
accepts o h step z (Do.Unwant w) = tt
accepts o h step z _ = search (pool-accepted)

-- what a rule changes is the difference to what it makes known
changed-by : (rule : Option Rule) (t : TopologyDescription) (d : Diff) → change_by rule t ≡ Some d → difference t.servers (applied rule t).servers ≡ Some d
changed-by None t d e = cc
changed-by (Some rule) t d e = e

module _ (o : Options) (h : List Item) (m : ℕ) (act : Act) (sound : IsSound o (description_of o h) h) (marks : marks_of (step_facts o h (record { moment = m; act = act })) ≡ caused o h (record { moment = m; act = act })) where
  abbrev step : Step
  step = record { moment = m; act = act }

  abbrev t : TopologyDescription
  t = description_of o h

  abbrev F : List Fact
  F = step_facts o h step

  module _ (accepted : refusal o h step ≡ None) where
    facts-are : (answer o h step).facts ≡ F
    facts-are = ap (λ x. (answered o h step x F).facts) accepted

    abbrev reply : Reply
    reply = reply_to o h step (with_facts m F (begun h step)) act

    reply-is : (answer o h step).reply ≡ reply
    reply-is = ap (λ x. (answered o h step x F).reply) accepted

    after-is : after o h step ≡ with_facts m F (did step reply ∷ h)
    after-is = rw (reply-is, facts-are) (with_answer-accepted step reply F h (accepts o h step (with_facts m F (begun h step)) act))

    open-is : (a : ServerAddress) → open_pool (after o h step) a ≡ open_after a (caused o h step) (open_pool h a)
    open-is a = ap (λ k. open_pool k a) after-is ∙ (open-marks a m F (did step reply ∷ h) ∙ ap (λ ms. open_after a ms (open_pool h a)) marks)

    described : description_of o (after o h step) ≡ described_after o h step
    described = ap (description_of o) after-is ∙ description-facts o m F (did step reply ∷ h)

    open-then : (a : ServerAddress) → is_some (open_pool (after o h step) a) ≡ is_known a (described_after o h step).servers
    open-then a = ap is_some (open-is a) ∙ on (rule_after o h step)
      where
        on : (rule : Option Rule) → is_some (open_after a (changes o h (applied rule t) (change_by rule t) ++ clears o h (trouble o h step) (clear_of o h step)) (open_pool h a)) ≡ is_known a (applied rule t).servers
        on None = ap is_some (cleared-same o h t a (trouble o h step) (clear_of o h step) (open_pool h a)) ∙ sound.open_for a
        on (Some rule) = open-known o h t (applied (Some rule) t) sound a (trouble o h step) (clear_of o h step)

    none-left : (a : ServerAddress) → is_listed (gone (difference_by o h step)) a ≡ true → open_pool (after o h step) a ≡ None
    none-left a e = none (open_pool (after o h step) a) (open-then a ∙ on (difference_by o h step) refl e)
      where
        none : (x : Option ℕ) → is_some x ≡ false → x ≡ None
        none None f = refl
        none (Some p) f = cc

        on : (x : Option Diff) → difference_by o h step ≡ x → is_listed (gone x) a ≡ true → is_known a (described_after o h step).servers ≡ false
        on None f g = cc
        on (Some d) f g = (removed-known t.servers (described_after o h step).servers d (changed-by (rule_after o h step) t d f) a g).1

    risen : (p : ℕ) (s : Option ObjectId) → generation_of (of_pool p (after o h step)) s ≡ generation_of (of_pool p h) s + clears_among p s (caused o h step)
    risen p s = ap (λ k. generation_of (of_pool p k) s) after-is
        ∙ (facts-generation p m F (did step reply ∷ h) s
        ∙ (ap (λ n. n + raised_among p s F) (act-generation p m (open_pool h) act (of_pool p h) s)
        ∙ ap (λ ms. generation_of (of_pool p h) s + clears_among p s ms) marks))

    pub causes : HasCauses o h step
    causes = record { marks_are = ap marks_of facts-are ∙ marks; open_for = λ a. open-then a ∙ ap (λ (u : TopologyDescription). is_known a u.servers) (sym described); none_left = none-left; generation_is = risen }

pub has-causes : (w : TopologyCore) (h : List Item) (step : Step) → StandsFor w h → IsDriverAct step.act → refusal w.options h step ≡ None → HasCauses w.options h step
has-causes w h step z driver accepted = let sound = sound-of w h z in causes w.options h step.moment step.act sound (step-marks w.options h step.moment step.act driver sound) accepted
