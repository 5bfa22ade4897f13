-- A step in time is not refused for its time, and a claim and what watchers want not at all.
use Rattle.std.proofs.Common.{ℕ, ◌≡◌, ◌≤◌, Bool, true, false, List, [], ◌∷◌, ◌++◌, Option, Some, None, refl, sym, ◌∙◌, ap, subst}
use Rattle.std.specs.Prelude.{⊤}
use Rattle.mdb_base.specs.declared.options.Options.{Options}
use Rattle.mdb_log.specs.declared.step.Step.{Step}
use Rattle.mdb_log.specs.declared.step.Act.{Act}
use Rattle.mdb_log.specs.declared.step.Act.TheVariants as Do
use Rattle.mdb_log.specs.declared.step.FailedAt.TheVariants.{Pre, Post}
use Rattle.mdb_log.specs.declared.reply.What.{What}
use Rattle.mdb_log.specs.declared.reply.Refused.{Refused as Why}
use Rattle.mdb_log.specs.declared.reply.Reply.{Reply}
use Rattle.mdb_log.specs.declared.reply.Reply.TheVariants.{Refused}
use Rattle.mdb_log.specs.Driver.{answers, is_never_refused, is_time_back, is_in_time}
use Rattle.mdb_log.specs.History.{Item, of_pool, with_facts}
use Rattle.mdb_log.specs.Homes.{Home}
use Rattle.mdb_log.specs.Opening.{pool_options}
use Rattle.mdb_pool_rules.specs.Refusal.{first_row}
use Rattle.mdb_pool_rules.specs.Serving.{serving}
use Rattle.mdb_pool_rules.proofs.NoMove.{served-serving}
use Rattle.mdb_topology.specs.declared.topology.TopologyCore.{TopologyCore}
use Rattle.mdb_driver_rules.specs.Homes.{home_of, begun}
use Rattle.mdb_driver_rules.specs.Monitors.{heartbeat}
use Rattle.mdb_driver_rules.specs.Description.{rule_of}
use Rattle.mdb_driver_rules.specs.Facts.{trouble, own_facts, serve_all, step_facts}
use Rattle.mdb_driver_rules.specs.Refusal.{rows_of, first_refusal, refused_by, ran_out, exhausted, refusal}
use Rattle.mdb_topology.specs.Standing.{StandsFor}
use Rattle.mdb_driver_pools.specs.Standing.{home}
use Rattle.mdb_driver_rules.proofs.NumbersWithinLimits.{take_numbers}
use Rattle.mdb_driver_rules.proofs.General.OneElement.{flat-none}
use Rattle.mdb_driver_rules.proofs.RefusedByRows.{plain-refusal}
use Rattle.mdb_driver_rules.proofs.TellsNothing.{plain-step}
use Rattle.mdb_topology.proofs.Publications.WhichSteps.{in-time, unruled}

-- No row but the first is of the time.
abbrev AreOther : List (Bool × Why) → Type 0
AreOther [] = ⊤
AreOther (row ∷ rows) = (is_time_back row.1 ≡ false) × AreOther rows

other-rows : (o : Options) (h : List Item) (act : Act) → AreOther (rows_of o h act)
other-rows o h (Do.Request r a) = (refl, (refl, tt))
other-rows o h (Do.Warm r a) = (refl, (refl, tt))
other-rows o h (Do.Maintain a) = (refl, tt)
other-rows o h (Do.Expire a) = (refl, tt)
other-rows o h (Do.Collect r) = (refl, tt)
other-rows o h (Do.GiveUp r) = (refl, tt)
other-rows o h (Do.Established q c how) = (refl, (refl, tt))
other-rows o h (Do.Failed q c Pre error) = (refl, tt)
other-rows o h (Do.Failed q c (Post service) error) = (refl, (refl, tt))
other-rows o h (Do.Return r used) = (refl, tt)
other-rows o h (Do.Pin r) = (refl, (refl, tt))
other-rows o h (Do.Error r error) = (refl, tt)
other-rows o h (Do.Replicate q c) = (refl, tt)
other-rows o h (Do.Take r q c) = (refl, (refl, (refl, tt)))
other-rows o h (Do.Unpin q c) = (refl, tt)
other-rows o h (Do.Beat a p) = (refl, (refl, (refl, tt)))
other-rows o h (Do.Beaten a p duration came) = (refl, (refl, tt))
other-rows o h (Do.Hello a p came) = (refl, tt)
other-rows o h (Do.Rtt a p sample) = (refl, tt)
other-rows o h _ = tt

-- the refusal, where there is one, is of no time
abbrev IsOther : Option Why → Type 0
IsOther None = ⊤
IsOther (Some why) = is_time_back why ≡ false

first-other : (rows : List (Bool × Why)) → AreOther rows → IsOther (first_row rows)
first-other [] all = tt
first-other ((true, why) ∷ rows) all = all.0
first-other ((false, why) ∷ rows) all = first-other rows all.1

either-other : (a b : Option Why) → IsOther a → IsOther b → IsOther (refused_by a b)
either-other None b x y = y
either-other (Some why) b x y = x

out-other : (what : Option What) → IsOther (ran_out what)
out-other None = tt
out-other (Some what) = refl

-- what answers an act refuses nothing
pub answer-in-time : (act : Act) (reply : Reply) → answers act reply ≡ true → is_in_time act reply ≡ true
answer-in-time (Do.Request r a) (Refused why) e = cc
answer-in-time (Do.Warm r a) (Refused why) e = cc
answer-in-time (Do.Collect r) (Refused why) e = cc
answer-in-time Do.Claim (Refused why) e = cc
answer-in-time (Do.GiveUp r) (Refused why) e = cc
answer-in-time (Do.Take r q c) (Refused why) e = cc
answer-in-time (Do.Error r error) (Refused why) e = cc
answer-in-time (Do.Hello a p came) (Refused why) e = cc
answer-in-time (Do.Beaten a p duration came) (Refused why) e = cc
answer-in-time (Do.Rtt a p sample) (Refused why) e = cc
answer-in-time (Do.Hosts hosts) (Refused why) e = cc
answer-in-time (Do.Want x) (Refused why) e = cc
answer-in-time (Do.Unwant x) (Refused why) e = cc
answer-in-time _ (Refused why) e = cc
answer-in-time act _ e = refl

module _ (w : TopologyCore) (h : List Item) (z : StandsFor w h) (m : ℕ) (l : w.pools.last ≤ m) where
  abbrev o : Options
  o = w.options

  abbrev at_m : Act → Step
  at_m act = record { moment = m; act = act }

  by-rows : (act : Act) → first_refusal o h (at_m act) ≡ first_row (rows_of o h act)
  by-rows act = rw (in-time w h z m l) refl

  pub refusal-other : (act : Act) → IsOther (refusal o h (at_m act))
  refusal-other act =
      either-other (first_refusal o h (at_m act)) (ran_out (exhausted o h (at_m act) (step_facts o h (at_m act))))
      (subst IsOther (sym (by-rows act)) (first-other (rows_of o h act) (other-rows o h act)))
      (out-other (exhausted o h (at_m act) (step_facts o h (at_m act))))

  -- no pool has anything to serve
  nothing-served : (act : Act) → ((p : ℕ) → of_pool p (begun h (at_m act)) ≡ of_pool p h) → serve_all o m (begun h (at_m act)) ≡ []
  nothing-served act same =
      rw z.pools.fit.homes_are (flat-none home (λ (x : Home). serving x.number x.address (pool_options o) m (of_pool x.number (begun h (at_m act)))) w.pools.cores.items
      (λ j x e. rw (same x.pool) (served-serving (pool_options o) (of_pool x.pool h) (z.pools.served x.pool) x.pool x.address m)))

  -- a step that does nothing has no facts
  pub no-facts : (act : Act) → heartbeat o h act ≡ [] → rule_of o (begun h (at_m act)) w.description m act ≡ None → trouble o h (at_m act) ≡ None
      → ((x : Option Home) (k : List Item) → own_facts o h (at_m act) x k ≡ []) → ((p : ℕ) → of_pool p (begun h (at_m act)) ≡ of_pool p h) → step_facts o h (at_m act) ≡ []
  no-facts act quiet none calm own same =
      plain-step o h (at_m act) quiet (unruled w h z m l act none) calm
      ∙ (ap (λ fs. fs ++ serve_all o m (with_facts m fs (begun h (at_m act)))) (own (home_of h act) (begun h (at_m act))) ∙ nothing-served act same)

  pub accepted : (act : Act) → rule_of o (begun h (at_m act)) w.description m act ≡ None → step_facts o h (at_m act) ≡ [] → rows_of o h act ≡ [] → refusal o h (at_m act) ≡ None
  accepted act none told rows =
      plain-refusal o h (at_m act) (unruled w h z m l act none) (rw z.described.known z.described.few) (ap take_numbers told) ∙ (by-rows act ∙ ap first_row rows)

  no-own-want : (r : ℕ) (x : Option Home) (k : List Item) → own_facts o h (at_m (Do.Want r)) x k ≡ []
  no-own-want r None k = refl
  no-own-want r (Some x) k = refl

  no-own-unwant : (r : ℕ) (x : Option Home) (k : List Item) → own_facts o h (at_m (Do.Unwant r)) x k ≡ []
  no-own-unwant r None k = refl
  no-own-unwant r (Some x) k = refl

  no-own-claim : (x : Option Home) (k : List Item) → own_facts o h (at_m Do.Claim) x k ≡ []
  no-own-claim None k = refl
  no-own-claim (Some x) k = refl

  pub claim-facts : step_facts o h (at_m Do.Claim) ≡ []
  claim-facts = no-facts Do.Claim refl refl refl no-own-claim (λ p. refl)

  pub never-refused : (act : Act) → is_never_refused act ≡ true → refusal o h (at_m act) ≡ None
  never-refused Do.Claim e = accepted Do.Claim refl claim-facts refl
  never-refused (Do.Want r) e = accepted (Do.Want r) refl (no-facts (Do.Want r) refl refl refl (no-own-want r) (λ p. refl)) refl
  never-refused (Do.Unwant r) e = accepted (Do.Unwant r) refl (no-facts (Do.Unwant r) refl refl refl (no-own-unwant r) (λ p. refl)) refl
  never-refused _ e = cc

  -- a refusal in time
  pub refused-in-time : (act : Act) (why : Why) → refusal o h (at_m act) ≡ Some why → is_in_time act (Refused why) ≡ true
  refused-in-time act why e = on (is_never_refused act) refl
    where
      other : is_time_back why ≡ false
      other = subst IsOther e (refusal-other act)

      on : (b : Bool) → is_never_refused act ≡ b → is_in_time act (Refused why) ≡ true
      on true f = let k : ◌≡◌ {A = Option Why} (Some why) None = sym e ∙ never-refused act f in cc
      on false f = rw (other, f) refl
