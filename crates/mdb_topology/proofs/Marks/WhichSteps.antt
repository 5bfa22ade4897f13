-- Which steps mark a server by an error, and what they tell.
use Rattle.std.proofs.Common.{ℕ, ◌≡◌, ◌≤◌, ◌&&◌, ◌||◌, Bool, true, false, not, List, [], ◌∷◌, ◌++◌, Option, Some, None, is_some, refl, ◌∙◌, ap}
use Rattle.std.specs.Prelude.{pos}
use Rattle.mdb_base.specs.declared.address.ServerAddress.{ServerAddress}
use Rattle.mdb_base.specs.declared.error.Error.{Error}
use Rattle.mdb_base.specs.declared.options.Options.{Options}
use Rattle.mdb_describe.specs.declared.topology.TopologyDescription.{TopologyDescription}
use Rattle.mdb_describe.specs.Descriptions.{failed}
use Rattle.mdb_describe.specs.Differences.{difference}
use Rattle.mdb_describe.specs.Update.{updated}
use Rattle.mdb_events.specs.declared.fact.Fact.{Fact}
use Rattle.mdb_log.specs.declared.checked.HelloResult.TheVariants as Hello
use Rattle.mdb_log.specs.declared.step.Act.{Act}
use Rattle.mdb_log.specs.declared.step.Act.TheVariants as Do
use Rattle.mdb_log.specs.declared.reply.Refused.TheVariants.{WrongMode}
use Rattle.mdb_log.specs.declared.reply.Reply.TheVariants.{Changed}
use Rattle.mdb_log.specs.History.{Item, is_number}
use Rattle.mdb_driver_pools.specs.declared.trouble.Asked.{Asked}
use Rattle.mdb_driver_pools.specs.declared.trouble.Asked.TheVariants.{Nothing}
use Rattle.mdb_topology.specs.declared.topology.TopologyCore.{TopologyCore}
use Rattle.mdb_driver_rules.specs.Answer.{reply_to}
use Rattle.mdb_driver_rules.specs.Description.{Rule, updates, rule_after, description_of, change_by, changed, is_stop, known_after}
use Rattle.mdb_driver_rules.specs.Errors.{Trouble, monitored, whole, where_so}
use Rattle.mdb_driver_rules.specs.Facts.{trouble, clear_by, clear_of, is_clear, clearing, asking}
use Rattle.mdb_driver_rules.specs.Homes.{is_here, begun}
use Rattle.mdb_topology.specs.Marking.{spoken, IsOfPool, HasParts, IsMarking}
use Rattle.mdb_driver_rules.specs.Publishing.{told_by}
use Rattle.mdb_driver_rules.specs.Refusal.{first_refusal, refusal}
use Rattle.mdb_topology.specs.Standing.{StandsFor}
use Rattle.mdb_driver_pools.specs.Standing.{is_here_among}
use Rattle.mdb_driver_rules.specs.Turns.{in_turn}
use Rattle.mdb_topology.proofs.Publications.WhichSteps.{or-not, at_m, in-time, rule-unstopped, rule-stopped, passes-time}

-- a pool is cleared only where something changed
or-clear : (b c : Bool) → b || is_clear (where_so (b && c) whole) ≡ b
or-clear true c = refl
or-clear false c = refl

pub and-always : (b : Bool) → b ≡ b && true
and-always true = refl
and-always false = refl

-- what is told by a rule r where v was known, and of a trouble, where b says whether something changed
abbrev pub all_parts : Options → ℕ → Option Rule → TopologyDescription → Option Trouble → Bool → List (List Item → List Fact)
all_parts o m r v x b = told_by o m r v ++ clearing o m x (clear_by o b x) ∷ asking o x (clear_by o b x) ∷ []

module _ (w : TopologyCore) (h : List Item) (z : StandsFor w h) (m : ℕ) (l : w.pools.last ≤ m) where
  abbrev o : Options
  o = w.options

  abbrev t : TopologyDescription
  t = w.description

  -- a step whose trouble marks a server
  module _ (act : Act) (a : ServerAddress) (e : Error) (x : Trouble) (p : ℕ) (clears : Bool) (asked : Asked) (of : IsOfPool o x p a e clears asked) where
    abbrev u : TopologyDescription
    u = updated t (failed a e)

    pub marking-by : first_refusal o h (at_m w h z m l act) ≡ None → rule_after o h (at_m w h z m l act) ≡ Some (updates (failed a e)) → trouble o h (at_m w h z m l act) ≡ Some x
        → ((k : List Item) → reply_to o h (at_m w h z m l act) k act ≡ Changed (changed o h (at_m w h z m l act) || is_clear (clear_of o h (at_m w h z m l act)))) → is_stop act ≡ false
        → IsMarking w h (at_m w h z m l act) u x
    marking-by passes ruled troubled replied goes_on = record {
      passes = passes;
      known = ap (λ r. known_after r t) ruled;
      tells = λ k. ap (λ ps. in_turn m ps k) parts-are;
      replies = λ k. replied k ∙ ap Changed changes;
      stop = goes_on;
    }
      where
        differs : changed o h (at_m w h z m l act) ≡ is_some (difference t.servers u.servers)
        differs = ap (λ r. is_some (change_by r (description_of o h))) ruled ∙ ap (λ v. is_some (change_by (Some (updates (failed a e))) v)) z.described.known

        parts-are : spoken o h (at_m w h z m l act) ≡ all_parts o m (Some (updates (failed a e))) t (Some x) (is_some (difference t.servers u.servers))
        parts-are =
            ap (λ r. all_parts o m r (description_of o h) (trouble o h (at_m w h z m l act)) (changed o h (at_m w h z m l act))) ruled
            ∙ (ap (λ v. all_parts o m (Some (updates (failed a e))) v (trouble o h (at_m w h z m l act)) (changed o h (at_m w h z m l act))) z.described.known
            ∙ (ap (λ y. all_parts o m (Some (updates (failed a e))) t y (changed o h (at_m w h z m l act))) troubled
            ∙ ap (all_parts o m (Some (updates (failed a e))) t (Some x)) differs))

        changes : changed o h (at_m w h z m l act) || is_clear (clear_of o h (at_m w h z m l act)) ≡ is_some (difference t.servers u.servers)
        changes =
            ap (λ y. changed o h (at_m w h z m l act) || is_clear (clear_by o (changed o h (at_m w h z m l act)) y)) troubled
            ∙ (ap (λ b. b || is_clear (clear_by o b (Some x))) differs
            ∙ (ap (λ c. is_some (difference t.servers u.servers) || is_clear c) (of.clear (is_some (difference t.servers u.servers)))
            ∙ or-clear (is_some (difference t.servers u.servers)) clears))

  -- The error of a hello.
  module _ (a : ServerAddress) (p : ℕ) (e : Error) where
    abbrev hello : Act
    hello = Do.Hello a p (Hello.Err e)

    abbrev pub met : Trouble
    met = record { row = monitored; pool = p; address = a; error = e; wire = pos 0; service = None }

    met-here : is_here (begun h (at_m w h z m l hello)) a p ≡ is_here_among w.pools.cores.items a p
    met-here = ap (λ x. is_number x p) (z.pools.fit.open_are a)

    pub met-mode : o.load_balanced ≡ true → refusal o h (at_m w h z m l hello) ≡ Some WrongMode
    met-mode f = rw (in-time w h z m l, f) refl

    met-passes : o.load_balanced ≡ false → first_refusal o h (at_m w h z m l hello) ≡ None
    met-passes f = passes-time w h z m l hello (rw f refl)

    pub met-of-pool : o.load_balanced ≡ false → IsOfPool o met p a e true Nothing
    met-of-pool f = record {
      pool = refl;
      address = refl;
      error_is = refl;
      clear = λ b. rw f (ap (λ c. where_so c whole) (and-always b));
      asks_are = λ b. rw f refl;
    }

    pub met-marking : o.load_balanced ≡ false → w.stopped || not (is_here_among w.pools.cores.items a p) ≡ false → IsMarking w h (at_m w h z m l hello) (updated t (failed a e)) met
    met-marking f left =
        let both : (w.stopped ≡ false) × (is_here_among w.pools.cores.items a p ≡ true) = or-not w.stopped (is_here_among w.pools.cores.items a p) left in
        let g = both.0 in
        let i = both.1 in
        let here : is_here (begun h (at_m w h z m l hello)) a p ≡ true = met-here ∙ i in
        marking-by hello a e met p true Nothing (met-of-pool f) (met-passes f) (rule-unstopped w h z m l hello g ∙ rw here refl) (rw here refl) (λ k. refl) refl

    pub met-resting : o.load_balanced ≡ false → w.stopped || not (is_here_among w.pools.cores.items a p) ≡ true → HasParts o h t None (at_m w h z m l hello) (Changed false) false []
    met-resting f g = record {
      passes = met-passes f;
      known = ap (λ r. known_after r t) ruled;
      tells = λ k. ap (λ r. in_turn m (all_parts o m r (description_of o h) (trouble o h (at_m w h z m l hello)) (is_some (change_by r (description_of o h)))) k) ruled ∙ silent k (is_here (begun h (at_m w h z m l hello)) a p) refl;
      replies = λ k. ap (λ r. Changed (is_some (change_by r (description_of o h)) || is_clear (clear_by o (is_some (change_by r (description_of o h))) (trouble o h (at_m w h z m l hello))))) ruled
          ∙ ap Changed (unclear (is_here (begun h (at_m w h z m l hello)) a p) refl);
      stop = refl;
    }
      where
        on : (b c : Bool) → w.stopped ≡ b → is_here_among w.pools.cores.items a p ≡ c → b || not c ≡ true → rule_after o h (at_m w h z m l hello) ≡ None
        on true c g i f = rule-stopped w h z m l hello g
        on false true g i f = cc
        on false false g i f = let here : is_here (begun h (at_m w h z m l hello)) a p ≡ false = met-here ∙ i in rule-unstopped w h z m l hello g ∙ rw here refl

        ruled : rule_after o h (at_m w h z m l hello) ≡ None
        ruled = on w.stopped (is_here_among w.pools.cores.items a p) refl refl g

        silent : (k : List Item) (b : Bool) → is_here (begun h (at_m w h z m l hello)) a p ≡ b → in_turn m (all_parts o m None (description_of o h) (trouble o h (at_m w h z m l hello)) false) k ≡ []
        silent k true i = rw (i, f) refl
        silent k false i = rw i refl

        unclear : (b : Bool) → is_here (begun h (at_m w h z m l hello)) a p ≡ b → is_clear (clear_by o false (trouble o h (at_m w h z m l hello))) ≡ false
        unclear true i = rw (i, f) refl
        unclear false i = rw i refl
