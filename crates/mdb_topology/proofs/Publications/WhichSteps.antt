-- Which steps change what is known of the topology, and what they tell.
use Rattle.std.proofs.Common.{ℕ, ◌≡◌, ◌≤◌, ◌||◌, Bool, true, false, not, List, [], ◌∷◌, ◌++◌, Some, None, is_some, nat_lt, refl, sym, ◌∙◌, ap, subst, arith}
use Rattle.std.specs.Prelude.{find}
use Rattle.std.proofs.lemmas.Bool.Decides.{nat_tests}
use Rattle.mdb_base.specs.declared.address.ServerAddress.{ServerAddress}
use Rattle.mdb_base.specs.declared.times.ClusterTime.{ClusterTime as Time}
use Rattle.mdb_base.specs.declared.options.Options.{Options}
use Rattle.mdb_hello.specs.declared.response.HelloCommandResponse.{HelloCommandResponse}
use Rattle.mdb_srv.specs.declared.topology_type.TopologyType.{TopologyType}
use Rattle.mdb_srv.specs.declared.topology_type.TopologyType.TheVariants as Kind
use Rattle.mdb_srv.specs.Polling.{is_polled}
use Rattle.mdb_describe.specs.declared.topology.TopologyDescription.{TopologyDescription}
use Rattle.mdb_describe.specs.Descriptions.{from_reply}
use Rattle.mdb_describe.specs.Differences.{difference}
use Rattle.mdb_describe.specs.Topology.{synced, stopped, later_time}
use Rattle.mdb_describe.specs.Update.{updated}
use Rattle.mdb_log.specs.declared.step.Step.{Step}
use Rattle.mdb_log.specs.declared.step.Act.{Act}
use Rattle.mdb_log.specs.declared.step.Act.TheVariants as Do
use Rattle.mdb_log.specs.declared.checked.HelloResult.TheVariants as Hello
use Rattle.mdb_log.specs.declared.reply.Refused.TheVariants.{WrongMode}
use Rattle.mdb_log.specs.declared.reply.Reply.{Reply}
use Rattle.mdb_log.specs.declared.reply.Reply.TheVariants.{Changed, Done}
use Rattle.mdb_log.specs.History.{Item, last_moment, is_number}
use Rattle.mdb_log.specs.Homes.{homes}
use Rattle.mdb_pool_rules.specs.Refusal.{first_row}
use Rattle.mdb_topology.specs.declared.topology.TopologyCore.{TopologyCore}
use Rattle.mdb_driver_rules.specs.Homes.{begun, is_here}
use Rattle.mdb_driver_rules.specs.Monitors.{hello_reply}
use Rattle.mdb_driver_rules.specs.Description.{Rule, updates, syncs, tells_time, stops, syncing_rule, rule_of, applied, rule_after, description_of, change_by, changed, is_stop, known_after}
use Rattle.mdb_driver_rules.specs.Facts.{trouble, clear_of, is_clear}
use Rattle.mdb_driver_rules.specs.Publishing.{told_by, publication, topology_closed}
use Rattle.mdb_driver_rules.specs.Refusal.{rows_of, first_refusal, refusal}
use Rattle.mdb_driver_rules.specs.Answer.{reply_to, pool_reply}
use Rattle.mdb_topology.specs.Standing.{StandsFor}
use Rattle.mdb_driver_pools.specs.Standing.{is_here_among}
use Rattle.mdb_topology.specs.Changing.{IsTelling, IsChanging, IsUpdating}

pub or-not : (b c : Bool) → b || not c ≡ false → (b ≡ false) × (c ≡ true)
or-not true c e = cc
or-not false true e = (refl, refl)
or-not false false e = cc

-- nothing is found that never is
pub find-never : {T : Type 0} (xs : List T) → find (λ (x : T). false) xs ≡ None
find-never [] = refl
find-never (x ∷ xs) = find-never xs

module _ (w : TopologyCore) (h : List Item) (z : StandsFor w h) (m : ℕ) (l : w.pools.last ≤ m) where
  abbrev o : Options
  o = w.options

  abbrev t : TopologyDescription
  t = w.description

  pub in-time : nat_lt m (last_moment h) ≡ false
  in-time = let e : last_moment h ≤ m = subst (λ n. n ≤ m) (sym z.counts.last_is) l in grind (arith, nat_tests)

  abbrev pub at_m : Act → Step
  at_m act = record { moment = m; act = act }

  -- the rule, where the driver was not stopped
  pub rule-unstopped : (act : Act) → w.stopped ≡ false → rule_after o h (at_m act) ≡ rule_of o (begun h (at_m act)) t m act
  rule-unstopped act e = rw (z.counts.stopped_is, e) (ap (λ d. rule_of o (begun h (at_m act)) d m act) z.described.known)

  pub rule-stopped : (act : Act) → w.stopped ≡ true → rule_after o h (at_m act) ≡ None
  rule-stopped act e = rw (z.counts.stopped_is, e) refl

  -- an act of no rule applies none
  pub unruled : (act : Act) → rule_of o (begun h (at_m act)) t m act ≡ None → rule_after o h (at_m act) ≡ None
  unruled act e = on w.stopped refl
    where
      on : (b : Bool) → w.stopped ≡ b → rule_after o h (at_m act) ≡ None
      on true f = rule-stopped act f
      on false f = rule-unstopped act f ∙ e

  or-false : (b : Bool) → b || false ≡ b
  or-false true = refl
  or-false false = refl

  -- a step that makes something known tells what differs
  updating-by : (act : Act) (rule : Rule) (u : TopologyDescription) → IsTelling act → trouble o h (at_m act) ≡ None → first_refusal o h (at_m act) ≡ None → rule_after o h (at_m act) ≡ Some rule
      → applied (Some rule) t ≡ u → told_by o m (Some rule) t ≡ publication o m t u
      → ((k : List Item) → reply_to o h (at_m act) k act ≡ Changed (changed o h (at_m act) || is_clear (clear_of o h (at_m act)))) → is_stop act ≡ false → IsUpdating w h (at_m act) u
  updating-by act rule u telling calm passes ruled made tells replied goes_on =
      let differs : changed o h (at_m act) ≡ is_some (difference t.servers u.servers) =
      ap (λ r. is_some (change_by r (description_of o h))) ruled ∙ (ap (λ d. is_some (change_by (Some rule) d)) z.described.known ∙ ap (λ v. is_some (difference t.servers v.servers)) made) in
      let unclear : is_clear (clear_of o h (at_m act)) ≡ false = rw calm refl in
      record {
        act = telling;
        calm = calm;
        passes = passes;
        known = ap (λ r. known_after r t) ruled ∙ ap Some made;
        tells = ap (λ r. told_by o m r (description_of o h)) ruled ∙ (ap (told_by o m (Some rule)) z.described.known ∙ tells);
        replies = λ k. replied k ∙ (ap (λ b. Changed (changed o h (at_m act) || b)) unclear ∙ (ap Changed (or-false (changed o h (at_m act))) ∙ ap Changed differs));
        stop = goes_on;
      }

  -- a step without a rule makes nothing known, and tells nothing
  pub resting-by : (act : Act) (reply : Reply) → IsTelling act → trouble o h (at_m act) ≡ None → first_refusal o h (at_m act) ≡ None → rule_after o h (at_m act) ≡ None
      → ((k : List Item) → reply_to o h (at_m act) k act ≡ reply) → (ends : Bool) → is_stop act ≡ ends → IsChanging o h t None (at_m act) reply ends []
  resting-by act reply telling calm passes ruled replied ends e = record {
    act = telling;
    calm = calm;
    passes = passes;
    known = ap (λ r. known_after r t) ruled;
    tells = ap (λ r. told_by o m r (description_of o h)) ruled;
    replies = replied;
    stop = e;
  }

  pub unchanged : (act : Act) → trouble o h (at_m act) ≡ None → rule_after o h (at_m act) ≡ None → Changed (changed o h (at_m act) || is_clear (clear_of o h (at_m act))) ≡ Changed false
  unchanged act calm ruled =
      let unclear : is_clear (clear_of o h (at_m act)) ≡ false = rw calm refl in
      ap (λ b. Changed (changed o h (at_m act) || b)) unclear ∙ ap (λ r. Changed (is_some (change_by r (description_of o h)) || false)) ruled

  -- the first row is that of the time
  pub passes-time : (act : Act) → first_row (rows_of o h act) ≡ None → first_refusal o h (at_m act) ≡ None
  passes-time act e = rw in-time e

  -- The reply of a server.
  module _ (a : ServerAddress) (p rtt : ℕ) (r : HelloCommandResponse) where
    abbrev hello : Act
    hello = Do.Hello a p (Hello.Ok rtt r)

    hello-here : is_here (begun h (at_m hello)) a p ≡ is_here_among w.pools.cores.items a p
    hello-here = ap (λ x. is_number x p) (z.pools.fit.open_are a)

    pub hello-mode : o.load_balanced ≡ true → refusal o h (at_m hello) ≡ Some WrongMode
    hello-mode e = rw (in-time, e) refl

    hello-passes : o.load_balanced ≡ false → first_refusal o h (at_m hello) ≡ None
    hello-passes e = passes-time hello (rw e refl)

    pub hello-updating : o.load_balanced ≡ false → w.stopped || not (is_here_among w.pools.cores.items a p) ≡ false → IsUpdating w h (at_m hello) (updated t (from_reply a (hello_reply a r) rtt m))
    hello-updating e left =
        let both : (w.stopped ≡ false) × (is_here_among w.pools.cores.items a p ≡ true) = or-not w.stopped (is_here_among w.pools.cores.items a p) left in
        let f = both.0 in
        let g = both.1 in
        let here : is_here (begun h (at_m hello)) a p ≡ true = hello-here ∙ g in
        let ruled : rule_after o h (at_m hello) ≡ Some (updates (from_reply a (hello_reply a r) rtt m)) = rule-unstopped hello f ∙ rw here refl in
        updating-by hello _ _ tt refl (hello-passes e) ruled refl refl (λ k. refl) refl

    pub hello-resting : o.load_balanced ≡ false → w.stopped || not (is_here_among w.pools.cores.items a p) ≡ true → IsChanging o h t None (at_m hello) (Changed false) false []
    hello-resting e f = resting-by hello (Changed false) tt refl (hello-passes e) ruled (λ k. unchanged hello refl ruled) false refl
      where
        on : (b c : Bool) → w.stopped ≡ b → is_here_among w.pools.cores.items a p ≡ c → b || not c ≡ true → rule_after o h (at_m hello) ≡ None
        on true c g i f = rule-stopped hello g
        on false true g i f = cc
        on false false g i f = let here : is_here (begun h (at_m hello)) a p ≡ false = hello-here ∙ i in rule-unstopped hello g ∙ rw here refl

        ruled : rule_after o h (at_m hello) ≡ None
        ruled = on w.stopped (is_here_among w.pools.cores.items a p) refl refl f

  -- The hosts of SRV records.
  module _ (hosts : List ServerAddress) where
    abbrev named : Act
    named = Do.Hosts hosts

    polled-rule : (kind : TopologyType) → is_polled kind ≡ true → syncing_rule kind hosts ≡ Some (syncs hosts)
    polled-rule Kind.Sharded e = refl
    polled-rule Kind.Unknown e = refl
    polled-rule _ e = cc

    unpolled-rule : (kind : TopologyType) → is_polled kind ≡ false → syncing_rule kind hosts ≡ None
    unpolled-rule Kind.Sharded e = cc
    unpolled-rule Kind.Unknown e = cc
    unpolled-rule _ e = refl

    pub hosts-updating : w.stopped || not (is_polled t.topology_type) ≡ false → IsUpdating w h (at_m named) (synced hosts t)
    hosts-updating left =
        let both : (w.stopped ≡ false) × (is_polled t.topology_type ≡ true) = or-not w.stopped (is_polled t.topology_type) left in
        let f = both.0 in
        let g = both.1 in
        updating-by named (syncs hosts) _ tt refl (passes-time named refl) (rule-unstopped named f ∙ polled-rule t.topology_type g) refl refl (λ k. refl) refl

    pub hosts-resting : w.stopped || not (is_polled t.topology_type) ≡ true → IsChanging o h t None (at_m named) (Changed false) false []
    hosts-resting f = resting-by named (Changed false) tt refl (passes-time named refl) ruled (λ k. unchanged named refl ruled) false refl
      where
        on : (b c : Bool) → w.stopped ≡ b → is_polled t.topology_type ≡ c → b || not c ≡ true → rule_after o h (at_m named) ≡ None
        on true c g i f = rule-stopped named g
        on false true g i f = cc
        on false false g i f = rule-unstopped named g ∙ unpolled-rule t.topology_type i

        ruled : rule_after o h (at_m named) ≡ None
        ruled = on w.stopped (is_polled t.topology_type) refl refl f

  -- The time of the cluster.
  module _ (time : Time) where
    abbrev told_time : Act
    told_time = Do.ClusterTime time

    replied-time : (k : List Item) → reply_to o h (at_m told_time) k told_time ≡ Done
    replied-time k = ap (pool_reply h k told_time) (find-never (homes h))

    pub time-changing : w.stopped ≡ false → IsChanging o h t (Some (record t { cluster_time = later_time t.cluster_time time })) (at_m told_time) Done false []
    time-changing f =
        let ruled : rule_after o h (at_m told_time) ≡ Some (tells_time time) = rule-unstopped told_time f in
        record {
          act = tt;
          calm = refl;
          passes = passes-time told_time refl;
          known = ap (λ r. known_after r t) ruled;
          tells = ap (λ r. told_by o m r (description_of o h)) ruled;
          replies = replied-time;
          stop = refl;
        }

    pub time-resting : w.stopped ≡ true → IsChanging o h t None (at_m told_time) Done false []
    time-resting f = resting-by told_time Done tt refl (passes-time told_time refl) (rule-stopped told_time f) replied-time false refl

  -- The stop.
  replied-stop : (k : List Item) → reply_to o h (at_m Do.Stop) k Do.Stop ≡ Done
  replied-stop k = ap (pool_reply h k Do.Stop) (find-never (homes h))

  pub stop-changing : w.stopped ≡ false → IsChanging o h t (Some (stopped t)) (at_m Do.Stop) Done true (publication o m t (stopped t) ++ topology_closed o ∷ [])
  stop-changing f =
      let ruled : rule_after o h (at_m Do.Stop) ≡ Some stops = rule-unstopped Do.Stop f in
      record {
        act = tt;
        calm = refl;
        passes = passes-time Do.Stop refl;
        known = ap (λ r. known_after r t) ruled;
        tells = ap (λ r. told_by o m r (description_of o h)) ruled ∙ ap (told_by o m (Some stops)) z.described.known;
        replies = replied-stop;
        stop = refl;
      }

  pub stop-resting : w.stopped ≡ true → IsChanging o h t None (at_m Do.Stop) Done true []
  stop-resting f = resting-by Do.Stop Done tt refl (passes-time Do.Stop refl) (rule-stopped Do.Stop f) replied-stop true refl
