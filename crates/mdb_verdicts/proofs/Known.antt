-- What a plain history says of pools, of troubles and of the topology is plain.
use Rattle.std.proofs.Common.{ℕ, ◌≡◌, Bool, true, false, ◌==◌, List, [], ◌∷◌, Option, Some, None, refl, if◌then◌else◌}
use Rattle.std.specs.Prelude.{⊤}
use Rattle.std.specs.List.{AllByRecursion}
use Rattle.mdb_base.specs.declared.address.ServerAddress.{ServerAddress}
use Rattle.mdb_base.specs.declared.error.Error.{Error}
use Rattle.mdb_base.specs.declared.options.Options.{Options}
use Rattle.mdb_srv.specs.declared.topology_type.TopologyType.{TopologyType}
use Rattle.mdb_srv.specs.declared.topology_type.TopologyType.TheVariants as kind
use Rattle.mdb_describe.specs.declared.description.ServerDescription.{ServerDescription}
use Rattle.mdb_describe.specs.declared.topology.TopologyDescription.{TopologyDescription}
use Rattle.mdb_describe.specs.Descriptions.{failed, load_balancer, from_reply}
use Rattle.mdb_describe.specs.Topology.{opened}
use Rattle.mdb_describe.specs.Update.{updated}
use Rattle.mdb_events.specs.declared.fact.Fact.TheVariants as fact
use Rattle.mdb_log.specs.declared.checked.HelloResult.TheVariants as hello
use Rattle.mdb_log.specs.declared.checked.BeatenResult.TheVariants as beaten
use Rattle.mdb_log.specs.declared.step.Step.{Step}
use Rattle.mdb_log.specs.declared.step.FailedAt.{FailedAt}
use Rattle.mdb_log.specs.declared.step.Act.{Act}
use Rattle.mdb_log.specs.declared.step.Act.TheVariants as act
use Rattle.mdb_log.specs.History.{Item, did, made}
use Rattle.mdb_log.specs.Homes.{Home, homes}
use Rattle.mdb_driver_rules.specs.Homes.{begun, concerns, home_at, home_of, is_here}
use Rattle.mdb_driver_rules.specs.Monitors.{hello_reply, average}
use Rattle.mdb_driver_rules.specs.Current.{Complaint, in_operation, in_handshake, complaint_of, is_current}
use Rattle.mdb_driver_rules.specs.Errors.{Trouble, Case, case_of, monitor_trouble, current_trouble, complaint_trouble, trouble_of, marks}
use Rattle.mdb_driver_rules.specs.Description.{Rule, opens, updates, syncs, tells_time, stops, replied_rule, marking_rule, syncing_rule, rule_of, with_balancers, begins_with, applied, is_stopped, step_rule, description_of, rule_after}
use Rattle.mdb_verdicts.proofs.Plain.{IsPlainAddress, ArePlainAddresses, IsPlainError, IsPlainAct, IsPlainHistory, IsPlainServer}
use Rattle.mdb_verdicts.proofs.Lists.{all-both, all-find, IfAny}
use Rattle.mdb_verdicts.proofs.Servers.{IsPlainTopology, updated-plain, opened-plain, synced-plain, reply-server}

-- pools

abbrev pub IsPlainHome : Home → Type 0
IsPlainHome x = IsPlainAddress x.address

pub homes-plain : (h : List Item) → IsPlainHistory h → AllByRecursion IsPlainHome (homes h)
homes-plain [] i = tt
homes-plain (made m (fact.Opened p a) ∷ h) i = all-both IsPlainHome (homes h) (record { number = p; address = a } ∷ []) (homes-plain h i.1) (i.0, tt)
homes-plain (_ ∷ h) i = homes-plain h i.1

pub home-plain : (h : List Item) (does : Act) → IsPlainHistory h → IfAny IsPlainHome (home_of h does)
home-plain h does i = all-find IsPlainHome (λ x. concerns h does x.number) (homes h) (homes-plain h i)

at-plain : (h : List Item) (p : ℕ) → IsPlainHistory h → IfAny IsPlainHome (home_at h p)
at-plain h p i = all-find IsPlainHome (λ x. x.number == p) (homes h) (homes-plain h i)

-- troubles

pub record IsPlainComplaint (x : Complaint) : Type 0 where
  pub place : IsPlainAddress x.address
  pub own : IsPlainError x.error

pub record IsPlainTrouble (x : Trouble) : Type 0 where
  pub place : IsPlainAddress x.address
  pub own : IsPlainError x.error

operation-plain : (k : List Item) (r : ℕ) (e : Error) (x : Option Home) → IsPlainError e → IfAny IsPlainHome x → IfAny IsPlainComplaint (in_operation k r e x)
operation-plain k r e None j i = tt
operation-plain k r e (Some x) j i = record { place = i; own = j }

handshake-plain : (c : ℕ) (at : FailedAt) (e : Error) (x : Option Home) → IsPlainError e → IfAny IsPlainHome x → IfAny IsPlainComplaint (in_handshake c at e x)
handshake-plain c at e None j i = tt
handshake-plain c at e (Some x) j i = record { place = i; own = j }

complaint-plain : (k : List Item) (does : Act) → IsPlainHistory k → IsPlainAct does → IfAny IsPlainComplaint (complaint_of k does)
complaint-plain k (act.Error r e) h i = operation-plain k r e (home_of k (act.Error r e)) i (home-plain k (act.Error r e) h)
complaint-plain k (act.Failed q c at e) h i = handshake-plain c at e (home_at k q) i (at-plain k q h)
complaint-plain k _ h i = tt

case-plain : (k : List Item) (x : Complaint) (c : Option Case) → IsPlainComplaint x → IfAny IsPlainTrouble (current_trouble k x c)
case-plain k x None i = tt
case-plain k x (Some row) i = record { place = i.place; own = i.own }

current-plain : (o : Options) (k : List Item) (t : TopologyDescription) (x : Option Complaint) → IfAny IsPlainComplaint x → IfAny IsPlainTrouble (complaint_trouble o k t x)
current-plain o k t None i = tt
current-plain o k t (Some x) i = on (is_current o k t x)
  where
    on : (b : Bool) → IfAny IsPlainTrouble (if b then current_trouble k x (case_of x.phase x.error) else None)
    on true = case-plain k x (case_of x.phase x.error) i
    on false = tt

monitor-plain : (k : List Item) (a : ServerAddress) (p : ℕ) (e : Error) → IsPlainAddress a → IsPlainError e → IfAny IsPlainTrouble (monitor_trouble k a p e)
monitor-plain k a p e i j = on (is_here k a p) refl
  where
    on : (b : Bool) → is_here k a p ≡ b → IfAny IsPlainTrouble (monitor_trouble k a p e)
    on true f = rw f (record { place = i; own = j })
    on false f = rw f tt

pub trouble-plain : (o : Options) (k : List Item) (t : TopologyDescription) (does : Act) → IsPlainHistory k → IsPlainAct does → IfAny IsPlainTrouble (trouble_of o k t does)
trouble-plain o k t (act.Hello a p (hello.Err e)) h i = monitor-plain k a p e i.0 i.1
trouble-plain o k t (act.Beaten a p n (beaten.Err e)) h i = monitor-plain k a p e i.0 i.1
trouble-plain o k t (act.Error r e) h i = current-plain o k t (complaint_of k (act.Error r e)) (complaint-plain k (act.Error r e) h i)
trouble-plain o k t (act.Failed q c at e) h i = current-plain o k t (complaint_of k (act.Failed q c at e)) (complaint-plain k (act.Failed q c at e) h i)
trouble-plain o k t _ h i = tt

-- rules

abbrev pub IsPlainRule : Rule → Type 0
IsPlainRule (opens q) = ArePlainAddresses q.seeds
IsPlainRule (updates s) = IsPlainServer s
IsPlainRule (syncs hosts) = ArePlainAddresses hosts
IsPlainRule _ = ⊤

replied-plain : (k : List Item) (a : ServerAddress) (p : ℕ) (s : ServerDescription) → IsPlainServer s → IfAny IsPlainRule (replied_rule k a p s)
replied-plain k a p s i = on (is_here k a p)
  where
    on : (b : Bool) → IfAny IsPlainRule (if b then Some (updates s) else None)
    on true = i
    on false = tt

marking-plain : (o : Options) (x : Option Trouble) → IfAny IsPlainTrouble x → IfAny IsPlainRule (marking_rule o x)
marking-plain o None i = tt
marking-plain o (Some x) i = on (marks o.load_balanced x.row)
  where
    on : (b : Bool) → IfAny IsPlainRule (if b then Some (updates (failed x.address x.error)) else None)
    on true = i.place
    on false = tt

syncing-plain : (k : TopologyType) (hosts : List ServerAddress) → ArePlainAddresses hosts → IfAny IsPlainRule (syncing_rule k hosts)
syncing-plain kind.Sharded hosts i = i
syncing-plain kind.Unknown hosts i = i
syncing-plain _ hosts i = tt

rule-plain : (o : Options) (k : List Item) (t : TopologyDescription) (m : ℕ) (does : Act) → IsPlainHistory k → IsPlainAct does → IfAny IsPlainRule (rule_of o k t m does)
rule-plain o k t m (act.Open q) h i = i
rule-plain o k t m (act.Hello a p (hello.Ok rtt r)) h i = replied-plain k a p (from_reply a (hello_reply a r) rtt m) (reply-server a (hello_reply a r) rtt m i.0)
rule-plain o k t m (act.Hello a p (hello.Err e)) h i = marking-plain o (monitor_trouble k a p e) (monitor-plain k a p e i.0 i.1)
rule-plain o k t m (act.Beaten a p n (beaten.Ok r more)) h i = replied-plain k a p (from_reply a (hello_reply a r) (average o k p) m) (reply-server a (hello_reply a r) (average o k p) m i.0)
rule-plain o k t m (act.Beaten a p n (beaten.Err e)) h i = marking-plain o (monitor_trouble k a p e) (monitor-plain k a p e i.0 i.1)
rule-plain o k t m (act.Hosts hosts) h i = syncing-plain t.topology_type hosts i
rule-plain o k t m (act.Error r e) h i = marking-plain o (trouble_of o k t (act.Error r e)) (trouble-plain o k t (act.Error r e) h i)
rule-plain o k t m (act.Failed q c at e) h i = marking-plain o (trouble_of o k t (act.Failed q c at e)) (trouble-plain o k t (act.Failed q c at e) h i)
rule-plain o k t m _ h i = tt

-- the topology

balancers-plain : (list : List ServerAddress) (t : TopologyDescription) → ArePlainAddresses list → IsPlainTopology t → IsPlainTopology (with_balancers list t)
balancers-plain [] t i h = h
balancers-plain (a ∷ list) t i h = balancers-plain list (updated t (load_balancer a)) i.1 (updated-plain t (load_balancer a) h i.0)

pub begins-plain : (q : Options) → ArePlainAddresses q.seeds → IsPlainTopology (begins_with q)
begins-plain q i = on q.load_balanced
  where
    on : (b : Bool) → IsPlainTopology (if b then with_balancers q.seeds (opened q) else opened q)
    on true = balancers-plain q.seeds (opened q) i (opened-plain q i)
    on false = opened-plain q i

applied-plain : (rule : Option Rule) (t : TopologyDescription) → IfAny IsPlainRule rule → IsPlainTopology t → IsPlainTopology (applied rule t)
applied-plain None t i h = h
applied-plain (Some (opens q)) t i h = begins-plain q i
applied-plain (Some (updates s)) t i h = updated-plain t s h i
applied-plain (Some (syncs hosts)) t i h = synced-plain hosts t i h
applied-plain (Some (tells_time time)) t i h = h
applied-plain (Some stops) t i h = tt

step-rule-plain : (o : Options) (h : List Item) (t : TopologyDescription) (step : Step) → IsPlainHistory h → IsPlainAct step.act → IfAny IsPlainRule (step_rule o h t step)
step-rule-plain o h t step i j = on (is_stopped h)
  where
    on : (b : Bool) → IfAny IsPlainRule (if b then None else rule_of o (begun h step) t step.moment step.act)
    on true = tt
    on false = rule-plain o (begun h step) t step.moment step.act (j, i) j

pub description-plain : (o : Options) (h : List Item) → IsPlainHistory h → IsPlainTopology (description_of o h)
description-plain o [] i = tt
description-plain o (did step reply ∷ h) i =
    let t = description_of o h in
    applied-plain (step_rule o h t step) t (step-rule-plain o h t step i.1 i.0) (description-plain o h i.1)
description-plain o (made m f ∷ h) i = description-plain o h i.1

pub rule-after-plain : (o : Options) (h : List Item) (step : Step) → IsPlainHistory h → IsPlainAct step.act → IfAny IsPlainRule (rule_after o h step)
rule-after-plain o h step i j = step-rule-plain o h (description_of o h) step i j
