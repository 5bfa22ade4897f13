-- A step that tells of no trouble is refused by its rows, or for the servers and the pools that would come.
use Rattle.std.proofs.Common.{ℕ, ◌≡◌, ◌≤◌, ◌+◌, Bool, true, false, not, List, [], ◌∷◌, length, Option, Some, None, nat_lt, refl, sym, ◌∙◌, ap, subst, append-nil, arith}
use Rattle.std.specs.Prelude.{⊤}
use Rattle.std.proofs.lemmas.Bool.Decides.{nat_tests}
use Rattle.mdb_base.specs.declared.address.ServerAddress.{ServerAddress}
use Rattle.mdb_base.specs.declared.options.Options.{Options}
use Rattle.mdb_srv.specs.declared.topology_type.TopologyType.{TopologyType}
use Rattle.mdb_srv.specs.declared.topology_type.TopologyType.TheVariants as Kind
use Rattle.mdb_describe.specs.declared.description.ServerDescription.{ServerDescription}
use Rattle.mdb_describe.specs.declared.diff.Diff.{Diff}
use Rattle.mdb_describe.specs.declared.topology.TopologyDescription.{TopologyDescription}
use Rattle.mdb_describe.specs.Differences.{difference}
use Rattle.mdb_describe.specs.Topology.{stopped}
use Rattle.mdb_events.specs.declared.fact.Fact.{Fact}
use Rattle.mdb_log.specs.declared.checked.BeatenResult.TheVariants as Beaten
use Rattle.mdb_log.specs.declared.checked.HelloResult.TheVariants as Hello
use Rattle.mdb_log.specs.declared.reply.What.{What}
use Rattle.mdb_log.specs.declared.reply.What.TheVariants.{Generation, Monitor, Pool, Servers}
use Rattle.mdb_log.specs.declared.step.Act.{Act}
use Rattle.mdb_log.specs.declared.step.Act.TheVariants as Do
use Rattle.mdb_log.specs.declared.step.Step.{Step}
use Rattle.mdb_log.specs.History.{Item, with_facts}
use Rattle.mdb_log.specs.Homes.{homes}
use Rattle.mdb_topology.specs.declared.topology.TopologyCore.{TopologyCore}
use Rattle.mdb_driver_rules.specs.Description.{Rule, opens, updates, syncs, tells_time, stops, description_of, is_stopped, marking_rule, replied_rule, rule_after, rule_of, syncing_rule}
use Rattle.mdb_driver_rules.specs.Errors.{Trouble, marks, trouble_of}
use Rattle.mdb_driver_rules.specs.Facts.{trouble}
use Rattle.mdb_driver_rules.specs.Homes.{begun, is_here}
use Rattle.mdb_driver_rules.specs.Limits.{past_last, pool_limit}
use Rattle.mdb_topology.specs.Marking.{spoken}
use Rattle.mdb_driver_rules.specs.Monitors.{heartbeat}
use Rattle.mdb_driver_rules.specs.Publishing.{publication, telling, told_by, topology_closed}
use Rattle.mdb_driver_rules.specs.Refusal.{first_past, first_refusal, is_over_connection, may_want, may_yield, names_hosts, ran_out, refusal, sooner}
use Rattle.mdb_topology.specs.Standing.{StandsFor}
use Rattle.mdb_driver_rules.specs.Turns.{in_turn}
use Rattle.mdb_driver_rules.proofs.NumbersWithinLimits.{take_numbers, first-free}
use Rattle.mdb_driver_rules.proofs.LeavesAsItIs.{turn-append}
use Rattle.mdb_driver_rules.proofs.FactsPastLimits.{past-append}
use Rattle.mdb_driver_rules.proofs.PoolsPastLimits.{telling-past}
use Rattle.mdb_topology.proofs.WholeSteps.RefusedOfNoPool.{outside-refusal}
use Rattle.mdb_driver_rules.proofs.SameHistories.{IsOutside}
use Rattle.mdb_topology.proofs.WholeSteps.CheckThenRule.{G, refused-servers}

-- nothing, or the number of a pool that would come
abbrev IsOfPools : Option What → Type 0
IsOfPools None = ⊤
IsOfPools (Some Pool) = ⊤
IsOfPools (Some _) = ⊥

pools-yield : (over : Bool) (past : Option What) → IsOfPools past → may_yield over false (ran_out past) ≡ true
pools-yield over None c = refl
pools-yield over (Some Pool) c = refl
pools-yield over (Some Generation) c = absurd c
pools-yield over (Some Monitor) c = absurd c
pools-yield over (Some Servers) c = absurd c

-- a step that is not refused
pub none-wants : (o : Options) (h : List Item) (step : Step) → refusal o h step ≡ None → may_want o h step ≡ true
none-wants o h step e = ap (may_yield (is_over_connection h step.act) (names_hosts step.act)) e

-- a rule of a driver that is open
abbrev IsLater : Option Rule → Type 0
IsLater (Some (opens q)) = ⊥
IsLater _ = ⊤

module _ (o : Options) (m : ℕ) where
  last-past : (n : ℕ) (xs : List ServerAddress) → IsOfPools (past_last o n xs)
  last-past n [] = tt
  last-past n (a ∷ more) = on (nat_lt (pool_limit o) (n + length more)) refl
    where
      on : (b : Bool) → nat_lt (pool_limit o) (n + length more) ≡ b → IsOfPools (past_last o n (a ∷ more))
      on true e = rw e tt
      on false e = rw e tt

  telling-passes : (t u : TopologyDescription) (d : Option Diff) (k : List Item) → IsOfPools (first_past o m k (in_turn m (telling o m t u d) k))
  telling-passes t u None k = tt
  telling-passes t u (Some d) k = subst IsOfPools (sym (telling-past o m t u d k)) (last-past (length (homes k)) d.added)

  both-pass : (past : Option What) → IsOfPools past → IsOfPools (sooner past None)
  both-pass None c = tt
  both-pass (Some what) c = c

  -- what a rule tells takes only the numbers of pools past a limit
  told-passes : (rule : Option Rule) (t : TopologyDescription) (k : List Item) → IsLater rule → IsOfPools (first_past o m k (in_turn m (told_by o m rule t) k))
  told-passes None t k c = tt
  told-passes (Some (opens q)) t k c = absurd c
  told-passes (Some (updates s)) t k c = telling-passes t _ (difference t.servers _) k
  told-passes (Some (syncs hosts)) t k c = telling-passes t _ (difference t.servers _) k
  told-passes (Some (tells_time time)) t k c = tt
  told-passes (Some stops) t k c =
      let u : TopologyDescription = stopped t in
      let first : List Fact = in_turn m (publication o m t u) k in
      subst IsOfPools (sym (ap (first_past o m k) (turn-append m (publication o m t u) (topology_closed o ∷ []) k) ∙ past-append o m k first (in_turn m (topology_closed o ∷ []) (with_facts m first k))))
      (both-pass (first_past o m k first) (telling-passes t u (difference t.servers u.servers) k))

marking-later : (o : Options) (x : Option Trouble) → IsLater (marking_rule o x)
marking-later o None = tt
marking-later o (Some x) = on (marks o.load_balanced x.row) refl
  where
    on : (b : Bool) → marks o.load_balanced x.row ≡ b → IsLater (marking_rule o (Some x))
    on true e = rw e tt
    on false e = rw e tt

replied-later : (k : List Item) (a : ServerAddress) (p : ℕ) (s : ServerDescription) → IsLater (replied_rule k a p s)
replied-later k a p s = on (is_here k a p) refl
  where
    on : (b : Bool) → is_here k a p ≡ b → IsLater (replied_rule k a p s)
    on true e = rw e tt
    on false e = rw e tt

syncing-later : (kind : TopologyType) (hosts : List ServerAddress) → IsLater (syncing_rule kind hosts)
syncing-later Kind.Sharded hosts = tt
syncing-later Kind.Unknown hosts = tt
syncing-later _ hosts = tt

-- no act but the opening opens
of-later : (o : Options) (k : List Item) (t : TopologyDescription) (m : ℕ) (act : Act) → IsOutside act → IsLater (rule_of o k t m act)
of-later o k t m (Do.Hello a p (Hello.Ok rtt r)) c = replied-later k a p _
of-later o k t m (Do.Hello a p (Hello.Err e)) c = marking-later o (trouble_of o k t (Do.Hello a p (Hello.Err e)))
of-later o k t m (Do.Beaten a p d (Beaten.Ok r more)) c = replied-later k a p _
of-later o k t m (Do.Beaten a p d (Beaten.Err e)) c = marking-later o (trouble_of o k t (Do.Beaten a p d (Beaten.Err e)))
of-later o k t m (Do.Beaten a p d (Beaten.Cancelled e)) c = marking-later o (trouble_of o k t (Do.Beaten a p d (Beaten.Cancelled e)))
of-later o k t m (Do.Hosts hosts) c = syncing-later t.topology_type hosts
of-later o k t m (Do.ClusterTime time) c = tt
of-later o k t m Do.Stop c = tt
of-later o k t m (Do.Error r e) c = marking-later o (trouble_of o k t (Do.Error r e))
of-later o k t m (Do.Beat a p) c = marking-later o (trouble_of o k t (Do.Beat a p))
of-later o k t m (Do.Rtt a p d) c = marking-later o (trouble_of o k t (Do.Rtt a p d))
of-later o k t m (Do.Want w) c = marking-later o (trouble_of o k t (Do.Want w))
of-later o k t m (Do.Unwant w) c = marking-later o (trouble_of o k t (Do.Unwant w))
of-later o k t m _ c = elim c [ ]

module _ (w : TopologyCore) (h : List Item) (z : StandsFor w h) (act : Act) (m : ℕ) (out : IsOutside act) where
  abbrev o : Options
  o = w.options

  abbrev step : Step
  step = record { moment = m; act = act }

  abbrev k : List Item
  k = begun h step

  abbrev rule : Option Rule
  rule = rule_after o h step

  rule-later : IsLater rule
  rule-later = on (is_stopped h) refl
    where
      on : (b : Bool) → is_stopped h ≡ b → IsLater rule
      on true e = rw e tt
      on false e = rw e (of-later o k (description_of o h) m act out)

  module _ (calm : trouble o h step ≡ None) (passes : first_refusal o h step ≡ None) (free : take_numbers (heartbeat o h act) ≡ false) (unnamed : names_hosts act ≡ false) where
    abbrev beats : List Fact
    beats = heartbeat o h act

    abbrev j : List Item
    j = with_facts m beats k

    abbrev told : List (List Item → List Fact)
    told = told_by o m rule (description_of o h)

    spoken-is : in_turn m (spoken o h step) j ≡ in_turn m told j
    spoken-is = turn-append m told _ j ∙ rw calm (append-nil (in_turn m told j))

    past-is : first_past o m k (G o h m act) ≡ first_past o m j (in_turn m told j)
    past-is =
        past-append o m k beats (in_turn m (spoken o h step) j)
        ∙ (ap (λ y. sooner y (first_past o m j (in_turn m (spoken o h step) j))) (first-free o m k beats free)
        ∙ ap (first_past o m j) spoken-is)

    -- so there may be no memory for it
    pub untroubled-wants : may_want o h step ≡ true
    untroubled-wants = on (nat_lt 128 (length (description_of o k).servers)) refl
      where
        on : (b : Bool) → nat_lt 128 (length (description_of o k).servers) ≡ b → may_want o h step ≡ true
        on true e = ap (may_yield (is_over_connection h act) (names_hosts act)) (refused-servers o h m act passes e) ∙ ap not unnamed
        on false e =
            let few : length (description_of o k).servers ≤ 128 = grind (arith, nat_tests) in
            let past : Option What = first_past o m j (in_turn m told j) in
            ap (may_yield (is_over_connection h act) (names_hosts act)) (outside-refusal o h m act out past passes few past-is)
            ∙ ap (λ b. may_yield (is_over_connection h act) b (ran_out past)) unnamed
            ∙ pools-yield (is_over_connection h act) past (told-passes o m rule (description_of o h) j rule-later)
