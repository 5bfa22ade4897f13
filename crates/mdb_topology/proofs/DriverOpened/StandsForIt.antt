-- The driver that was just opened: its first entry, and what it stands for.
use Rattle.std.proofs.Common.{ℕ, suc, ◌≡◌, ◌+◌, ◌-◌, ◌≤◌, ◌<◌, ◌^◌, ◌==◌, ◌&&◌, ◌||◌, Bool, true, false, not, if◌then◌else◌, List, [], ◌∷◌, ◌++◌, map, length, Option, Some, None, is_some, nat_lt, refl, sym, ◌∙◌, ap, subst, arith, append-nil}
use Rattle.std.specs.Prelude.{nat_le, unwrap_or, All}
use Rattle.std.proofs.lemmas.Bool.Decides.{nat_tests}
use Rattle.std.proofs.lemmas.Bool.{and_parts, not-false}
use Rattle.std.proofs.lemmas.List.{length-map}
use Rattle.mdb_base.specs.declared.address.ServerAddress.{ServerAddress}
use Rattle.mdb_base.specs.declared.options.Options.{Options}
use Rattle.mdb_base.specs.declared.options.BadOption.{BadOption}
use Rattle.mdb_base.specs.declared.options.BadOption.TheVariants as Bad
use Rattle.mdb_base.specs.OptionRules.{all_different, are_seeds, is_size, first_broken, broken_rule}
use Rattle.mdb_describe.specs.declared.description.ServerDescription.{ServerDescription}
use Rattle.mdb_describe.specs.declared.topology.TopologyDescription.{TopologyDescription}
use Rattle.mdb_describe.specs.declared.diff.Diff.{Diff}
use Rattle.mdb_describe.specs.Differences.{difference, changed, missing}
use Rattle.mdb_describe.specs.Servers.{addresses_of, in_order, is_known, is_listed}
use Rattle.mdb_describe.specs.Topology.{opened}
use Rattle.mdb_events.specs.declared.fact.Fact.{Fact}
use Rattle.mdb_monitor.specs.Standing.{StandsFor as MonitorStands}
use Rattle.mdb_log.specs.declared.step.Step.{Step}
use Rattle.mdb_log.specs.declared.step.Act.TheVariants.{Open}
use Rattle.mdb_log.specs.declared.reply.Reply.TheVariants.{Done}
use Rattle.mdb_log.specs.declared.reply.What.TheVariants.{Servers}
use Rattle.mdb_log.specs.History.{Item, of_pool, with_facts}
use Rattle.mdb_log.specs.Homes.{Home, homes}
use Rattle.mdb_log.specs.LegalLog.{numbered, OpensSeeds}
use Rattle.mdb_log.specs.Opening.{pool_options}
use Rattle.mdb_log.specs.State.{is_ready, state_of}
use Rattle.mdb_describe.proofs.Addresses.{own-address}
use Rattle.mdb_intervals.specs.Spans.{has as is_within}
use Rattle.mdb_log.specs.Connections.{has}
use Rattle.mdb_log.specs.Requests.{names_party}
use Rattle.mdb_log.proofs.Frame.{acts-facts, last-facts}
use Rattle.mdb_driver_pools.specs.Living.{lives_at}
use Rattle.mdb_pool.specs.Core.{PoolCore}
use Rattle.mdb_topology.specs.declared.topology.TopologyCore.{TopologyCore}
use Rattle.mdb_driver_rules.specs.Answer.{answer, answered}
use Rattle.mdb_driver_rules.specs.Description.{unopened, begins_with}
use Rattle.mdb_driver_rules.specs.Facts.{step_facts}
use Rattle.mdb_driver_rules.specs.Homes.{begun}
use Rattle.mdb_driver_rules.specs.Limits.{past_last}
use Rattle.mdb_topology.specs.Logging.{opening_step}
use Rattle.mdb_driver_rules.specs.Monitors.{setting, monitor_items}
use Rattle.mdb_driver_pools.specs.Opening.{IsOpened}
use Rattle.mdb_driver_rules.specs.Publishing.{telling, publication, topology_opening, opening}
use Rattle.mdb_driver_rules.specs.Refusal.{first_past, exhausted, ran_out, refused_by, refusal}
use Rattle.mdb_topology.specs.Standing.{MonitorsFit, StandsFor}
use Rattle.mdb_driver_pools.specs.Standing.{at_address, home, PoolsStand}
use Rattle.mdb_driver_pools.specs.Telling.{Comes}
use Rattle.mdb_driver_rules.specs.Turns.{in_turn}
use Rattle.mdb_driver_rules.proofs.LeavesAsItIs.{with-append, turn-append, description-facts, published-facts, stopped-facts, monitor-facts, fresh-facts, watchers-facts}
use Rattle.mdb_topology.proofs.Publications.OfDifference.{nothing-differs}
use Rattle.mdb_driver_rules.proofs.FactsPastLimits.{past-append}
use Rattle.mdb_driver_pools.proofs.DriverOpened.OpenedDriver.{few-seeds, opened-comes}
use Rattle.mdb_driver_pools.proofs.DriverOpened.OpenFromTheStart.{all-open, known-listed, lives-all, open-unspent}
use Rattle.mdb_driver_rules.proofs.PoolsThatOpen.{telling-homes, begun-addresses, same-missing, opened-missing}
use Rattle.mdb_driver_rules.proofs.PoolsPastLimits.{telling-past}
use Rattle.mdb_driver_rules.proofs.ServersThen.{of-difference}
use Rattle.mdb_driver_rules.proofs.KnownBalancers.{few-opened}
use Rattle.mdb_driver_pools.proofs.DriverOpened.SeedsOnce.{seeds-same}
use Rattle.mdb_describe.proofs.InOrder.{added_in_order}
use Rattle.mdb_topology.proofs.OfMonitors.LeftAlone.{in-all}
use Rattle.mdb_topology.proofs.WholeSteps.CheckThenRule.{told-first, served-all}

-- what differs
abbrev whole : List ServerDescription → List ServerDescription → Diff
whole earlier later = record { changed = changed earlier later; removed = missing earlier later; added = missing later earlier }

-- none of the rules is broken
skip : (b : Bool) (why : BadOption) (rules : List (Bool × BadOption)) → first_broken ((b, why) ∷ rules) ≡ None → (b ≡ false) × (first_broken rules ≡ None)
skip true why rules e = cc
skip false why rules e = (refl, e)

-- what options that keep the rules say of the seeds
module _ (o : Options) (kept : broken_rule o ≡ None) where
  abbrev Rules : Type 0
  Rules = List (Bool × BadOption)

  abbrev limit_on : Rules
  limit_on = (nat_lt (unwrap_or o.limit_pool 4294967295) (length o.seeds - 1), Bad.PoolLimit) ∷ []

  abbrev min_on : Rules
  min_on = (not (is_size o.min_pool_size 0), Bad.Min) ∷ limit_on

  abbrev max_on : Rules
  max_on = (not (is_size o.max_pool_size 1 && is_size o.max_connecting 1), Bad.MaxOrConnecting) ∷ min_on

  abbrev name_on : Rules
  name_on = (o.load_balanced && is_some o.set_name, Bad.SetName) ∷ max_on

  abbrev both_on : Rules
  both_on = (o.direct && o.load_balanced, Bad.DirectAndBalanced) ∷ name_on

  abbrev one_on : Rules
  one_on = ((o.direct || o.load_balanced) && not (length o.seeds == 1), Bad.OneSeed) ∷ both_on

  first : (not (are_seeds o.seeds) ≡ false) × (first_broken one_on ≡ None)
  first = skip (not (are_seeds o.seeds)) Bad.Seeds one_on kept

  second : ((o.direct || o.load_balanced) && not (length o.seeds == 1) ≡ false) × (first_broken both_on ≡ None)
  second = skip ((o.direct || o.load_balanced) && not (length o.seeds == 1)) Bad.OneSeed both_on first.1

  pub different-seeds : all_different o.seeds ≡ true
  different-seeds = (and_parts (nat_le 1 (length o.seeds) && nat_le (length o.seeds) 128) (all_different o.seeds) (not-false (are_seeds o.seeds) first.0)).1

  pub one-seed : o.load_balanced ≡ true → (length o.seeds == 1) ≡ true
  one-seed balanced = on o.direct (length o.seeds == 1) balanced second.0
    where
      on : (d k : Bool) → o.load_balanced ≡ true → (d || o.load_balanced) && not k ≡ false → k ≡ true
      on d true e f = refl
      on true false e f = cc
      on false false e f = let w : (false || o.load_balanced) && not false ≡ true = rw e refl in let t : true ≡ false = sym w ∙ f in cc

  within-limit : nat_lt (unwrap_or o.limit_pool 4294967295) (length o.seeds - 1) ≡ false
  within-limit =
      let third = skip (o.direct && o.load_balanced) Bad.DirectAndBalanced name_on second.1 in
      let fourth = skip (o.load_balanced && is_some o.set_name) Bad.SetName max_on third.1 in
      let fifth = skip (not (is_size o.max_pool_size 1 && is_size o.max_connecting 1)) Bad.MaxOrConnecting min_on fourth.1 in
      let sixth = skip (not (is_size o.min_pool_size 0)) Bad.Min limit_on fifth.1 in
      (skip (nat_lt (unwrap_or o.limit_pool 4294967295) (length o.seeds - 1)) Bad.PoolLimit [] sixth.1).0

length-numbered : (n : ℕ) (list : List ServerAddress) → length (numbered n list) ≡ length list
length-numbered n [] = refl
length-numbered n (a ∷ more) = ap suc (length-numbered (n + 1) more)

-- behind a load balancer the only pool is ready from the start
abbrev balanced_options : Options → ServerAddress → Options
balanced_options q a = record q { seeds = a ∷ []; load_balanced = true }

abbrev opened_history : Options → List Item
opened_history o = with_facts 0 (in_turn 0 (opening o 0 o) (begun [] (opening_step o))) (begun [] (opening_step o))

balanced-ready : (a : ServerAddress) (q : Options) → state_of (pool_options (balanced_options q a)) (of_pool 0 (opened_history (balanced_options q a))) ≡ is_ready
balanced-ready a q = rw (own-address a, own-address a, own-address a, own-address a, own-address a, own-address a) refl

-- The history of the opening.
module _ (o : Options) (kept : broken_rule o ≡ None) where
  abbrev step : Step
  step = opening_step o

  abbrev k0 : List Item
  k0 = begun [] step

  abbrev k1 : List Item
  k1 = with_facts 0 (topology_opening o k0) k0

  abbrev A : List (List Item → List Fact)
  A = publication o 0 (unopened o) (opened o)

  abbrev B : List (List Item → List Fact)
  B = publication o 0 (opened o) (begins_with o)

  abbrev k2 : List Item
  k2 = with_facts 0 (in_turn 0 A k1) k1

  abbrev pub F : List Fact
  F = in_turn 0 (opening o 0 o) k0

  abbrev list : List ServerAddress
  list = addresses_of (opened o).servers

  few-list : length list ≤ length o.seeds
  few-list = subst (λ n. n ≤ length o.seeds) (sym (length-map (opened o).servers (λ s. s.address))) (few-opened o)

  -- what the first publication adds, and the second does not
  first-added : (d : Diff) → difference [] (opened o).servers ≡ Some d → d.added ≡ list
  first-added d e = ap (λ (x : Diff). x.added) (sym (of-difference (whole [] (opened o).servers) d e)) ∙ opened-missing o

  second-added : (d : Diff) → difference (opened o).servers (begins_with o).servers ≡ Some d → d.added ≡ []
  second-added d e = ap (λ (x : Diff). x.added) (sym (of-difference (whole (opened o).servers (begins_with o).servers) d e)) ∙ same-missing (begins_with o).servers (opened o).servers (begun-addresses o)

  past-first : (x : Option Diff) → difference [] (opened o).servers ≡ x → first_past o 0 k1 (in_turn 0 (telling o 0 (unopened o) (opened o) x) k1) ≡ None
  past-first None e = refl
  past-first (Some d) e = telling-past o 0 (unopened o) (opened o) d k1 ∙ (ap (past_last o 0) (first-added d e) ∙ on list few-list)
    where
      on : (xs : List ServerAddress) → length xs ≤ length o.seeds → past_last o 0 xs ≡ None
      on [] few = refl
      on (a ∷ more) few =
          let w : nat_lt (unwrap_or o.limit_pool 4294967295) (0 + length more) ≡ false = grind (arith, nat_tests, within-limit o kept, few) in
          rw w refl

  past-second : (x : Option Diff) → difference (opened o).servers (begins_with o).servers ≡ x → first_past o 0 k2 (in_turn 0 (telling o 0 (opened o) (begins_with o) x) k2) ≡ None
  past-second None e = refl
  past-second (Some d) e = telling-past o 0 (opened o) (begins_with o) d k2 ∙ ap (past_last o (length (homes k2))) (second-added d e)

  pub past-none : first_past o 0 k0 F ≡ None
  past-none =
      ap (first_past o 0 k1) (turn-append 0 A B k1)
      ∙ (past-append o 0 k1 (in_turn 0 A k1) (in_turn 0 B k2)
      ∙ rw (past-first (difference [] (opened o).servers) refl) (past-second (difference (opened o).servers (begins_with o).servers) refl))

  -- the pools that it opens
  homes-first : (x : Option Diff) → difference [] (opened o).servers ≡ x → homes (with_facts 0 (in_turn 0 (telling o 0 (unopened o) (opened o) x) k1) k1) ≡ numbered 0 list
  homes-first None e = ap (numbered 0) (sym (sym (opened-missing o) ∙ (nothing-differs (whole [] (opened o).servers) e).1))
  homes-first (Some d) e = telling-homes o 0 (unopened o) (opened o) d k1 ∙ ap (numbered 0) (first-added d e)

  homes-second : (x : Option Diff) → difference (opened o).servers (begins_with o).servers ≡ x → (hs : List Home) → homes k2 ≡ hs → homes (with_facts 0 (in_turn 0 (telling o 0 (opened o) (begins_with o) x) k2) k2) ≡ hs
  homes-second None e hs f = f
  homes-second (Some d) e hs f = telling-homes o 0 (opened o) (begins_with o) d k2 ∙ (ap (λ xs. homes k2 ++ numbered (length (homes k2)) xs) (second-added d e) ∙ (append-nil (homes k2) ∙ f))

  pub homes-opened : homes (with_facts 0 F k0) ≡ numbered 0 list
  homes-opened =
      ap (λ fs. homes (with_facts 0 fs k1)) (turn-append 0 A B k1)
      ∙ (ap homes (with-append 0 (in_turn 0 A k1) (in_turn 0 B k2) k1)
      ∙ homes-second (difference (opened o).servers (begins_with o).servers) refl (numbered 0 list) (homes-first (difference [] (opened o).servers) refl))

  -- The pools that stand for it.
  module _ (pools : List PoolCore) (t : TopologyDescription) (facts : List Fact) (z : IsOpened o 0 pools t facts) where
    comes : Comes o 0 F pools [] facts k0
    comes = opened-comes o 0 o pools t facts z

    pub facts-are : facts ≡ F
    facts-are = comes.added

    abbrev k : List Item
    k = with_facts 0 F k0

    step-told : step_facts o [] step ≡ F
    step-told =
        told-first o [] 0 (Open o)
        ∙ (ap (λ fs. F ++ (fs ++ [])) (served-all o 0 pools k comes.stand)
        ∙ append-nil F)

    few : length (begins_with o).servers ≤ 128
    few = let e : length t.servers ≤ 128 = (let s : length o.seeds ≤ 128 = few-seeds o kept in omega (arith, z.few, s)) in subst (λ (u : TopologyDescription). length u.servers ≤ 128) z.known e

    pub answer-opened : answer o [] step ≡ record { reply = Done; facts = facts }
    answer-opened =
        let less : nat_lt 128 (length (begins_with o).servers) ≡ false = grind (arith, nat_tests, few) in
        let spare : exhausted o [] step F ≡ None = ap (λ b. if b then Some Servers else first_past o 0 k0 F) less ∙ past-none in
        let none : refusal o [] step ≡ None = ap (λ fs. refused_by None (ran_out (exhausted o [] step fs))) step-told ∙ ap (λ x. refused_by None (ran_out x)) spare in
        ap (λ x. answered o [] step x (step_facts o [] step)) none
        ∙ (ap (answered o [] step None) step-told ∙ ap (λ fs. record { reply = Done; facts = fs }) (sym facts-are))

    pub stands-opened : PoolsStand (pool_options o) pools (with_facts 0 facts k0)
    stands-opened = subst (λ fs. PoolsStand (pool_options o) pools (with_facts 0 fs k0)) (sym facts-are) comes.stand

    -- something lives in each of them
    pub all-live : (p : ℕ) → nat_lt p (length pools) ≡ lives_at pools p
    all-live = lives-all pools (λ p s at. open-unspent s (all-open 0 list pools homes-list (added_in_order o.seeds [] refl) there p s at))
      where
        homes-list : map home pools ≡ numbered 0 list
        homes-list = sym stands-opened.fit.homes_are ∙ (ap (λ fs. homes (with_facts 0 fs k0)) facts-are ∙ homes-opened)

        there : (a : ServerAddress) → is_listed list a ≡ true → is_some (at_address pools a) ≡ true
        there a l =
            z.open_for a
            ∙ (ap (λ (u : TopologyDescription). is_known a u.servers) z.known
            ∙ (known-listed a (begins_with o).servers
            ∙ (ap (λ xs. is_listed xs a) (begun-addresses o) ∙ l)))

    -- all that a driver keeps
    pub core-stands : (w : TopologyCore) → w.options ≡ o → w.description ≡ t → w.published ≡ 1 → w.stopped ≡ false → w.pools.cores.items ≡ pools → w.pools.last ≡ 0 → w.fresh ≡ 0 → w.watchers ≡ []
        → map (λ m. m.setting) w.monitors.items ≡ map (λ s. setting o s.address) pools → All (λ m. MonitorStands m []) w.monitors.items → in_order t.servers ≡ true
        → w.pools.known.spans ≡ [] → ((p : ℕ) → lives_at pools p ≡ true → has p w.monitors.kept ≡ true) → StandsFor w (with_facts 0 facts k0)
    core-stands w e1 e2 e3 e4 e5 e6 e7 e8 settings new ordered none kept_are = record {
      pools = rw (e1, e5) stands-opened;
      monitors = rw e1 monitors-fit;
      described = rw (e1, e2) (record { known = description-facts o 0 facts k0 ∙ sym z.known; ordered = ordered; few = subst (λ (u : TopologyDescription). length u.servers ≤ 128) (sym z.known) few; open_for = λ a. ap is_some (stands-opened.fit.open_are a) ∙ z.open_for a });
      counts = rw (e1, e6, e3, e7, e4, e8) (record {
        last_is = last-facts 0 facts k0;
        publications_are = published-facts o 0 facts k0;
        numbers_are = fresh-facts o 0 facts k0;
        stopped_is = stopped-facts o 0 facts k0;
        watchers_are = watchers-facts o 0 facts k0;
      });
      known = λ r. ap (is_within r) none ∙ sym (acts-facts names_party 0 r facts k0);
      watched = λ p. rw e5 (kept_are p);
      numbers = rw e5 count;
      early = rw (e5, e6) z.early;
    }
      where
        j : List Item
        j = with_facts 0 facts k0

        homes-are : homes (with_facts 0 facts k0) ≡ map home pools
        homes-are = stands-opened.fit.homes_are

        items-none : (p : ℕ) → monitor_items (with_facts 0 facts k0) p ≡ []
        items-none p = monitor-facts o 0 p facts k0

        homes-settings : (xs : List PoolCore) → map (λ s. setting o s.address) xs ≡ map (λ x. setting o x.address) (map home xs)
        homes-settings [] = refl
        homes-settings (x ∷ xs) = ap (λ rest. setting o x.address ∷ rest) (homes-settings xs)

        monitors-fit : MonitorsFit o w.monitors.items (with_facts 0 facts k0)
        monitors-fit = record {
          settings = settings ∙ (homes-settings pools ∙ ap (map (λ x. setting o x.address)) (sym homes-are));
          each = λ p m at. subst (MonitorStands m) (sym (items-none p)) (in-all (λ x. MonitorStands x []) w.monitors.items p m at new);
          rest = λ p e. items-none p;
        }

        count : length pools ≤ 2 ^ 32
        count =
            let same : length pools ≡ length list =
            sym (length-map pools home) ∙ (ap length (sym homes-are) ∙ (ap (λ fs. length (homes (with_facts 0 fs k0))) facts-are ∙ (ap length homes-opened ∙ length-numbered 0 list))) in
            let s : length o.seeds ≤ 128 = few-seeds o kept in
            omega (arith, same, few-list, s)

    -- the seeds are opened in the order of their addresses
    pub opens-seeds : OpensSeeds o (with_facts 0 facts k0)
    opens-seeds = record {
      list = list;
      same = seeds-same o.seeds (different-seeds o kept);
      ordered = added_in_order o.seeds [] refl;
      opened = ap (λ fs. homes (with_facts 0 fs k0)) facts-are ∙ homes-opened;
      ready = λ balanced p l. ready-at o.seeds refl balanced (one-seed o kept balanced) p (few-homes p l);
    }
      where
        few-homes : (p : ℕ) → p < length (homes (with_facts 0 facts k0)) → p < length o.seeds
        few-homes p l =
            let same : length (homes (with_facts 0 facts k0)) ≡ length list = ap (λ fs. length (homes (with_facts 0 fs k0))) facts-are ∙ (ap length homes-opened ∙ length-numbered 0 list) in
            omega (arith, l, same, few-list)

        ready-at : (xs : List ServerAddress) → o.seeds ≡ xs → o.load_balanced ≡ true → (length o.seeds == 1) ≡ true → (p : ℕ) → p < length o.seeds → state_of (pool_options o) (of_pool p (with_facts 0 facts k0)) ≡ is_ready
        ready-at [] e balanced one p l = let w : (length o.seeds == 1) ≡ false = rw e refl in let t : true ≡ false = sym one ∙ w in cc
        ready-at (a ∷ b ∷ more) e balanced one p l = let w : (length o.seeds == 1) ≡ false = rw e (grind arith) in let t : true ≡ false = sym one ∙ w in cc
        ready-at (a ∷ []) e balanced one p l =
            let none : p ≡ 0 = (let n : length o.seeds ≡ 1 = ap length e in omega (arith, l, n)) in
            let same : balanced_options o a ≡ o = ap (λ s. record o { seeds = s; load_balanced = true }) (sym e) ∙ ap (λ b. record o { seeds = o.seeds; load_balanced = b }) (sym balanced) in
            subst (λ fs. state_of (pool_options o) (of_pool p (with_facts 0 fs k0)) ≡ is_ready) (sym facts-are)
            (subst (λ n. state_of (pool_options o) (of_pool n (with_facts 0 F k0)) ≡ is_ready) (sym none)
            (subst (λ q. state_of (pool_options q) (of_pool 0 (opened_history q)) ≡ is_ready) same (balanced-ready a o)))
