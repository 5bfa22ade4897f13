-- A step that does nothing in a pool by itself: its answer, and what each part of the driver then is.
use Rattle.std.proofs.Common.{ℕ, ◌≡◌, ◌≤◌, ◌+◌, ◌^◌, ◌||◌, Bool, true, List, [], ◌∷◌, ◌++◌, map, length, Option, Some, None, is_some, refl, sym, ◌∙◌, ap, subst, append-nil, arith}
use Rattle.std.specs.Prelude.{unwrap_or, All}
use Rattle.std.proofs.lemmas.List.{length-map, length-append}
use Rattle.mdb_base.specs.declared.address.ServerAddress.{ServerAddress}
use Rattle.mdb_base.specs.declared.options.Options.{Options}
use Rattle.mdb_describe.specs.declared.topology.TopologyDescription.{TopologyDescription}
use Rattle.mdb_describe.specs.Servers.{in_order}
use Rattle.mdb_events.specs.declared.fact.Fact.{Fact}
use Rattle.mdb_monitor.specs.Standing.{StandsFor as MonitorStands}
use Rattle.mdb_log.specs.declared.step.Step.{Step}
use Rattle.mdb_log.specs.declared.step.Act.{Act}
use Rattle.mdb_log.specs.declared.step.Act.TheVariants as Do
use Rattle.mdb_log.specs.declared.reply.Reply.{Reply}
use Rattle.mdb_log.specs.History.{Item, did, with_facts, with_answer}
use Rattle.mdb_log.specs.Connections.{one_if}
use Rattle.mdb_log.specs.Homes.{homes}
use Rattle.mdb_log.specs.Opening.{pool_options}
use Rattle.mdb_log.proofs.Later.{with_answer-accepted}
use Rattle.mdb_pool.specs.Core.{PoolCore}
use Rattle.mdb_pool.specs.Now.{last_now}
use Rattle.mdb_topology.specs.declared.topology.TopologyCore.{TopologyCore}
use Rattle.mdb_topology.specs.declared.transition.Transition.{Transition}
use Rattle.mdb_driver_rules.specs.Homes.{begun}
use Rattle.mdb_driver_rules.specs.Monitors.{setting, heartbeat}
use Rattle.mdb_driver_rules.specs.Description.{Rule, rule_after, applied, description_of, known_after}
use Rattle.mdb_driver_rules.specs.Publishing.{told_by}
use Rattle.mdb_driver_rules.specs.Refusal.{first_past, first_refusal}
use Rattle.mdb_driver_rules.specs.Turns.{in_turn}
use Rattle.mdb_driver_pools.specs.Telling.{Tells}
use Rattle.mdb_topology.specs.Marking.{spoken, HasParts}
use Rattle.mdb_driver_pools.specs.Planned.{CanTake, LeadsAll, opened_by}
use Rattle.mdb_topology.specs.declared.monitors.monitoring.Monitoring.TheVariants.{Same}
use Rattle.mdb_topology.specs.Checking.{monitors_after, numbers_after, watchers_after, IsPlaced}
use Rattle.mdb_driver_rules.specs.Facts.{trouble}
use Rattle.mdb_driver_rules.specs.Answer.{reply_to}
use Rattle.mdb_topology.specs.Standing.{MonitorsFit, Describes, Counts, StandsFor}
use Rattle.mdb_driver_pools.specs.Standing.{home, PoolsStand}
use Rattle.mdb_topology.specs.Stepping.{Follows}
use Rattle.mdb_topology.specs.Changing.{IsTelling, IsChanging, IsTold}
use Rattle.mdb_driver_rules.proofs.LeavesAsItIs.{turn-append}
use Rattle.mdb_driver_rules.proofs.SameHistories.{IsOutside, IsPlain}
use Rattle.mdb_topology.proofs.OfMonitors.FactsOfCheck.{told-as}
use Rattle.mdb_topology.proofs.OfMonitors.LeftAlone.{counts-still, known-then, monitors-still}
use Rattle.mdb_driver_rules.proofs.Still.{IsStill}
use Rattle.mdb_topology.proofs.WholeSteps.CheckThenRule.{G, said, answer-told, stands-told, fair-told, fresh-told, accepted-plain}

pub telling-outside : (act : Act) → IsTelling act → IsOutside act
telling-outside (Do.Hello a p came) c = tt
telling-outside (Do.Error r error) c = tt
telling-outside (Do.Hosts hosts) c = tt
telling-outside (Do.ClusterTime time) c = tt
telling-outside Do.Stop c = tt
telling-outside _ c = elim c [ ]

pub telling-still : (act : Act) → IsTelling act → IsStill act
telling-still (Do.Hello a p came) c = tt
telling-still (Do.Error r error) c = tt
telling-still (Do.Hosts hosts) c = tt
telling-still (Do.ClusterTime time) c = tt
telling-still Do.Stop c = tt
telling-still _ c = elim c [ ]

pub telling-quiet : (o : Options) (h : List Item) (act : Act) → IsTelling act → heartbeat o h act ≡ []
telling-quiet o h (Do.Hello a p came) c = refl
telling-quiet o h (Do.Error r error) c = refl
telling-quiet o h (Do.Hosts hosts) c = refl
telling-quiet o h (Do.ClusterTime time) c = refl
telling-quiet o h Do.Stop c = refl
telling-quiet o h _ c = elim c [ ]

-- all of the earlier moment are of the later
pub early-later : (pools : List PoolCore) (l m : ℕ) → l ≤ m → All (λ s. last_now s ≤ l) pools → All (λ s. last_now s ≤ m) pools
early-later pools l m le all i d within = let e : _ ≤ l = all i d within in omega arith

pub known-applied : (rule : Option Rule) (t : TopologyDescription) → applied rule t ≡ unwrap_or (known_after rule t) t
known-applied None t = refl
known-applied (Some rule) t = refl

pub known-some : (rule : Option Rule) (t : TopologyDescription) → is_some (known_after rule t) ≡ is_some rule
known-some None t = refl
known-some (Some rule) t = refl

module _ (w : TopologyCore) (h : List Item) (z : StandsFor w h) (step : Step) (l : w.pools.last ≤ step.moment) (n : Transition) (plain : IsPlain n.reply) where
  abbrev o : Options
  o = w.options

  abbrev m : ℕ
  m = step.moment

  abbrev pools : List PoolCore
  pools = w.pools.cores.items

  abbrev u : TopologyDescription
  u = unwrap_or n.description w.description

  can-take : (touched : ServerAddress → Bool) → CanTake m pools pools (length pools) touched
  can-take touched = record { agrees = λ a e. (refl, λ i f. refl); count = refl; early = early-later pools w.pools.last m l z.early }

  -- what a check, the rule of the step and its error tell
  abbrev parts : List (List Item → List Fact)
  parts = said o h m step.act

  abbrev k : List Item
  k = with_facts m n.facts.items (did step n.reply ∷ h)

  abbrev k-answered : List Item
  k-answered = with_answer step n.reply n.facts.items h

  module _ (out : IsOutside step.act) (passes : first_refusal o h step ≡ None) (known : known_after (rule_after o h step) w.description ≡ n.description)
      (replies : (fs : List Fact) → reply_to o h step (with_facts m fs (begun h step)) step.act ≡ n.reply)
      (told : IsTold o m pools (length pools) u parts n.changes.items n.facts.items)
      (ordered : in_order u.servers ≡ true) (few : length u.servers ≤ 128)
      (each_opened : length n.monitors.items ≡ length (opened_by n.changes.items)) (placed : IsPlaced n.monitoring w.monitors.kept)
      (watched : homes k ≡ homes h ++ opened_by n.changes.items → MonitorsFit o (monitors_after n.monitoring w.monitors.items ++ n.monitors.items) k)
      (counts : Counts o m (w.published + one_if (is_some (rule_after o h step))) (numbers_after n.monitoring w.fresh) (n.stops || w.stopped) (watchers_after n.monitoring w.watchers) k)
      (spare : first_past o m (begun h step) (in_turn m parts (begun h step)) ≡ None) where
    rule-some : is_some (rule_after o h step) ≡ is_some n.description
    rule-some = sym (known-some (rule_after o h step) w.description) ∙ ap is_some known

    known-begun : description_of o (begun h step) ≡ u
    known-begun = ap (applied (rule_after o h step)) z.described.known ∙ (known-applied (rule_after o h step) w.description ∙ ap (λ x. unwrap_or x w.description) known)

    k-is : k-answered ≡ k
    k-is = with_answer-accepted step n.reply n.facts.items h (accepted-plain n.reply plain)

    -- for pools to which the changes lead
    module _ (later : List PoolCore) (leads : LeadsAll n.changes.items pools later) where
      tells : Tells o m parts pools later [] n.facts.items
      tells = told.planned.tells pools later (can-take told.touched) leads

      stands : PoolsStand (pool_options o) later k-answered
      stands = stands-told o h m step.act pools later n.facts.items z.pools out tells n.reply plain

      homes-are : homes k-answered ≡ homes h ++ opened_by n.changes.items
      homes-are = stands.fit.homes_are ∙ (told.planned.homes pools later (can-take told.touched) leads ∙ ap (λ xs. xs ++ opened_by n.changes.items) (sym z.pools.fit.homes_are))

      then-known : description_of o k-answered ≡ u
      then-known = ap (description_of o) k-is ∙ (known-then o h m step.act n.reply n.facts.items w.description z.described.known ∙ ap (λ x. unwrap_or x w.description) known)

      monitors-fit : MonitorsFit o (monitors_after n.monitoring w.monitors.items ++ n.monitors.items) k-answered
      monitors-fit = subst (MonitorsFit o (monitors_after n.monitoring w.monitors.items ++ n.monitors.items)) (sym k-is) (watched (ap homes (sym k-is) ∙ homes-are))

      describes : Describes o u k-answered
      describes = record { known = then-known; ordered = ordered; few = few; open_for = λ a. ap is_some (stands.fit.open_are a) ∙ told.open_for later h (can-take told.touched) leads z.pools a }

      counted : Counts o m (w.published + one_if (is_some n.description)) (numbers_after n.monitoring w.fresh) (n.stops || w.stopped) (watchers_after n.monitoring w.watchers) k-answered
      counted =
          subst (Counts o m (w.published + one_if (is_some n.description)) (numbers_after n.monitoring w.fresh) (n.stops || w.stopped) (watchers_after n.monitoring w.watchers)) (sym k-is)
          (subst (λ b. Counts o m (w.published + one_if b) (numbers_after n.monitoring w.fresh) (n.stops || w.stopped) (watchers_after n.monitoring w.watchers) k) rule-some counts)

      numbered : (others : List PoolCore) → LeadsAll n.changes.items pools others → length others ≤ 2 ^ 32
      numbered others leads2 =
          let all : length others ≡ length pools + length (opened_by n.changes.items) =
          sym (length-map others home) ∙ (ap length (told.planned.homes pools others (can-take told.touched) leads2)
          ∙ (length-append (map home pools) (opened_by n.changes.items) ∙ ap (λ x. x + length (opened_by n.changes.items)) (length-map pools home))) in
          subst (λ x. x ≤ 2 ^ 32) (sym all) told.few

    module _ (later : List PoolCore) (leads : LeadsAll n.changes.items pools later) where
      follows-by : Follows w n step h
      follows-by = record {
        answer_is = answer-told o h m step.act pools later n.facts.items z.pools out (tells later leads) n.reply plain passes (subst (λ t. length t.servers ≤ 128) (sym known-begun) few) spare (replies (G o h m step.act));
        accepted = accepted-plain n.reply plain;
        fair = fair-told o h m step.act pools later n.facts.items z.pools out (tells later leads) n.reply plain;
        fresh = fresh-told o h m step.act pools later n.facts.items z.pools out (tells later leads) n.reply plain;
        leads = (later, leads);
        pools = stands;
        numbers = numbered later leads;
        early = λ others leads2. told.planned.early pools others (can-take told.touched) leads2;
        each_opened = each_opened;
        placed = placed;
        monitors = monitors-fit later leads;
        described = describes later leads;
        counts = counted later leads;
      }

    pub follows-said : Follows w n step h
    follows-said = let some = told.planned.leads pools (can-take told.touched) in follows-by some.0 some.1

  -- a step without trouble tells what its check and its rule do
  abbrev checked : List (List Item → List Fact)
  checked = (λ k. heartbeat o h step.act) ∷ told_by o m (rule_after o h step) (description_of o h)

  said-calm : trouble o h step ≡ None → (j : List Item) → in_turn m parts j ≡ in_turn m checked j
  said-calm calm j = turn-append m checked _ j ∙ rw calm (append-nil (in_turn m checked j))

  pub follows-told : IsOutside step.act → trouble o h step ≡ None → first_refusal o h step ≡ None → known_after (rule_after o h step) w.description ≡ n.description
      → ((fs : List Fact) → reply_to o h step (with_facts m fs (begun h step)) step.act ≡ n.reply)
      → IsTold o m pools (length pools) u checked n.changes.items n.facts.items
      → in_order u.servers ≡ true → length u.servers ≤ 128
      → length n.monitors.items ≡ length (opened_by n.changes.items) → IsPlaced n.monitoring w.monitors.kept
      → (homes k ≡ homes h ++ opened_by n.changes.items → MonitorsFit o (monitors_after n.monitoring w.monitors.items ++ n.monitors.items) k)
      → Counts o m (w.published + one_if (is_some (rule_after o h step))) (numbers_after n.monitoring w.fresh) (n.stops || w.stopped) (watchers_after n.monitoring w.watchers) k
      → first_past o m (begun h step) (in_turn m checked (begun h step)) ≡ None → Follows w n step h
  follows-told out calm passes known replies told ordered few each_opened placed watched counts spare =
      follows-said out passes known replies (told-as o m pools (length pools) u checked parts n.changes.items n.facts.items (said-calm calm) told) ordered few each_opened placed watched counts
      (ap (first_past o m (begun h step)) (said-calm calm (begun h step)) ∙ spare)

  -- a step that tells the parts, and does nothing at the monitors
  module _ (others : List (List Item → List Fact)) (telling : IsTelling step.act) (c : HasParts o h w.description n.description step n.reply n.stops others) (told : IsTold o m pools (length pools) u others n.changes.items n.facts.items)
      (ordered : in_order u.servers ≡ true) (few : length u.servers ≤ 128)
      (settings : map (λ x. x.setting) n.monitors.items ≡ map (λ x. setting o x.address) (opened_by n.changes.items)) (new : All (λ x. MonitorStands x []) n.monitors.items)
      (nothing : n.monitoring ≡ Same) (spare : first_past o m (begun h step) (in_turn m others (begun h step)) ≡ None) where
    said-parts : (j : List Item) → in_turn m parts j ≡ in_turn m others j
    said-parts j = ap (λ fs. in_turn m ((λ k. fs) ∷ spoken o h step) j) (telling-quiet o h step.act telling) ∙ c.tells j

    each-opened : length n.monitors.items ≡ length (opened_by n.changes.items)
    each-opened = sym (length-map n.monitors.items (λ x. x.setting)) ∙ (ap length settings ∙ length-map (opened_by n.changes.items) (λ x. setting o x.address))

    watched-still : homes k ≡ homes h ++ opened_by n.changes.items → MonitorsFit o (monitors_after n.monitoring w.monitors.items ++ n.monitors.items) k
    watched-still homes_are = rw nothing (monitors-still o h m step.act (telling-still step.act telling) n.reply n.facts.items w.monitors.items n.monitors.items (opened_by n.changes.items) z.monitors homes_are settings new)

    counts-all : Counts o m (w.published + one_if (is_some (rule_after o h step))) (numbers_after n.monitoring w.fresh) (n.stops || w.stopped) (watchers_after n.monitoring w.watchers) k
    counts-all =
        rw nothing
        (subst (λ b. Counts o m (w.published + one_if (is_some (rule_after o h step))) w.fresh (b || w.stopped) w.watchers k) c.stop
        (counts-still o h m step.act (telling-still step.act telling) n.reply n.facts.items w.pools.last w.published w.fresh w.stopped w.watchers z.counts))

    pub follows-parts : Follows w n step h
    follows-parts =
        follows-said (telling-outside step.act telling) c.passes c.known (λ fs. c.replies (with_facts m fs (begun h step)))
        (told-as o m pools (length pools) u others parts n.changes.items n.facts.items said-parts told) ordered few each-opened (rw nothing tt) watched-still counts-all
        (ap (first_past o m (begun h step)) (said-parts (begun h step)) ∙ spare)

-- a step without trouble tells what its rule does
pub changing-parts : {o : Options} {h : List Item} {t : TopologyDescription} {next : Option TopologyDescription} {step : Step} {reply : Reply} {stops : Bool} {parts : List (List Item → List Fact)}
    → IsChanging o h t next step reply stops parts → HasParts o h t next step reply stops parts
changing-parts {o} {h} {t} {next} {step} {reply} {stops} {parts} c = record { passes = c.passes; known = c.known; tells = tells; replies = c.replies; stop = c.stop }
  where
    told : List (List Item → List Fact)
    told = told_by o step.moment (rule_after o h step) (description_of o h)

    tells : (k : List Item) → in_turn step.moment (spoken o h step) k ≡ in_turn step.moment parts k
    tells k =
        turn-append step.moment told _ k
        ∙ (rw c.calm (append-nil (in_turn step.moment told k)) ∙ ap (λ ps. in_turn step.moment ps k) c.tells)

module _ (w : TopologyCore) (h : List Item) (z : StandsFor w h) (step : Step) (l : w.pools.last ≤ step.moment) (n : Transition) (plain : IsPlain n.reply) where
  pub follows : (parts : List (List Item → List Fact)) → IsChanging w.options h w.description n.description step n.reply n.stops parts
      → IsTold w.options step.moment w.pools.cores.items (length w.pools.cores.items) (unwrap_or n.description w.description) parts n.changes.items n.facts.items
      → in_order (unwrap_or n.description w.description).servers ≡ true → length (unwrap_or n.description w.description).servers ≤ 128
      → map (λ x. x.setting) n.monitors.items ≡ map (λ x. setting w.options x.address) (opened_by n.changes.items) → All (λ x. MonitorStands x []) n.monitors.items → n.monitoring ≡ Same
      → first_past w.options step.moment (begun h step) (in_turn step.moment parts (begun h step)) ≡ None → Follows w n step h
  follows parts c = follows-parts w h z step l n plain parts c.act (changing-parts c)
