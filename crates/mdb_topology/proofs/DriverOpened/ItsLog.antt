-- The log of a driver that was just opened.
use Rattle.std.proofs.Common.{ℕ, length, ◌≡◌, List, [], ◌∷◌, ◌++◌, map, None, refl, sym, ◌∙◌, ap, subst, true, false}
use Rattle.std.specs.Prelude.{All}
use Rattle.std.proofs.lemmas.List.{nil_from_length}
use Rattle.std.proofs.lemmas.List.Elements.{All-nil}
use Rattle.mdb_base.specs.AddressOrder.{in_order as are_in_order}
use Rattle.mdb_base.specs.declared.options.Options.{Options}
use Rattle.mdb_base.specs.OptionRules.{broken_rule}
use Rattle.mdb_describe.specs.declared.topology.TopologyDescription.{TopologyDescription}
use Rattle.mdb_describe.specs.Servers.{in_order}
use Rattle.mdb_describe.proofs.InOrder.{added_in_order}
use Rattle.mdb_events.specs.declared.fact.Fact.{Fact}
use Rattle.mdb_monitor.specs.Standing.{StandsFor as MonitorStands}
use Rattle.mdb_log.specs.declared.log.Entry.{Entry}
use Rattle.mdb_log.specs.declared.reply.Reply.TheVariants.{Done}
use Rattle.mdb_log.specs.History.{history_of}
use Rattle.mdb_log.specs.LegalLog.{OpensSeeds, IsOrderly}
use Rattle.mdb_log.specs.Opening.{is_opening, pool_options}
use Rattle.mdb_pool.specs.Core.{PoolCore}
use Rattle.mdb_topology.specs.declared.topology.TopologyCore.{TopologyCore}
use Rattle.mdb_driver_rules.specs.Description.{begins_with}
use Rattle.mdb_driver_rules.specs.Lines.{entry_after}
use Rattle.mdb_topology.specs.Logging.{opening_step, Stood, IsDriverOf}
use Rattle.mdb_log.specs.Connections.{has}
use Rattle.mdb_driver_pools.specs.Living.{lives_at}
use Rattle.mdb_driver_rules.specs.Monitors.{setting}
use Rattle.mdb_driver_pools.specs.Opening.{IsOpened}
use Rattle.mdb_topology.specs.Standing.{StandsFor}
use Rattle.mdb_driver_pools.proofs.Orderly.{orderly}
use Rattle.mdb_topology.proofs.DriverOpened.StandsForIt.{answer-opened, stands-opened, core-stands, opens-seeds}
use Rattle.mdb_driver_rules.proofs.PoolsThatOpen.{begun-addresses}

begun-ordered : (o : Options) → in_order (begins_with o).servers ≡ true
begun-ordered o = ap are_in_order (begun-addresses o) ∙ added_in_order o.seeds [] refl

module _ (o : Options) (kept : broken_rule o ≡ None) (pools : List PoolCore) (t : TopologyDescription) (facts : List Fact) (z : IsOpened o 0 pools t facts) (seat : ℕ) where
  pub opening-entry : record { seat = seat; step = opening_step o; reply = Done; facts = facts } ≡ entry_after seat [] (opening_step o)
  opening-entry = ap (λ a. record { seat = seat; step = opening_step o; reply = a.reply; facts = a.facts }) (sym (answer-opened o kept pools t facts z))

  pub opening-log : (w : TopologyCore) → w.options ≡ o → w.description ≡ t → w.published ≡ 1 → w.stopped ≡ false → w.pools.cores.items ≡ pools → w.pools.last ≡ 0 → w.fresh ≡ 0 → length w.watchers ≡ 0
      → map (λ m. m.setting) w.monitors.items ≡ map (λ s. setting o s.address) pools → All (λ m. MonitorStands m []) w.monitors.items
      → w.pools.known.spans ≡ [] → ((p : ℕ) → lives_at pools p ≡ true → has p w.monitors.kept ≡ true) → IsDriverOf w (entry_after seat [] (opening_step o) ∷ [])
  opening-log w e1 e2 e3 e4 e5 e6 e7 e8 settings new none kept_are =
      let first : Entry = record { seat = seat; step = opening_step o; reply = Done; facts = facts } in
      let ordered : in_order t.servers ≡ true = subst (λ (u : TopologyDescription). in_order u.servers ≡ true) (sym z.known) (begun-ordered o) in
      let stands : StandsFor w (history_of (first ∷ [])) = core-stands o kept pools t facts z w e1 e2 e3 e4 e5 e6 e7 (nil_from_length w.watchers e8) settings new ordered none kept_are in
      let seeds : OpensSeeds o (history_of (first ∷ [])) = opens-seeds o kept pools t facts z in
      let order : IsOrderly (pool_options o) (history_of (first ∷ [])) = orderly (pool_options o) pools (history_of (first ∷ [])) (stands-opened o kept pools t facts z) in
      let back : o ≡ w.options = sym e1 in
      let same : first ≡ entry_after seat [] (opening_step o) = opening-entry in
      record {
        fits = subst (λ q. broken_rule q ≡ None) back kept;
        seat = seat;
        entries = [];
        logged = subst (λ q. entry_after seat [] (opening_step o) ∷ [] ≡ entry_after seat [] (opening_step q) ∷ []) back refl;
        began = subst (λ q. Stood q (entry_after seat [] (opening_step q) ∷ [])) back (record { driver = w; own = e1; stands = subst (λ e. StandsFor w (history_of (e ∷ []))) same stands });
        driven = tt;
        opens = subst (λ q. OpensSeeds q (history_of (entry_after seat [] (opening_step q) ∷ []))) back (subst (λ e. OpensSeeds o (history_of (e ∷ []))) same seeds);
        later = All-nil (λ (d : Entry). is_opening d.step.act ≡ false);
        orderly = subst (λ q. IsOrderly (pool_options q) (history_of (entry_after seat [] (opening_step q) ∷ []))) back (subst (λ e. IsOrderly (pool_options o) (history_of (e ∷ []))) same order);
        legal = tt;
        fresh = tt;
        stands = subst (λ e. StandsFor w (history_of (e ∷ []))) same stands;
      }

-- what the log gets is the entry of the step
pub begins-log : (o : Options) (kept : broken_rule o ≡ None) (pools : List PoolCore) (t : TopologyDescription) (facts : List Fact) (z : IsOpened o 0 pools t facts) (seat : ℕ) (before after : List Entry)
    → before ≡ [] → after ≡ before ++ record { seat = seat; step = opening_step o; reply = Done; facts = facts } ∷ [] → after ≡ entry_after seat [] (opening_step o) ∷ []
begins-log o kept pools t facts z seat before after none e =
    e ∙ (ap (λ es. es ++ record { seat = seat; step = opening_step o; reply = Done; facts = facts } ∷ []) none ∙ ap (λ d. d ∷ []) (opening-entry o kept pools t facts z seat))
