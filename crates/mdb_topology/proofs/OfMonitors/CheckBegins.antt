-- A check that begins.
use Rattle.std.proofs.Common.{ℕ, ◌≡◌, ◌≤◌, ◌+◌, Bool, true, false, not, if◌then◌else◌, List, [], ◌∷◌, ◌++◌, length, Option, Some, None, is_some, nat_lt, refl, sym, ◌∙◌, ap, subst, arith, append-nil}
use Rattle.std.specs.Prelude.{slice_get}
use Rattle.std.proofs.lemmas.Bool.Decides.{nat_tests}
use Rattle.mdb_base.specs.declared.address.ServerAddress.{ServerAddress}
use Rattle.mdb_base.specs.declared.options.Options.{Options}
use Rattle.mdb_events.specs.declared.fact.Fact.TheVariants.{Sdam}
use Rattle.mdb_monitor.specs.declared.monitor.MonitorCore.{MonitorCore}
use Rattle.mdb_monitor.specs.declared.knowledge.Connection.{Connection}
use Rattle.mdb_monitor.specs.declared.check.Begin.{Begin}
use Rattle.mdb_monitor.specs.Items.{MonitorItem, since, connection_of}
use Rattle.mdb_monitor.specs.Beginnings.{begin_row, connection_for}
use Rattle.mdb_monitor.specs.Standing.{StandsFor as MonitorStands}
use Rattle.mdb_log.specs.declared.step.Step.{Step}
use Rattle.mdb_log.specs.declared.step.Act.TheVariants.{Beat}
use Rattle.mdb_log.specs.declared.reply.Reply.TheVariants.{Done}
use Rattle.mdb_log.specs.declared.reply.Refused.TheVariants.{UnknownServer, CheckRunning, WrongMode, Exhausted}
use Rattle.mdb_log.specs.declared.reply.What.TheVariants.{Monitor}
use Rattle.mdb_log.specs.Connections.{one_if}
use Rattle.mdb_log.specs.History.{Item, is_number, with_facts}
use Rattle.mdb_log.specs.Homes.{homes}
use Rattle.mdb_topology.specs.declared.topology.TopologyCore.{TopologyCore}
use Rattle.mdb_topology.specs.declared.transition.Transition.{Transition}
use Rattle.mdb_topology.specs.declared.monitors.monitoring.Monitoring.TheVariants.{Checked}
use Rattle.mdb_driver_rules.specs.Homes.{is_here, begun}
use Rattle.mdb_driver_rules.specs.Monitors.{setting, recent, runs, heartbeat, fresh_for, is_connected, monitor_items}
use Rattle.mdb_driver_rules.specs.Description.{rule_after, applied, description_of}
use Rattle.mdb_driver_rules.specs.Publishing.{told_by}
use Rattle.mdb_driver_rules.specs.Refusal.{first_refusal, first_past, refusal, may_want, may_yield, ran_out}
use Rattle.mdb_driver_rules.specs.Answer.{pool_reply}
use Rattle.mdb_driver_rules.specs.Turns.{in_turn}
use Rattle.mdb_topology.specs.Checking.{Begins, number_limit}
use Rattle.mdb_topology.specs.Standing.{StandsFor}
use Rattle.mdb_topology.specs.Stepping.{Follows}
use Rattle.mdb_driver_pools.specs.Standing.{is_here_among}
use Rattle.mdb_topology.proofs.OfMonitors.StepAtMonitor.{checked-watches, monitor-kept, monitor-setting}
use Rattle.mdb_driver_rules.proofs.WhatItAdds.{beat-items, beat-others}
use Rattle.mdb_driver_rules.proofs.HasConnection.{connected-is}
use Rattle.mdb_topology.proofs.WholeSteps.RefusedOfNoPool.{outside-refusal}
use Rattle.mdb_driver_rules.proofs.SameHistories.{IsPlain}
use Rattle.mdb_topology.proofs.WholeSteps.CheckThenRule.{refused-told}
use Rattle.mdb_topology.proofs.Publications.WhichSteps.{in-time, passes-time, unruled, find-never}
use Rattle.mdb_topology.proofs.OfMonitors.ChangesNoPool.{silent-calm, follows-watch}

lt-zero : (n : ℕ) → nat_lt n 0 ≡ false
lt-zero n = grind (arith, nat_tests)

module _ (w : TopologyCore) (h : List Item) (z : StandsFor w h) where
  module _ (p : ℕ) (x : MonitorCore) (at_p : slice_get w.monitors.items p ≡ Some x) (b : Bool) (says : (xs : List MonitorItem) → MonitorStands x xs → b ≡ is_some (connection_of (since xs))) where
    connected-at : b ≡ is_connected h p
    connected-at = says (monitor_items h p) (z.monitors.each p x at_p) ∙ connected-is h p

    -- the number of the connection that a check makes
    pub number-at : (if b then 0 else w.fresh) ≡ fresh_for h p
    number-at = ap (λ c. if c then 0 else w.fresh) connected-at ∙ ap (λ n. if is_connected h p then 0 else n) (sym z.counts.numbers_are)

    -- how many checks connected, with it
    pub drawn-at : (numbers : ℕ) → numbers ≡ w.fresh + one_if (not b) → numbers ≡ w.fresh + one_if (not (is_connected h p))
    drawn-at numbers e = e ∙ ap (λ c. w.fresh + one_if (not c)) connected-at

module _ (w : TopologyCore) (h : List Item) (z : StandsFor w h) (m : ℕ) (l : w.pools.last ≤ m) (a : ServerAddress) (p : ℕ) where
  abbrev o : Options
  o = w.options

  abbrev step : Step
  step = record { moment = m; act = Beat a p }

  here-is : is_here h a p ≡ is_here_among w.pools.cores.items a p
  here-is = ap (λ x. is_number x p) (z.pools.fit.open_are a)

  pub beat-unknown : is_here_among w.pools.cores.items a p ≡ false → refusal o h step ≡ Some UnknownServer
  beat-unknown e = let gone : is_here h a p ≡ false = here-is ∙ e in rw (in-time w h z m l, gone) refl

  module _ (there : is_here_among w.pools.cores.items a p ≡ true) where
    here : is_here h a p ≡ true
    here = here-is ∙ there

    pub beat-running : runs h p ≡ true → refusal o h step ≡ Some CheckRunning
    beat-running e = rw (in-time w h z m l, here, e) refl

    module _ (idle : runs h p ≡ false) where
      pub beat-mode : o.load_balanced ≡ true → refusal o h step ≡ Some WrongMode
      beat-mode e = rw (in-time w h z m l, here, idle, e) refl

      module _ (mode : o.load_balanced ≡ false) where
        passes : first_refusal o h step ≡ None
        passes = passes-time w h z m l (Beat a p) (rw (here, idle, mode) refl)

        ruled : rule_after o h step ≡ None
        ruled = unruled w h z m l (Beat a p) refl

        -- the number of its connection
        abbrev number : ℕ
        number = (begin_row (setting o a) (recent h p) (fresh_for h p)).driver_connection_id

        past-number : (b : Bool) → nat_lt (number_limit o) number ≡ b → first_past o m (begun h step) (heartbeat o h (Beat a p)) ≡ (if b then Some Monitor else None)
        past-number true e = rw e refl
        past-number false e = rw e refl

        refused-past : nat_lt (number_limit o) number ≡ true → refusal o h step ≡ Some (Exhausted Monitor)
        refused-past e =
            refused-told o h m (Beat a p) Monitor passes
            (subst (λ t. length t.servers ≤ 128) (sym (ap (λ r. applied r (description_of o h)) ruled ∙ z.described.known)) z.described.few)
            (ap (λ r. first_past o m (begun h step) (in_turn m ((λ k. heartbeat o h (Beat a p)) ∷ told_by o m r (description_of o h)) (begun h step))) ruled
            ∙ (ap (first_past o m (begun h step)) (append-nil (heartbeat o h (Beat a p))) ∙ past-number true e))

        -- a check that connects has the fresh number
        fresh-number : (c : Option Connection) → connection_of (recent h p) ≡ c → nat_lt (number_limit o) (fresh_for h p) ≡ true → number ≡ fresh_for h p
        fresh-number None e past = ap (λ c. (connection_for c (fresh_for h p)).driver_id) e
        fresh-number (Some c) e past =
            let known : is_connected h p ≡ true = sym (connected-is h p) ∙ ap is_some e in
            let none : nat_lt (number_limit o) (fresh_for h p) ≡ false = (let zero : fresh_for h p ≡ 0 = rw known refl in ap (nat_lt (number_limit o)) zero ∙ lt-zero (number_limit o)) in
            let no : true ≡ false = sym past ∙ none in
            cc

        -- a check whose fresh number is within the limit is refused for none but a number that was drawn before
        pub beat-wants : nat_lt (number_limit o) (fresh_for h p) ≡ false → may_want o h step ≡ true
        beat-wants fresh = on (connection_of (recent h p)) refl
          where
            by_number : (b : Bool) → nat_lt (number_limit o) number ≡ b → refusal o h step ≡ ran_out (if b then Some Monitor else None)
            by_number b e =
                outside-refusal o h m (Beat a p) tt (if b then Some Monitor else None) passes
                (subst (λ t. length t.servers ≤ 128) (sym (ap (λ r. applied r (description_of o h)) ruled ∙ z.described.known)) z.described.few)
                (ap (λ fs. first_past o m (begun h step) (heartbeat o h (Beat a p) ++ fs)) (silent-calm o h step refl ruled (with_facts m (heartbeat o h (Beat a p)) (begun h step)))
                ∙ (ap (first_past o m (begun h step)) (append-nil (heartbeat o h (Beat a p))) ∙ past-number b e))

            yields : (b : Bool) → is_connected h p ≡ true → may_yield (is_connected h p) false (ran_out (if b then Some Monitor else None)) ≡ true
            yields true c = rw c refl
            yields false c = refl

            on : (c : Option Connection) → connection_of (recent h p) ≡ c → may_want o h step ≡ true
            on None e =
                let mine : number ≡ fresh_for h p = ap (λ c. (connection_for c (fresh_for h p)).driver_id) e in
                ap (may_yield (is_connected h p) false) (by_number false (ap (nat_lt (number_limit o)) mine ∙ fresh))
            on (Some c) e =
                let known : is_connected h p ≡ true = sym (connected-is h p) ∙ ap is_some e in
                let b : Bool = nat_lt (number_limit o) number in
                ap (may_yield (is_connected h p) false) (by_number b refl) ∙ yields b known

        pub beat-fresh : nat_lt (number_limit o) (fresh_for h p) ≡ true → refusal o h step ≡ Some (Exhausted Monitor)
        beat-fresh past = refused-past (ap (nat_lt (number_limit o)) (fresh-number (connection_of (recent h p)) refl past) ∙ past)

        module _ (x y : MonitorCore) (b : Begin) (at_p : slice_get w.monitors.items p ≡ Some x) (begins : Begins x y (fresh_for h p) b) where
          begin-is : b ≡ begin_row (setting o a) (recent h p) (fresh_for h p)
          begin-is = begins.begin (monitor_items h p) (z.monitors.each p x at_p) ∙ ap (λ s. begin_row s (recent h p) (fresh_for h p)) (monitor-setting w h z a p here x at_p)

          pub beat-past : nat_lt (number_limit o) b.driver_connection_id ≡ true → refusal o h step ≡ Some (Exhausted Monitor)
          beat-past e = refused-past (ap (λ c. nat_lt (number_limit o) c.driver_connection_id) (sym begin-is) ∙ e)

          pub follows-beat : nat_lt (number_limit o) b.driver_connection_id ≡ false → (n : Transition) → n.changes.items ≡ [] → n.monitors.items ≡ [] → n.description ≡ None → n.stops ≡ false
              → n.facts.items ≡ Sdam b.event ∷ [] → n.reply ≡ Done → (numbers : ℕ) → n.monitoring ≡ Checked p y numbers → numbers ≡ w.fresh + one_if (not (is_connected h p)) → Follows w n step h
          follows-beat e n changes none known goes_on facts reply numbers monitoring drawn =
              let within : nat_lt (number_limit o) number ≡ false = ap (λ c. nat_lt (number_limit o) c.driver_connection_id) (sym begin-is) ∙ e in
              follows-watch w h z step l n (subst IsPlain (sym reply) tt) changes none known goes_on (facts ∙ ap (λ c. Sdam c.event ∷ []) begin-is) tt (silent-calm o h step refl ruled) passes ruled
              (λ fs. ap (pool_reply h (with_facts m fs (begun h step)) (Beat a p)) (find-never (homes h)) ∙ sym reply) (past-number false within)
              (checked-watches w h z step n p numbers x y at_p begins.setting (monitor-kept w h z a p here) monitoring drawn refl
              (subst (MonitorStands y) (sym (beat-items h a p m Done here)) (begins.stands (monitor_items h p) (z.monitors.each p x at_p))) (λ q ne. beat-others h a p m Done here q ne))
