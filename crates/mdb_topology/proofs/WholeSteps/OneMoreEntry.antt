-- The log of a driver, and one more step of it.
use Rattle.std.proofs.Common.{ℕ, ◌≡◌, ◌≤◌, ◌<◌, ◌+◌, ◌^◌, ◌&&◌, ◌||◌, Bool, true, false, nat_lt, List, [], ◌∷◌, ◌++◌, length, Some, None, is_some, refl, sym, ◌∙◌, ap, subst, arith, inl, inr, append_assoc}
use Rattle.std.specs.Prelude.{nat_le, unwrap_or, All}
use Rattle.std.proofs.lemmas.Bool.Decides.{nat_tests}
use Rattle.std.proofs.lemmas.List.{append-nil, length-map}
use Rattle.std.proofs.lemmas.List.Elements.{All-push}
use Rattle.mdb_base.specs.OptionRules.{broken_rule}
use Rattle.mdb_base.specs.declared.options.Options.{Options}
use Rattle.mdb_log.specs.declared.options.PoolOptions.{PoolOptions}
use Rattle.mdb_log.specs.declared.log.Entry.{Entry}
use Rattle.mdb_log.specs.declared.step.Step.{Step}
use Rattle.mdb_intervals.specs.Spans.{has as is_within}
use Rattle.mdb_log.specs.declared.reply.Reply.{Reply}
use Rattle.mdb_log.specs.declared.reply.Reply.TheVariants.{Refused as RefusedBy}
use Rattle.mdb_log.specs.declared.reply.Refused.{Refused}
use Rattle.mdb_log.specs.declared.step.Act.{Act}
use Rattle.mdb_log.specs.declared.step.Act.TheVariants as Do
use Rattle.mdb_log.specs.Acts.{IsDriverAct}
use Rattle.mdb_events.specs.declared.fact.Fact.{Fact}
use Rattle.mdb_log.specs.Connections.{has, one_if}
use Rattle.mdb_log.specs.Homes.{homes}
use Rattle.mdb_log.specs.Own.{IsAccepted}
use Rattle.mdb_log.specs.Requests.{names_party, some_act}
use Rattle.mdb_log.specs.History.{Item, did, with_answer, with_entries, history_of}
use Rattle.mdb_log.specs.Opening.{is_opening, pool_options}
use Rattle.mdb_log.specs.LegalLog.{IsFairAnswer, IsOrderly, IsLegal, OpensSeeds}
use Rattle.mdb_log.specs.Beside.{AllFreshGrants, EntriesGrantFresh}
use Rattle.mdb_log.proofs.Frame.{acts-facts}
use Rattle.mdb_log.proofs.Later.{with_answer-accepted, with_entries-append}
use Rattle.mdb_pool.specs.Core.{PoolCore}
use Rattle.mdb_pool.specs.Now.{last_now}
use Rattle.mdb_topology.specs.declared.topology.TopologyCore.{TopologyCore}
use Rattle.mdb_topology.specs.declared.transition.Transition.{Transition}
use Rattle.mdb_driver_rules.specs.Answer.{answer, answered}
use Rattle.mdb_driver_rules.specs.Refusal.{refusal}
use Rattle.mdb_driver_rules.specs.Facts.{step_facts}
use Rattle.mdb_driver_rules.specs.Lines.{answer_after, entry_after}
use Rattle.mdb_topology.specs.Checking.{monitors_after, numbers_after, watchers_after}
use Rattle.mdb_monitor.specs.declared.monitor.MonitorCore.{MonitorCore}
use Rattle.mdb_driver_pools.proofs.Orderly.{orderly}
use Rattle.mdb_driver_pools.specs.Living.{lives_at}
use Rattle.mdb_driver_rules.specs.Monitors.{setting}
use Rattle.mdb_driver_pools.specs.Planned.{LeadsAll}
use Rattle.mdb_topology.specs.Standing.{MonitorsFit, StandsFor, IsSame}
use Rattle.mdb_driver_pools.specs.Standing.{home, PoolsFit, PoolsStand}
use Rattle.mdb_driver_pools.proofs.InMemory.LivingPools.{lives-within}
use Rattle.mdb_driver_pools.proofs.InMemory.StillLives.{Lived, still-lives}
use Rattle.mdb_topology.specs.Stepping.{Follows, Logs}
use Rattle.mdb_topology.specs.Logging.{opening_step, Stood, IsDriven, AreDriven, IsDriverOf}

-- the same state stands for the same
pub same-stands : (w v : TopologyCore) (h : List Item) → IsSame w v → StandsFor w h → StandsFor v h
same-stands w v h e z = record {
  pools = rw (e.options, e.cores) z.pools;
  monitors = rw (e.options, e.monitors) z.monitors;
  described = rw (e.options, e.description) z.described;
  counts = rw (e.options, e.last, e.published, e.fresh, e.stopped, e.watchers) z.counts;
  known = λ r. rw e.known (z.known r);
  watched = λ p. rw (e.cores, e.kept) (z.watched p);
  numbers = rw e.cores z.numbers;
  early = rw (e.cores, e.last) z.early;
}

-- a refused step changes nothing
pub refused-logs : (w v : TopologyCore) (log after : List Entry) (seat : ℕ) (step : Step) (h : List Item) (why : Refused) → StandsFor w h → IsSame w v → refusal w.options h step ≡ Some why
    → after ≡ log ++ record { seat = seat; step = step; reply = RefusedBy why; facts = [] } ∷ [] → Logs w v log after seat step h
refused-logs w v log after seat step h why z e refused entered =
    let told : answer w.options h step ≡ record { reply = RefusedBy why; facts = [] } = ap (λ x. answered w.options h step x (step_facts w.options h step)) refused in
    record {
      entry = entered ∙ ap (λ a. log ++ record { seat = seat; step = step; reply = a.reply; facts = a.facts } ∷ []) (sym told);
      stands = subst (λ a. StandsFor v (with_answer step a.reply a.facts h)) (sym told) (same-stands w v h e z);
      fair = subst (λ a. IsFairAnswer h step a.reply a.facts) (sym told) refl;
      fresh = subst (λ a. AllFreshGrants (pool_options w.options) step.moment (did step a.reply ∷ h) a.facts) (sym told) tt;
    }

-- what an accepted step makes of the driver
pub record IsTaken (w v : TopologyCore) (n : Transition) (step : Step) : Type 0 where
  pub options : v.options ≡ w.options
  pub led : (later : List PoolCore) → LeadsAll n.changes.items w.pools.cores.items later → later ≡ v.pools.cores.items
  pub last : v.pools.last ≡ step.moment
  pub monitors : v.monitors.items ≡ monitors_after n.monitoring w.monitors.items ++ n.monitors.items
  pub description : v.description ≡ unwrap_or n.description w.description
  pub published : v.published ≡ w.published + one_if (is_some n.description)
  pub stopped : v.stopped ≡ n.stops || w.stopped
  pub fresh : v.fresh ≡ numbers_after n.monitoring w.fresh
  pub watchers : v.watchers ≡ watchers_after n.monitoring w.watchers
  pub known : (r : ℕ) → is_within r v.pools.known.spans ≡ names_party step.act r || is_within r w.pools.known.spans
  pub kept : (p : ℕ) → lives_at v.pools.cores.items p ≡ true → has p w.monitors.kept || (nat_le (length w.monitors.items) p && nat_lt p (length v.monitors.items)) ≡ true → has p v.monitors.kept ≡ true

-- there is a monitor for each pool
pub as-many : (o : Options) (pools : List PoolCore) (monitors : List MonitorCore) (h : List Item) → PoolsFit (pool_options o) pools h → MonitorsFit o monitors h → length monitors ≡ length pools
as-many o pools monitors h z f = sym (length-map monitors (λ m. m.setting)) ∙ (ap length f.settings ∙ (length-map (homes h) (λ x. setting o x.address) ∙ (ap length z.homes_are ∙ length-map pools home)))

-- the parties that are named once the step is accepted
pub named-more : (reply : Reply) (step : Step) (facts : List Fact) (h : List Item) → IsAccepted reply → (r : ℕ) → some_act names_party (with_answer step reply facts h) r ≡ names_party step.act r || some_act names_party h r
named-more reply step facts h accepted r = ap (λ (k : List Item). some_act names_party k r) (with_answer-accepted step reply facts h accepted) ∙ acts-facts names_party step.moment r facts (did step reply ∷ h)

-- the monitor of a pool in which something lives then is kept
still-watched : (w v : TopologyCore) (step : Step) (h : List Item) (n : Transition) → StandsFor w h → IsTaken w v n step → (p : ℕ) → lives_at v.pools.cores.items p ≡ true → Lived w.pools.cores.items p
    → length v.monitors.items ≡ length v.pools.cores.items → has p v.monitors.kept ≡ true
still-watched w v step h n z e p lives (inl lived) many = e.kept p lives (ap (λ b. b || (nat_le (length w.monitors.items) p && nat_lt p (length v.monitors.items))) (z.watched p lived))
still-watched w v step h n z e p lives (inr new) many =
    let before : length w.monitors.items ≡ length w.pools.cores.items = as-many w.options w.pools.cores.items w.monitors.items h z.pools.fit z.monitors in
    let within : p < length v.pools.cores.items = lives-within v.pools.cores.items p lives in
    let from : nat_le (length w.monitors.items) p ≡ true = grind (arith, nat_tests) in
    let to : nat_lt p (length v.monitors.items) ≡ true = grind (arith, nat_tests) in
    let came : nat_le (length w.monitors.items) p && nat_lt p (length v.monitors.items) ≡ true = rw (from, to) refl in
    e.kept p lives (ap (λ b. has p w.monitors.kept || b) came ∙ or-true (has p w.monitors.kept))
  where
    or-true : (b : Bool) → (b || true) ≡ true
    or-true true = refl
    or-true false = refl

pub taken-logs : (w v : TopologyCore) (log after : List Entry) (seat : ℕ) (step : Step) (h : List Item) (n : Transition) → StandsFor w h → IsTaken w v n step → Follows w n step h
    → after ≡ log ++ record { seat = seat; step = step; reply = n.reply; facts = n.facts.items } ∷ [] → Logs w v log after seat step h
taken-logs w v log after seat step h n z e f entered =
    let later : List PoolCore = f.leads.0 in
    let cores : later ≡ v.pools.cores.items = e.led later f.leads.1 in
    let k : List Item = with_answer step n.reply n.facts.items h in
    let pools_stand : PoolsStand (pool_options v.options) v.pools.cores.items k = rw e.options (subst (λ xs. PoolsStand (pool_options w.options) xs k) cores (f.pools later f.leads.1)) in
    let monitors_fit : MonitorsFit v.options v.monitors.items k = rw (e.options, e.monitors) f.monitors in
    let stands : StandsFor v k = record {
      pools = pools_stand;
      monitors = monitors_fit;
      described = rw (e.options, e.description) f.described;
      counts = rw (e.options, e.last, e.published, e.fresh, e.stopped, e.watchers) f.counts;
      known = λ r. e.known r ∙ (ap (λ b. names_party step.act r || b) (z.known r) ∙ sym (named-more n.reply step n.facts.items h f.accepted r));
      watched = λ p lives.
          still-watched w v step h n z e p lives (still-lives n.changes.items w.pools.cores.items later p f.leads.1 (subst (λ (xs : List PoolCore). lives_at xs p ≡ true) (sym cores) lives))
          (as-many v.options v.pools.cores.items v.monitors.items k pools_stand.fit monitors_fit);
      numbers = subst (λ xs. length xs ≤ 2 ^ 32) cores (f.numbers later f.leads.1);
      early = rw e.last (subst (All (λ s. last_now s ≤ step.moment)) cores (f.early later f.leads.1));
    } in
    record {
      entry = entered ∙ ap (λ a. log ++ record { seat = seat; step = step; reply = a.reply; facts = a.facts } ∷ []) (sym f.answer_is);
      stands = subst (λ a. StandsFor v (with_answer step a.reply a.facts h)) (sym f.answer_is) stands;
      fair = subst (λ a. IsFairAnswer h step a.reply a.facts) (sym f.answer_is) f.fair;
      fresh = subst (λ a. AllFreshGrants (pool_options w.options) step.moment (did step a.reply ∷ h) a.facts) (sym f.answer_is) f.fresh;
    }

-- one more legal entry
legal-append : (o : PoolOptions) (es : List Entry) (e : Entry) (h : List Item) → IsLegal o h es → IsFairAnswer (with_entries es h) e.step e.reply e.facts
    → IsOrderly o (with_answer e.step e.reply e.facts (with_entries es h)) → IsLegal o h (es ++ e ∷ [])
legal-append o [] e h l fair order = (fair, order, tt)
legal-append o (d ∷ es) e h l fair order = (l.0, l.1, legal-append o es e (with_answer d.step d.reply d.facts h) l.2 fair order)

-- one more entry that grants only what is fresh
fresh-append : (o : PoolOptions) (es : List Entry) (e : Entry) (h : List Item) → EntriesGrantFresh o h es → AllFreshGrants o e.step.moment (did e.step e.reply ∷ with_entries es h) e.facts → EntriesGrantFresh o h (es ++ e ∷ [])
fresh-append o [] e h l fresh = (fresh, tt)
fresh-append o (d ∷ es) e h l fresh = (l.0, fresh-append o es e (with_answer d.step d.reply d.facts h) l.1 fresh)

-- one more entry that a driver made
driven-append : (o : Options) (log es : List Entry) (e : Entry) → AreDriven o log es → IsDriven o (log ++ es) e → AreDriven o log (es ++ e ∷ [])
driven-append o log [] e are is = (subst (λ l. IsDriven o l e) (append-nil log) is, tt)
driven-append o log (d ∷ es) e are is = (are.0, driven-append o (log ++ d ∷ []) es e are.1 (subst (λ l. IsDriven o l e) (sym (append_assoc log (d ∷ []) es)) is))

-- an act of a driver's callers opens nothing
pub opens-nothing : (act : Act) → IsDriverAct act → is_opening act ≡ false
opens-nothing (Do.Open q) d = absurd d
opens-nothing _ d = refl

-- the entry of one more step
pub adds : (w v : TopologyCore) (log after : List Entry) (seat : ℕ) (step : Step) → IsDriverOf w log → v.options ≡ w.options → Logs w v log after seat step (history_of log) → IsDriverAct step.act
    → (after ≡ log ++ entry_after seat log step ∷ []) × IsDriverOf v after
adds w v log after seat step z same l d =
    let o : PoolOptions = pool_options w.options in
    let h : List Item = history_of log in
    let first : Entry = entry_after z.seat [] (opening_step w.options) in
    let h0 : List Item = history_of (first ∷ []) in
    let back : w.options ≡ v.options = sym same in
    let e : Entry = record { seat = seat; step = step; reply = (answer w.options h step).reply; facts = (answer w.options h step).facts } in
    let known : h ≡ with_entries z.entries h0 = ap history_of z.logged in
    let told : answer_after log step ≡ answer w.options h step = subst (λ es. answer_after es step ≡ answer w.options (history_of es) step) (sym z.logged) refl in
    let mine : entry_after seat log step ≡ e = ap (λ a. record { seat = seat; step = step; reply = a.reply; facts = a.facts }) told in
    let added : after ≡ first ∷ (z.entries ++ e ∷ []) = l.entry ∙ ap (λ es. es ++ e ∷ []) z.logged in
    let now : with_answer e.step e.reply e.facts h ≡ history_of after = ap (with_answer e.step e.reply e.facts) known ∙ (sym (with_entries-append z.entries e h0) ∙ ap history_of (sym added)) in
    let is : IsDriven w.options (first ∷ z.entries) e = record {
      answers = sym (subst (λ es. entry_after seat es step ≡ e) z.logged mine);
      taken = d;
      stood = record { driver = v; own = same; stands = subst (StandsFor v) (now ∙ ap history_of added) l.stands };
    } in
    let order : IsOrderly o (with_answer e.step e.reply e.facts h) = subst (λ q. IsOrderly (pool_options q) (with_answer e.step e.reply e.facts h)) same (orderly (pool_options v.options) v.pools.cores.items (with_answer e.step e.reply e.facts h) l.stands.pools) in (
      l.entry ∙ ap (λ d. log ++ d ∷ []) (sym mine),
      record {
        fits = subst (λ q. broken_rule q ≡ None) back z.fits;
        seat = z.seat;
        entries = z.entries ++ e ∷ [];
        logged = subst (λ q. after ≡ entry_after z.seat [] (opening_step q) ∷ (z.entries ++ e ∷ [])) back added;
        began = subst (λ q. Stood q (entry_after z.seat [] (opening_step q) ∷ [])) back z.began;
        driven = subst (λ q. AreDriven q (entry_after z.seat [] (opening_step q) ∷ []) (z.entries ++ e ∷ [])) back (driven-append w.options (first ∷ []) z.entries e z.driven is);
        opens = subst (λ q. OpensSeeds q (history_of (entry_after z.seat [] (opening_step q) ∷ []))) back z.opens;
        later = All-push (λ (d : Entry). is_opening d.step.act ≡ false) z.entries e z.later (opens-nothing step.act d);
        orderly = subst (λ q. IsOrderly (pool_options q) (history_of (entry_after z.seat [] (opening_step q) ∷ []))) back z.orderly;
        legal = subst (λ q. IsLegal (pool_options q) (history_of (entry_after z.seat [] (opening_step q) ∷ [])) (z.entries ++ e ∷ [])) back
            (legal-append o z.entries e h0 z.legal (subst (λ k. IsFairAnswer k e.step e.reply e.facts) known l.fair) (subst (λ k. IsOrderly o (with_answer e.step e.reply e.facts k)) known order));
        fresh = subst (λ q. EntriesGrantFresh (pool_options q) (history_of (entry_after z.seat [] (opening_step q) ∷ [])) (z.entries ++ e ∷ [])) back
            (fresh-append o z.entries e h0 z.fresh (subst (λ k. AllFreshGrants o step.moment (did step e.reply ∷ k) e.facts) known l.fresh));
        stands = subst (StandsFor v) now l.stands;
      },
    )
