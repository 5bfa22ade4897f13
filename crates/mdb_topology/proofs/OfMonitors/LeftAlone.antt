-- A step that does nothing at the monitors and asks for no check leaves what is kept of them as it is.
use Rattle.std.proofs.Common.{ℕ, zero, suc, ◌≡◌, ◌+◌, ◌||◌, Bool, List, [], ◌∷◌, ◌++◌, map, Option, Some, None, is_some, refl, sym, ◌∙◌, ap, subst, arith}
use Rattle.std.specs.Prelude.{slice_get, unwrap_or, All}
use Rattle.std.proofs.lemmas.List.{map-append}
use Rattle.std.proofs.lemmas.List.Elements.{All-head, All-tail}
use Rattle.mdb_base.specs.declared.options.Options.{Options}
use Rattle.mdb_describe.specs.declared.topology.TopologyDescription.{TopologyDescription}
use Rattle.mdb_events.specs.declared.fact.Fact.{Fact}
use Rattle.mdb_monitor.specs.declared.monitor.MonitorCore.{MonitorCore}
use Rattle.mdb_monitor.specs.Standing.{StandsFor as MonitorStands}
use Rattle.mdb_log.specs.declared.step.Step.{Step}
use Rattle.mdb_log.specs.declared.step.Act.{Act}
use Rattle.mdb_log.specs.declared.reply.Reply.{Reply}
use Rattle.mdb_log.specs.History.{Item, did, with_facts}
use Rattle.mdb_log.specs.Connections.{one_if}
use Rattle.mdb_log.specs.Homes.{Home, homes}
use Rattle.mdb_log.proofs.Frame.{last-facts}
use Rattle.mdb_driver_rules.specs.Monitors.{setting, connects, asking, monitor_items}
use Rattle.mdb_driver_rules.specs.Description.{Rule, rule_after, applied, is_stop, description_of, known_after}
use Rattle.mdb_topology.specs.Standing.{MonitorsFit, Counts}
use Rattle.mdb_driver_rules.proofs.LeavesAsItIs.{description-facts, published-facts, stopped-facts, monitor-facts, fresh-facts, watchers-facts}
use Rattle.mdb_driver_rules.proofs.Still.{IsStill, still-check, still-connects, still-asking}

module _ {T : Type 0} where
  pub in-all : (Q : T → Type 0) (ys : List T) (p : ℕ) (x : T) → slice_get ys p ≡ Some x → All Q ys → Q x
  in-all Q [] p x at all = cc
  in-all Q (y ∷ ys) zero x at all = let v : y ≡ x = cc in subst Q v (All-head Q y ys all)
  in-all Q (y ∷ ys) (suc p) x at all = in-all Q ys p x at (All-tail Q y ys all)

  -- a place of two lists is one of the first or one of the second
  either-part : (Q : T → Type 0) (C : Type 0) (xs ys : List T) (p : ℕ) (x : T) → slice_get (xs ++ ys) p ≡ Some x → All Q ys
      → (slice_get xs p ≡ Some x → C) → (slice_get xs p ≡ None → Q x → C) → C
  either-part Q C [] ys p x at all old new = new refl (in-all Q ys p x at all)
  either-part Q C (z ∷ xs) ys zero x at all old new = old at
  either-part Q C (z ∷ xs) ys (suc p) x at all old new = either-part Q C xs ys p x at all old new

  front-none : (xs ys : List T) (p : ℕ) → slice_get (xs ++ ys) p ≡ None → slice_get xs p ≡ None
  front-none [] ys p e = refl
  front-none (x ∷ xs) ys zero e = cc
  front-none (x ∷ xs) ys (suc p) e = front-none xs ys p e

applied-known : (rule : Option Rule) (t : TopologyDescription) → unwrap_or (known_after rule t) t ≡ applied rule t
applied-known None t = refl
applied-known (Some rule) t = refl

-- what is known after a step and its facts
pub known-then : (o : Options) (h : List Item) (m : ℕ) (act : Act) (reply : Reply) (F : List Fact) (t : TopologyDescription) → description_of o h ≡ t
    → description_of o (with_facts m F (did (record { moment = m; act = act }) reply ∷ h)) ≡ unwrap_or (known_after (rule_after o h (record { moment = m; act = act })) t) t
known-then o h m act reply F t e =
    let step : Step = record { moment = m; act = act } in
    description-facts o m F (did step reply ∷ h) ∙ (ap (applied (rule_after o h step)) e ∙ sym (applied-known (rule_after o h step) t))

-- what a step counts
pub counts-then : (o : Options) (h : List Item) (m : ℕ) (act : Act) (reply : Reply) (F : List Fact) (last pubs numbers : ℕ) (stopped : Bool) (watchers : List ℕ) → Counts o last pubs numbers stopped watchers h
    → Counts o m (pubs + one_if (is_some (rule_after o h (record { moment = m; act = act })))) (numbers + one_if (connects h act)) (is_stop act || stopped) (asking act watchers) (with_facts m F (did (record { moment = m; act = act }) reply ∷ h))
counts-then o h m act reply F last pubs numbers stopped watchers c =
    let step : Step = record { moment = m; act = act } in
    record {
      last_is = last-facts m F (did step reply ∷ h);
      publications_are = published-facts o m F (did step reply ∷ h) ∙ ap (λ n. n + one_if (is_some (rule_after o h step))) c.publications_are;
      numbers_are = fresh-facts o m F (did step reply ∷ h) ∙ ap (λ n. n + one_if (connects h act)) c.numbers_are;
      stopped_is = stopped-facts o m F (did step reply ∷ h) ∙ ap (λ b. is_stop act || b) c.stopped_is;
      watchers_are = watchers-facts o m F (did step reply ∷ h) ∙ ap (asking act) c.watchers_are;
    }

-- the monitors after a step, with those of the pools that were opened, which know nothing
pub monitors-then : (o : Options) (h k : List Item) (ms ns : List MonitorCore) (more : List Home) → map (λ n. n.setting) ms ≡ map (λ x. setting o x.address) (homes h)
    → ((p : ℕ) (n : MonitorCore) → slice_get ms p ≡ Some n → MonitorStands n (monitor_items k p)) → ((p : ℕ) → slice_get ms p ≡ None → monitor_items k p ≡ [])
    → homes k ≡ homes h ++ more → map (λ n. n.setting) ns ≡ map (λ x. setting o x.address) more → All (λ n. MonitorStands n []) ns → MonitorsFit o (ms ++ ns) k
monitors-then o h k ms ns more own each rest homes_are settings new = record {
  settings =
      map-append (λ n. n.setting) ms ns
      ∙ (rw (own, settings) (sym (map-append (λ x. setting o x.address) (homes h) more))
      ∙ ap (map (λ x. setting o x.address)) (sym homes_are));
  each = λ p n at. either-part (λ n. MonitorStands n []) (MonitorStands n (monitor_items k p)) ms ns p n at new (each p n) (λ past stands. subst (MonitorStands n) (sym (rest p past)) stands);
  rest = λ p e. rest p (front-none ms ns p e);
}

module _ (o : Options) (h : List Item) (m : ℕ) (act : Act) (still : IsStill act) (reply : Reply) (F : List Fact) where
  abbrev step : Step
  step = record { moment = m; act = act }

  abbrev k : List Item
  k = with_facts m F (did step reply ∷ h)

  pub items-still : (p : ℕ) → monitor_items k p ≡ monitor_items h p
  items-still p = monitor-facts o m p F (did step reply ∷ h) ∙ still-check act still _ _ (monitor_items h p)

  pub counts-still : (last pubs numbers : ℕ) (stopped : Bool) (watchers : List ℕ) → Counts o last pubs numbers stopped watchers h
      → Counts o m (pubs + one_if (is_some (rule_after o h step))) numbers (is_stop act || stopped) watchers k
  counts-still last pubs numbers stopped watchers c =
      let no : numbers + one_if (connects h act) ≡ numbers = ap (λ b. numbers + one_if b) (still-connects act still h) ∙ (let e : numbers + 0 ≡ numbers = omega arith in e) in
      subst (λ n. Counts o m (pubs + one_if (is_some (rule_after o h step))) n (is_stop act || stopped) watchers k) no
      (subst (λ ws. Counts o m (pubs + one_if (is_some (rule_after o h step))) (numbers + one_if (connects h act)) (is_stop act || stopped) ws k) (still-asking act still watchers)
      (counts-then o h m act reply F last pubs numbers stopped watchers c))

  -- the monitors of the pools that were opened know nothing
  pub monitors-still : (ms ns : List MonitorCore) (more : List Home) → MonitorsFit o ms h → homes k ≡ homes h ++ more → map (λ n. n.setting) ns ≡ map (λ x. setting o x.address) more
      → All (λ n. MonitorStands n []) ns → MonitorsFit o (ms ++ ns) k
  monitors-still ms ns more z homes_are settings new =
      monitors-then o h k ms ns more z.settings (λ p n at. subst (MonitorStands n) (sym (items-still p)) (z.each p n at)) (λ p e. items-still p ∙ z.rest p e) homes_are settings new
