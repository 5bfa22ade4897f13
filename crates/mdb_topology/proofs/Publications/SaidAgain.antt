-- A description that says again what is known of its server changes nothing and tells nothing.
use Rattle.std.proofs.Common.{ℕ, ◌≡◌, ◌≤◌, Bool, false, nat_lt, if◌then◌else◌, [], length, Option, Some, None, is_some, refl, sym, ◌∙◌, ap, subst, arith}
use Rattle.std.specs.Prelude.{unwrap_or, All}
use Rattle.std.proofs.lemmas.Bool.Decides.{nat_tests}
use Rattle.std.proofs.lemmas.List.Elements.{All-nil}
use Rattle.mdb_base.specs.AddressOrder.{in_order as are_in_order}
use Rattle.mdb_describe.specs.declared.description.ServerDescription.{ServerDescription}
use Rattle.mdb_describe.specs.declared.diff.Diff.{Diff}
use Rattle.mdb_describe.specs.declared.topology.TopologyDescription.{TopologyDescription}
use Rattle.mdb_describe.specs.Differences.{difference}
use Rattle.mdb_describe.specs.Repeated.{IsRepeated}
use Rattle.mdb_describe.specs.Servers.{in_order}
use Rattle.mdb_describe.specs.Update.{stored, updated}
use Rattle.mdb_describe.proofs.Stored.{store-addresses, store-length}
use Rattle.mdb_log.specs.declared.reply.Reply.TheVariants.{Changed}
use Rattle.mdb_log.specs.declared.reply.What.TheVariants.{Servers, Pool}
use Rattle.mdb_monitor.specs.Standing.{StandsFor as MonitorStands}
use Rattle.mdb_topology.specs.declared.monitors.monitoring.Monitoring.TheVariants.{Same}
use Rattle.mdb_topology.specs.declared.topology.TopologyCore.{TopologyCore}
use Rattle.mdb_topology.specs.declared.transition.Transition.{Transition}
use Rattle.mdb_topology.specs.Changing.{IsChanged, passes_limit}
use Rattle.mdb_topology.specs.Standing.{StandsForSome}
use Rattle.mdb_topology.specs.Stepping.{with_place}
use Rattle.mdb_topology.proofs.Publications.OfDifference.{nothing-told}

pub repeats-change : (w : TopologyCore) → StandsForSome w → (m : ℕ) (s : ServerDescription) → IsRepeated w.description s → (n : Transition) → n.reply ≡ Changed false → n.facts.items ≡ [] → n.changes.items ≡ [] → n.description ≡ None → n.monitors.items ≡ []
    → n.monitoring ≡ Same → n.stops ≡ false → IsChanged w m (updated w.description s) (with_place (Some s) w n)
repeats-change w stands m s again n reply facts changes description monitors monitoring stops =
    let t : TopologyDescription = w.description in
    let u : TopologyDescription = updated t s in
    let d = stands.1.described in
    let none : difference t.servers u.servers ≡ None = ap (λ (v : TopologyDescription). difference t.servers v.servers) again.alone ∙ again.alike in
    let many : length u.servers ≡ length t.servers = ap (λ (v : TopologyDescription). length v.servers) again.alone ∙ store-length s t.servers in
    let few : nat_lt 128 (length u.servers) ≡ false = (let most : length t.servers ≤ 128 = d.few in grind (arith, nat_tests)) in
    record {
      past = ap (λ (b : Bool). if b then Some Servers else if passes_limit w (difference t.servers u.servers) then Some Pool else None) few ∙ ap (λ (x : Option Diff). if passes_limit w x then Some Pool else None) none;
      ordered = ap (λ (v : TopologyDescription). in_order v.servers) again.alone ∙ (ap are_in_order (store-addresses s t.servers) ∙ d.ordered);
      reply = reply ∙ sym (ap (λ (x : Option Diff). Changed (is_some x)) none);
      known = ap (λ (x : Option TopologyDescription). Some (stored (unwrap_or x t) s)) description ∙ ap (λ (v : TopologyDescription). Some v) (sym again.alone);
      goes_on = stops;
      nothing = monitoring;
      told = rw (changes, facts, none) (nothing-told w stands m u none stands.1.numbers);
      settings = rw (monitors, changes) refl;
      new = subst (All (λ y. MonitorStands y [])) (sym monitors) (All-nil (λ y. MonitorStands y []));
    }
