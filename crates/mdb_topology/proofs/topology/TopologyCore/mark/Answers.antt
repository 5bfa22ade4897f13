use Rattle.std.proofs.Common.{◌≡◌, ◌&&◌, true, false, Some, None, is_some, refl, sym, ◌∙◌, ap, subst}
use Rattle.std.specs.Prelude.{slice_get}
use Rattle.mdb_base.specs.declared.address.ServerAddress.{ServerAddress}
use Rattle.mdb_describe.specs.Descriptions.{failed}
use Rattle.mdb_describe.specs.Differences.{difference}
use Rattle.mdb_describe.specs.Update.{updated}
use Rattle.mdb_pool.specs.Core.{PoolCore}
use Rattle.mdb_pool.specs.Now.{exhausted_now}
use Rattle.mdb_pool_rules.specs.Refusal.{wrong_service}
use Rattle.mdb_driver_rules.specs.Errors.{Trouble}
use Rattle.mdb_topology.specs.Marking.{IsMarked, IsOfPool, MarkPasses}
use Rattle.mdb_driver_pools.specs.Standing.{at_address}
use Rattle.mdb_topology.proofs.Marks.ComesTo.{mark-passes}
use Rattle.mdb_driver_rules.proofs.General.OnePosition.{some-same}
use Rattle.mdb_topology.proofs.Marks.AtItsLimit.{after-any, clear-accepted, not-both}
use Rattle.mdb_topology.proofs.topology.TopologyCore.mark.Goals as goal

pub returns-then-overspends-clause-marks : goal.returns-then-overspends-clause-marks
returns-then-overspends-clause-marks c s x there of =
    let w = c.args.self.now in
    let t = w.description in
    let e = c.args.error.now in
    let p = c.at.result.now in
    let pools = w.pools.cores.items in
    let at_p : slice_get pools c.args.index ≡ Some p = c.at.ensures in
    let at : c.address.result.now ≡ s.address = c.address.ensures ∙ ap (λ (u : PoolCore). u.address) (some-same p s (slice_get pools c.args.index) at_p there) in
    let spent : (is_some (difference t.servers (updated t (failed s.address e)).servers) && c.args.clears) && exhausted_now s None ≡ true =
    subst (λ a. (is_some (difference t.servers (updated t (failed a e)).servers) && c.args.clears) && exhausted_now s None ≡ true) at (sym (c.overspends.ensures s there) ∙ c.if-overspends.true) in
    (refl, mark-passes w c.requires.stands c.args.step.now.moment c.requires.in_time s.address e x c.args.index (c.requires.here s there) _ refl c.args.clears c.args.asked of s there true spent)

pub returns-in_err-address-clause-spares : goal.returns-in_err-address-clause-spares
returns-in_err-address-clause-spares c = after-any _
    ((s : PoolCore) (x : Trouble) → slice_get c.args.self.now.pools.cores.items c.args.index ≡ Some s → IsOfPool c.args.self.now.options x c.args.index s.address c.args.error.now c.args.clears c.args.asked
    → MarkPasses c.args.self.now c.args.step.now.moment (updated c.args.self.now.description (failed s.address c.args.error.now)) x None)
    (λ s x there of.
    let w = c.args.self.now in
    let t = w.description in
    let e = c.args.error.now in
    let p = c.at.result.now in
    let pools = w.pools.cores.items in
    let at_p : slice_get pools c.args.index ≡ Some p = c.at.ensures in
    let at : c.address.result.now ≡ s.address = c.address.ensures ∙ ap (λ (u : PoolCore). u.address) (some-same p s (slice_get pools c.args.index) at_p there) in
    let spare : (is_some (difference t.servers (updated t (failed s.address e)).servers) && c.args.clears) && exhausted_now s None ≡ false =
    subst (λ a. (is_some (difference t.servers (updated t (failed a e)).servers) && c.args.clears) && exhausted_now s None ≡ false) at (sym (c.overspends.ensures s there) ∙ c.if-overspends.false) in
    mark-passes w c.requires.stands c.args.step.now.moment c.requires.in_time s.address e x c.args.index (c.requires.here s there) _ refl c.args.clears c.args.asked of s there false spare)

pub returns-in_err-next-clause-spares : goal.returns-in_err-next-clause-spares
returns-in_err-next-clause-spares c = after-any _
    ((s : PoolCore) (x : Trouble) → slice_get c.args.self.now.pools.cores.items c.args.index ≡ Some s → IsOfPool c.args.self.now.options x c.args.index s.address c.args.error.now c.args.clears c.args.asked
    → MarkPasses c.args.self.now c.args.step.now.moment (updated c.args.self.now.description (failed s.address c.args.error.now)) x None)
    (λ s x there of.
    let w = c.args.self.now in
    let t = w.description in
    let e = c.args.error.now in
    let p = c.at.result.now in
    let pools = w.pools.cores.items in
    let at_p : slice_get pools c.args.index ≡ Some p = c.at.ensures in
    let at : c.address.result.now ≡ s.address = c.address.ensures ∙ ap (λ (u : PoolCore). u.address) (some-same p s (slice_get pools c.args.index) at_p there) in
    let spare : (is_some (difference t.servers (updated t (failed s.address e)).servers) && c.args.clears) && exhausted_now s None ≡ false =
    subst (λ a. (is_some (difference t.servers (updated t (failed a e)).servers) && c.args.clears) && exhausted_now s None ≡ false) at (sym (c.overspends.ensures s there) ∙ c.if-overspends.false) in
    mark-passes w c.requires.stands c.args.step.now.moment c.requires.in_time s.address e x c.args.index (c.requires.here s there) _ refl c.args.clears c.args.asked of s there false spare)

pub mark_at-requires-clause-here : goal.mark_at-requires-clause-here
mark_at-requires-clause-here c =
    let pools = c.args.self.now.pools.cores.items in
    let p = c.at-2.result.now in
    let at_p : slice_get pools c.args.index ≡ Some p = c.at-2.ensures in
    subst (λ a. at_address pools a ≡ Some c.args.index) (sym (c.in_ok-address.ensures.cases ∙ c.address-2.ensures)) (c.requires.here p at_p)

pub mark_at-requires-clause-accepted : goal.mark_at-requires-clause-accepted
mark_at-requires-clause-accepted c cleared s there =
    let w = c.args.self.now in
    let t = w.description in
    let e = c.args.error.now in
    let p = c.at.result.now in
    let q = c.at-2.result.now in
    let pools = w.pools.cores.items in
    let at_p : slice_get pools c.args.index ≡ Some p = c.at.ensures in
    let at_q : slice_get pools c.args.index ≡ Some q = c.at-2.ensures in
    let at : c.address.result.now ≡ c.in_ok-address.address = c.address.ensures ∙ (ap (λ (u : PoolCore). u.address) (some-same p q (slice_get pools c.args.index) at_p at_q) ∙ sym (c.in_ok-address.ensures.cases ∙ c.address-2.ensures)) in
    let spare : (is_some (difference t.servers (updated t (failed c.in_ok-address.address e)).servers) && c.args.clears) && exhausted_now s None ≡ false =
    subst (λ a. (is_some (difference t.servers (updated t (failed a e)).servers) && c.args.clears) && exhausted_now s None ≡ false) at (sym (c.overspends.ensures s there) ∙ c.if-overspends.false) in
    clear-accepted w c.requires.stands c.args.index s there c.args.step.now.moment c.requires.in_time None e (ap (λ b. wrong_service b None) c.requires.normal) (not-both _ _ spare cleared)

pub returns-clause-marks : goal.returns-clause-marks
returns-clause-marks c s x there of =
    let w = c.args.self.now in
    let e = c.args.error.now in
    let pools = w.pools.cores.items in
    let q = c.at-2.result.now in
    let at_q : slice_get pools c.args.index ≡ Some q = c.at-2.ensures in
    let at : c.in_ok-address.address ≡ s.address = c.in_ok-address.ensures.cases ∙ (c.address-2.ensures ∙ ap (λ (u : PoolCore). u.address) (some-same q s (slice_get pools c.args.index) at_q there)) in
    let all = subst (λ (a : ServerAddress). (y : Trouble) → IsOfPool w.options y c.args.index a e c.args.clears c.args.asked → IsMarked w c.args.step.now.moment (updated w.description (failed a e)) y c.in_ok-next.next) at c.in_ok-next.ensures.marked in
    all x of
