use Rattle.std.proofs.Common.{List, ◌≡◌, ◌&&◌, true, false, Some, None, is_some, sym, ◌∙◌, ap, subst}
use Rattle.std.specs.Prelude.{slice_get}
use Rattle.mdb_describe.specs.Descriptions.{failed}
use Rattle.mdb_describe.specs.Differences.{difference}
use Rattle.mdb_describe.specs.Update.{updated}
use Rattle.mdb_pool.specs.Core.{PoolCore}
use Rattle.mdb_pool.specs.Now.{exhausted_now}
use Rattle.mdb_pool_rules.specs.Refusal.{wrong_service}
use Rattle.mdb_topology.specs.Failing.{asked_after, FailureTold, TellsFailure}
use Rattle.mdb_topology.specs.Standing.{StandsFor}
use Rattle.mdb_driver_pools.specs.Standing.{at_address}
use Rattle.mdb_topology.proofs.Failure.Answer.{marked-refusal, marked-follows}
use Rattle.mdb_driver_rules.proofs.General.OnePosition.{some-same}
use Rattle.mdb_topology.proofs.Marks.AtItsLimit.{after-any, clear-accepted, not-both}
use Rattle.mdb_topology.proofs.WholeSteps.ComesBeforeMemory.{none-wants}
use Rattle.mdb_log.specs.History.{Item}
use Rattle.mdb_driver_rules.specs.Description.{updates}
use Rattle.mdb_topology.specs.Stepping.{MayWant}
use Rattle.mdb_topology.proofs.topology.TopologyCore.fail_marked.Goals as goal

pub returns-then-overspends-clause-becomes : goal.returns-then-overspends-clause-becomes
returns-then-overspends-clause-becomes c h s z there f =
    let w = c.args.self.now in
    let t = w.description in
    let pools = w.pools.cores.items in
    let step = c.args.step.now in
    let e = c.args.error.now in
    let i = c.args.index in
    let p = c.at.result.now in
    let at_p : slice_get pools i ≡ Some p = c.at.ensures in
    let at : c.address.result.now ≡ s.address = c.address.ensures ∙ ap (λ (u : PoolCore). u.address) (some-same p s (slice_get pools i) at_p there) in
    let spent : (is_some (difference t.servers (updated t (failed s.address e)).servers) && c.args.clears) && exhausted_now s None ≡ true =
    subst (λ a. (is_some (difference t.servers (updated t (failed a e)).servers) && c.args.clears) && exhausted_now s None ≡ true) at (sym (c.overspends.ensures s there) ∙ c.if-overspends.true) in
    marked-refusal w h z step c.requires.in_time i s there e (c.requires.here s there) _ (asked_after e) f true spent

pub returns-in_err-address-clause-wants : goal.returns-in_err-address-clause-wants
returns-in_err-address-clause-wants c = after-any _
    ((h : List Item) (s : PoolCore) → StandsFor c.args.self.now h → slice_get c.args.self.now.pools.cores.items c.args.index ≡ Some s
    → TellsFailure c.args.self.now.options h c.args.step.now s (Some (updates (failed s.address c.args.error.now))) (is_some (difference c.args.self.now.description.servers (updated c.args.self.now.description (failed s.address c.args.error.now)).servers) && c.args.clears) None c.args.error.now (asked_after c.args.error.now)
    → MayWant c.args.self.now c.args.step.now h)
    (λ h s z there f.
    let w = c.args.self.now in
    let t = w.description in
    let pools = w.pools.cores.items in
    let step = c.args.step.now in
    let e = c.args.error.now in
    let i = c.args.index in
    let p = c.at.result.now in
    let at_p : slice_get pools i ≡ Some p = c.at.ensures in
    let at : c.address.result.now ≡ s.address = c.address.ensures ∙ ap (λ (u : PoolCore). u.address) (some-same p s (slice_get pools i) at_p there) in
    let spent : (is_some (difference t.servers (updated t (failed s.address e)).servers) && c.args.clears) && exhausted_now s None ≡ false =
    subst (λ a. (is_some (difference t.servers (updated t (failed a e)).servers) && c.args.clears) && exhausted_now s None ≡ false) at (sym (c.overspends.ensures s there) ∙ c.if-overspends.false) in
    none-wants w.options h step (marked-refusal w h z step c.requires.in_time i s there e (c.requires.here s there) _ (asked_after e) f false spent))

pub returns-in_err-later-clause-wants : goal.returns-in_err-later-clause-wants
returns-in_err-later-clause-wants c = after-any _
    ((h : List Item) (s : PoolCore) → StandsFor c.args.self.now h → slice_get c.args.self.now.pools.cores.items c.args.index ≡ Some s
    → TellsFailure c.args.self.now.options h c.args.step.now s (Some (updates (failed s.address c.args.error.now))) (is_some (difference c.args.self.now.description.servers (updated c.args.self.now.description (failed s.address c.args.error.now)).servers) && c.args.clears) None c.args.error.now (asked_after c.args.error.now)
    → MayWant c.args.self.now c.args.step.now h)
    (λ h s z there f.
    let w = c.args.self.now in
    let t = w.description in
    let pools = w.pools.cores.items in
    let step = c.args.step.now in
    let e = c.args.error.now in
    let i = c.args.index in
    let p = c.at.result.now in
    let at_p : slice_get pools i ≡ Some p = c.at.ensures in
    let at : c.address.result.now ≡ s.address = c.address.ensures ∙ ap (λ (u : PoolCore). u.address) (some-same p s (slice_get pools i) at_p there) in
    let spent : (is_some (difference t.servers (updated t (failed s.address e)).servers) && c.args.clears) && exhausted_now s None ≡ false =
    subst (λ a. (is_some (difference t.servers (updated t (failed a e)).servers) && c.args.clears) && exhausted_now s None ≡ false) at (sym (c.overspends.ensures s there) ∙ c.if-overspends.false) in
    none-wants w.options h step (marked-refusal w h z step c.requires.in_time i s there e (c.requires.here s there) _ (asked_after e) f false spent))

pub returns-clause-wants : goal.returns-clause-wants
returns-clause-wants c = λ h s z there f.
    let w = c.args.self.now in
    let t = w.description in
    let pools = w.pools.cores.items in
    let step = c.args.step.now in
    let e = c.args.error.now in
    let i = c.args.index in
    let p = c.at.result.now in
    let at_p : slice_get pools i ≡ Some p = c.at.ensures in
    let at : c.address.result.now ≡ s.address = c.address.ensures ∙ ap (λ (u : PoolCore). u.address) (some-same p s (slice_get pools i) at_p there) in
    let spent : (is_some (difference t.servers (updated t (failed s.address e)).servers) && c.args.clears) && exhausted_now s None ≡ false =
    subst (λ a. (is_some (difference t.servers (updated t (failed a e)).servers) && c.args.clears) && exhausted_now s None ≡ false) at (sym (c.overspends.ensures s there) ∙ c.if-overspends.false) in
    none-wants w.options h step (marked-refusal w h z step c.requires.in_time i s there e (c.requires.here s there) _ (asked_after e) f false spent)

pub tell_failure-told-requires-clause-here : goal.tell_failure-told-requires-clause-here
tell_failure-told-requires-clause-here c =
    let pools = c.args.self.now.pools.cores.items in
    let q = c.at-2.result.now in
    let at_q : slice_get pools c.args.index ≡ Some q = c.at-2.ensures in
    subst (λ a. at_address pools a ≡ Some c.args.index) (sym (c.in_ok-address.ensures.cases ∙ c.address-2.ensures)) (c.requires.here q at_q)

pub tell_failure-told-requires-clause-accepted : goal.tell_failure-told-requires-clause-accepted
tell_failure-told-requires-clause-accepted c cleared s there =
    let w = c.args.self.now in
    let t = w.description in
    let pools = w.pools.cores.items in
    let step = c.args.step.now in
    let e = c.args.error.now in
    let i = c.args.index in
    let p = c.at.result.now in
    let at_p : slice_get pools i ≡ Some p = c.at.ensures in
    let at : c.address.result.now ≡ s.address = c.address.ensures ∙ ap (λ (u : PoolCore). u.address) (some-same p s (slice_get pools i) at_p there) in
    let q = c.at-2.result.now in
    let at_q : slice_get pools i ≡ Some q = c.at-2.ensures in
    let own : c.in_ok-address.address ≡ s.address = c.in_ok-address.ensures.cases ∙ (c.address-2.ensures ∙ ap (λ (u : PoolCore). u.address) (some-same q s (slice_get pools i) at_q there)) in
    let spent : (is_some (difference t.servers (updated t (failed s.address e)).servers) && c.args.clears) && exhausted_now s None ≡ false =
    subst (λ a. (is_some (difference t.servers (updated t (failed a e)).servers) && c.args.clears) && exhausted_now s None ≡ false) at (sym (c.overspends.ensures s there) ∙ c.if-overspends.false) in
    let wanted : is_some (difference t.servers (updated t (failed s.address e)).servers) && c.args.clears ≡ true =
    subst (λ a. is_some (difference t.servers (updated t (failed a e)).servers) && c.args.clears ≡ true) own (sym (ap (λ v. is_some (difference t.servers v.servers) && c.args.clears) c.in_ok-later.ensures) ∙ cleared) in
    clear-accepted w c.requires.stands i s there step.moment c.requires.in_time None e (ap (λ b. wrong_service b None) c.requires.normal) (not-both _ _ spent wanted)

pub returns-in-Ok-clause-becomes : goal.returns-in-Ok-clause-becomes
returns-in-Ok-clause-becomes c h s z there f =
    let w = c.args.self.now in
    let pools = w.pools.cores.items in
    let step = c.args.step.now in
    let e = c.args.error.now in
    let i = c.args.index in
    let q = c.at-2.result.now in
    let at_q : slice_get pools i ≡ Some q = c.at-2.ensures in
    let at : c.in_ok-address.address ≡ s.address = c.in_ok-address.ensures.cases ∙ (c.address-2.ensures ∙ ap (λ (u : PoolCore). u.address) (some-same q s (slice_get pools i) at_q there)) in
    let later : c.in_ok-later.later ≡ updated w.description (failed s.address e) = c.in_ok-later.ensures ∙ ap (λ a. updated w.description (failed a e)) at in
    let told = subst (λ v. FailureTold w step i v e c.args.clears (asked_after e) c.in-Ok.changes.items c.in-Ok.facts.items) later
    (subst (λ a. FailureTold w step i c.in_ok-later.later e c.args.clears a c.in-Ok.changes.items c.in-Ok.facts.items) c.asked_after-asked.ensures c.in-Ok.ensures.told) in
    marked-follows w h z step c.requires.in_time i s there e (c.requires.here s there) _ (asked_after e) f told.0 _ told.1 told.2
    c.of_reply.ensures.reply (ap Some later) c.of_reply.ensures.monitors c.of_reply.ensures.monitoring c.of_reply.ensures.stops
