use Rattle.std.proofs.Common.{◌≡◌, ◌&&◌, Some, None, is_some, sym, ◌∙◌, ap, subst}
use Rattle.std.specs.Prelude.{slice_get}
use Rattle.std.proofs.lemmas.Result.{IfOk-weaker, on_err_weaker}
use Rattle.std.proofs.lemmas.Bool.{not-true, not-false}
use Rattle.mdb_pool.specs.Core.{PoolCore}
use Rattle.mdb_log.proofs.Bools.{both-true}
use Rattle.mdb_driver_pools.specs.declared.trouble.Asked.TheVariants.{Nothing}
use Rattle.mdb_describe.specs.Descriptions.{failed}
use Rattle.mdb_describe.specs.Differences.{difference}
use Rattle.mdb_describe.specs.Update.{updated}
use Rattle.mdb_driver_rules.specs.Description.{updates}
use Rattle.mdb_driver_pools.specs.Standing.{at_address}
use Rattle.mdb_topology.specs.Failing.{clears_after, service_after, asked_after, TellsFailure}
use Rattle.mdb_topology.proofs.Failure.Answer.{live-at, at-nothing, at-service, at-mark, at-place}
use Rattle.mdb_driver_rules.proofs.General.OnePosition.{some-same}
use Rattle.mdb_topology.proofs.topology.TopologyCore.fail_at.Goals as goal

pub returns-then-leaves_failure-clause-becomes : goal.returns-then-leaves_failure-clause-becomes
returns-then-leaves_failure-clause-becomes c =
    let w = c.args.self.now in
    let pools = w.pools.cores.items in
    let i = c.args.index in
    let step = c.args.step.now in
    let e = c.args.error.now in
    let s = c.at.result.now in
    let there : slice_get pools i ≡ Some s = c.at.ensures in
    let d = c.requires.failing s there in
    let live = live-at w c.requires.stands i s there step e d c.args.id c.args.at c.requires.act in
    let left = not-true _ (sym (c.leaves_failure.ensures live) ∙ c.if-leaves_failure.true) in
    IfOk-weaker c.fail_unmarked.result _ _ (λ stepped g h z. g h s z there (at-nothing w h z step c.requires.in_time i s there e c.args.id c.args.at c.requires.act live d left)) c.fail_unmarked.ensures.becomes

pub returns-then-self-clause-becomes : goal.returns-then-self-clause-becomes
returns-then-self-clause-becomes c =
    let w = c.args.self.now in
    let pools = w.pools.cores.items in
    let i = c.args.index in
    let step = c.args.step.now in
    let e = c.args.error.now in
    let s = c.at.result.now in
    let there : slice_get pools i ≡ Some s = c.at.ensures in
    let d = c.requires.failing s there in
    let live = live-at w c.requires.stands i s there step e d c.args.id c.args.at c.requires.act in
    let both = both-true _ _ (not-false _ (sym (c.leaves_failure.ensures live) ∙ c.if-leaves_failure.false)) in
    let p = c.at-then-self.result.now in
    let at_p : slice_get pools i ≡ Some p = c.at-then-self.ensures in
    let service : c.service_after-service.result ≡ service_after s c.args.id c.args.at e =
    c.service_after-service.ensures ∙ ap (λ (u : PoolCore). service_after u c.args.id c.args.at e) (sym (some-same s p (slice_get pools i) there at_p)) in
    IfOk-weaker c.fail_unmarked-then-self.result _ _ (λ stepped g h z. g h s z there
    (subst (λ y. TellsFailure w.options h step s None (is_some y) y e Nothing) (sym service)
    (at-service w h z step c.requires.in_time i s there e c.args.id c.args.at c.requires.act live d both.0 c.if-self.true both.1))) c.fail_unmarked-then-self.ensures.becomes

pub fail_marked-requires-clause-here : goal.fail_marked-requires-clause-here
fail_marked-requires-clause-here c = λ s there.
    let w = c.args.self.now in
    let pools = w.pools.cores.items in
    let i = c.args.index in
    let step = c.args.step.now in
    let e = c.args.error.now in
    let p = c.at.result.now in
    let at_p : slice_get pools i ≡ Some p = c.at.ensures in
    let d = c.requires.failing p at_p in
    let live = live-at w c.requires.stands i p at_p step e d c.args.id c.args.at c.requires.act in
    let both = both-true _ _ (not-false _ (sym (c.leaves_failure.ensures live) ∙ c.if-leaves_failure.false)) in
    subst (λ (u : PoolCore). at_address pools u.address ≡ Some i) (some-same p s (slice_get pools i) at_p there)
    (at-place w c.requires.stands.0 c.requires.stands.1 step c.requires.in_time i p at_p e c.args.id c.args.at c.requires.act live d both.0)

pub returns-clause-becomes : goal.returns-clause-becomes
returns-clause-becomes c =
    let w = c.args.self.now in
    let pools = w.pools.cores.items in
    let i = c.args.index in
    let step = c.args.step.now in
    let e = c.args.error.now in
    let s = c.at.result.now in
    let there : slice_get pools i ≡ Some s = c.at.ensures in
    let d = c.requires.failing s there in
    let live = live-at w c.requires.stands i s there step e d c.args.id c.args.at c.requires.act in
    let both = both-true _ _ (not-false _ (sym (c.leaves_failure.ensures live) ∙ c.if-leaves_failure.false)) in
    let p = c.at-2.result.now in
    let at_p : slice_get pools i ≡ Some p = c.at-2.ensures in
    let clears : c.clears_after-clears.result ≡ clears_after s c.args.id e =
    c.clears_after-clears.ensures ∙ ap (λ (u : PoolCore). clears_after u c.args.id e) (sym (some-same s p (slice_get pools i) there at_p)) in
    IfOk-weaker c.fail_marked.result _ _ (λ stepped g h z. g h s z there
    (subst (λ b. TellsFailure w.options h step s (Some (updates (failed s.address e))) (is_some (difference w.description.servers (updated w.description (failed s.address e)).servers) && b) None e (asked_after e)) (sym clears)
    (at-mark w h z step c.requires.in_time i s there e c.args.id c.args.at c.requires.act live d both.0 c.if-self.false both.1))) c.fail_marked.ensures.becomes

pub returns-then-leaves_failure-clause-wants : goal.returns-then-leaves_failure-clause-wants
returns-then-leaves_failure-clause-wants c =
    let w = c.args.self.now in
    let pools = w.pools.cores.items in
    let i = c.args.index in
    let step = c.args.step.now in
    let e = c.args.error.now in
    let s = c.at.result.now in
    let there : slice_get pools i ≡ Some s = c.at.ensures in
    let d = c.requires.failing s there in
    let live = live-at w c.requires.stands i s there step e d c.args.id c.args.at c.requires.act in
    let left = not-true _ (sym (c.leaves_failure.ensures live) ∙ c.if-leaves_failure.true) in
    on_err_weaker c.fail_unmarked.result (λ g h z. g h s z there (at-nothing w h z step c.requires.in_time i s there e c.args.id c.args.at c.requires.act live d left)) c.fail_unmarked.ensures.wants

pub returns-then-self-clause-wants : goal.returns-then-self-clause-wants
returns-then-self-clause-wants c =
    let w = c.args.self.now in
    let pools = w.pools.cores.items in
    let i = c.args.index in
    let step = c.args.step.now in
    let e = c.args.error.now in
    let s = c.at.result.now in
    let there : slice_get pools i ≡ Some s = c.at.ensures in
    let d = c.requires.failing s there in
    let live = live-at w c.requires.stands i s there step e d c.args.id c.args.at c.requires.act in
    let both = both-true _ _ (not-false _ (sym (c.leaves_failure.ensures live) ∙ c.if-leaves_failure.false)) in
    let p = c.at-then-self.result.now in
    let at_p : slice_get pools i ≡ Some p = c.at-then-self.ensures in
    let service : c.service_after-service.result ≡ service_after s c.args.id c.args.at e =
    c.service_after-service.ensures ∙ ap (λ (u : PoolCore). service_after u c.args.id c.args.at e) (sym (some-same s p (slice_get pools i) there at_p)) in
    on_err_weaker c.fail_unmarked-then-self.result (λ g h z. g h s z there
    (subst (λ y. TellsFailure w.options h step s None (is_some y) y e Nothing) (sym service)
    (at-service w h z step c.requires.in_time i s there e c.args.id c.args.at c.requires.act live d both.0 c.if-self.true both.1))) c.fail_unmarked-then-self.ensures.wants

pub returns-clause-wants : goal.returns-clause-wants
returns-clause-wants c =
    let w = c.args.self.now in
    let pools = w.pools.cores.items in
    let i = c.args.index in
    let step = c.args.step.now in
    let e = c.args.error.now in
    let s = c.at.result.now in
    let there : slice_get pools i ≡ Some s = c.at.ensures in
    let d = c.requires.failing s there in
    let live = live-at w c.requires.stands i s there step e d c.args.id c.args.at c.requires.act in
    let both = both-true _ _ (not-false _ (sym (c.leaves_failure.ensures live) ∙ c.if-leaves_failure.false)) in
    let p = c.at-2.result.now in
    let at_p : slice_get pools i ≡ Some p = c.at-2.ensures in
    let clears : c.clears_after-clears.result ≡ clears_after s c.args.id e =
    c.clears_after-clears.ensures ∙ ap (λ (u : PoolCore). clears_after u c.args.id e) (sym (some-same s p (slice_get pools i) there at_p)) in
    on_err_weaker c.fail_marked.result (λ g h z. g h s z there
    (subst (λ b. TellsFailure w.options h step s (Some (updates (failed s.address e))) (is_some (difference w.description.servers (updated w.description (failed s.address e)).servers) && b) None e (asked_after e)) (sym clears)
    (at-mark w h z step c.requires.in_time i s there e c.args.id c.args.at c.requires.act live d both.0 c.if-self.false both.1))) c.fail_marked.ensures.wants
