use Rattle.std.proofs.Common.{◌≡◌, true, Some, None, refl, sym, ◌∙◌, ap, subst}
use Rattle.std.specs.Prelude.{slice_get}
use Rattle.mdb_log.specs.Opening.{pool_options}
use Rattle.mdb_log.specs.declared.step.Act.TheVariants.{Failed, Unpin}
use Rattle.mdb_log.specs.declared.reply.Refused.TheVariants.{NotPending}
use Rattle.mdb_pool.specs.Core.{PoolCore}
use Rattle.mdb_pool.specs.Refusing.{refusal_now, tells_new}
use Rattle.mdb_driver_rules.specs.Refusal.{refusal}
use Rattle.mdb_topology.proofs.Failure.RefusedByItsPool.{failed-nowhere, failed-refused}
use Rattle.mdb_driver_pools.proofs.OnePool.FoundAt.{number-at, numbered-is, place-lives}
use Rattle.mdb_driver_rules.proofs.General.OnePosition.{some-same}
use Rattle.mdb_topology.proofs.topology.TopologyCore.connection_failed.Goals as goal

pub returns-in-Some-refusal_now-clause-becomes : goal.returns-in-Some-refusal_now-clause-becomes
returns-in-Some-refusal_now-clause-becomes c h z =
    let w = c.args.self.now in
    let m = c.args.step.now.moment in
    let pools = w.pools.cores.items in
    let i = c.in-Some.index in
    let s = c.at.result.now in
    let why = c.in-Some-refusal_now.why in
    let found = sym c.numbered.ensures ∙ c.in-Some.is in
    let there : slice_get pools i ≡ Some s = c.at.ensures in
    let number : c.args.number ≡ s.pool = numbered-is pools c.args.number i found ∙ sym (number-at (pool_options w.options) pools h z.pools.fit i s there) in
    let act : c.args.step.now.act ≡ Failed s.pool c.args.id c.args.at c.args.error.now = c.requires.act ∙ ap (λ n. Failed n c.args.id c.args.at c.args.error.now) number in
    subst (λ a. refusal w.options h (record { moment = m; act = a }) ≡ Some why) (sym act)
    (failed-refused w h z m c.requires.in_time i s there c.args.id c.args.at c.args.error.now why
    (subst (λ a. refusal_now s (record { moment = m; act = a }) ≡ Some why) act (sym c.refusal_now.ensures ∙ c.in-Some-refusal_now.is)))

pub fail_at-requires-clause-failing : goal.fail_at-requires-clause-failing
fail_at-requires-clause-failing c = λ s there.
    let w = c.args.self.now in
    let pools = w.pools.cores.items in
    let i = c.in-Some.index in
    let p = c.at.result.now in
    let found = sym c.numbered.ensures ∙ c.in-Some.is in
    let at_p : slice_get pools i ≡ Some p = c.at.ensures in
    let number : c.args.number ≡ s.pool = numbered-is pools c.args.number i found ∙ sym (number-at (pool_options w.options) pools c.requires.stands.0 c.requires.stands.1.pools.fit i s there) in
    record {
      connection = c.args.id;
      at = c.args.at;
      act_is = c.requires.act ∙ ap (λ n. Failed n c.args.id c.args.at c.args.error.now) number;
      accepted = subst (λ (u : PoolCore). refusal_now u c.args.step.now ≡ None) (some-same p s (slice_get pools i) at_p there) (sym c.refusal_now.ensures ∙ c.in_default-refusal_now.is);
    }

pub at-requires : goal.at-requires
at-requires c = place-lives c.args.self.now.pools.cores.items (Unpin c.args.number c.args.id) c.in-Some.index (sym c.numbered.ensures ∙ c.in-Some.is)

pub fail_at-requires-clause-there : goal.fail_at-requires-clause-there
fail_at-requires-clause-there c = place-lives c.args.self.now.pools.cores.items (Unpin c.args.number c.args.id) c.in-Some.index (sym c.numbered.ensures ∙ c.in-Some.is)

-- a failure names nobody for the first time
pub refusal_now-requires-clause-new : goal.refusal_now-requires-clause-new
refusal_now-requires-clause-new c = subst (λ a. tells_new c.at.result.now a ≡ true) (sym c.requires.act) refl

-- a pool in which nothing lives has no pending connection
pub returns-in_default-clause-becomes : goal.returns-in_default-clause-becomes
returns-in_default-clause-becomes c = λ h z.
    let w = c.args.self.now in
    let m = c.args.step.now.moment in
    subst (λ a. refusal w.options h (record { moment = m; act = a }) ≡ Some NotPending) (sym c.requires.act)
    (failed-nowhere w h z m c.requires.in_time c.args.number c.args.id c.args.at c.args.error.now (sym c.numbered.ensures ∙ c.in_default.is))
