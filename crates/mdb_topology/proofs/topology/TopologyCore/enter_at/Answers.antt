use Rattle.std.proofs.Common.{◌≡◌, ◌||◌, List, None, refl, sym, ◌∙◌, ap, subst}
use Rattle.std.specs.Prelude.{slice_get}
use Rattle.mdb_intervals.specs.Spans.{has as is_within}
use Rattle.mdb_log.specs.Requests.{names_party}
use Rattle.mdb_pool.specs.Core.{PoolCore}
use Rattle.mdb_pool.specs.Refusing.{refusal_now}
use Rattle.mdb_driver_pools.specs.declared.pools.Pools.{Pools}
use Rattle.mdb_driver_pools.specs.Asking.{DoesAt}
use Rattle.mdb_driver_rules.proofs.General.OnePosition.{some-same}
use Rattle.mdb_driver_pools.proofs.InMemory.LivingPools.{lives-of}
use Rattle.mdb_driver_pools.proofs.OnePool.OneAnswer.{takes-act}
use Rattle.mdb_topology.proofs.topology.TopologyCore.enter_at.Goals as goal

pub enter_step-requires-clause-lives : goal.enter_step-requires-clause-lives
enter_step-requires-clause-lives c = let r = c.requires.ready in lives-of c.args.self.now.pools.cores.items c.args.place r.0 r.1 r.3

pub enter_step-requires-clause-act : goal.enter_step-requires-clause-act
enter_step-requires-clause-act c = λ s at. takes-act s.pool c.args.step.now.act c.requires.act

pub enter_step-requires-clause-passes : goal.enter_step-requires-clause-passes
enter_step-requires-clause-passes c = λ s at.
    let r = c.requires.ready in
    subst (λ (u : PoolCore). refusal_now u c.args.step.now ≡ None) (some-same r.0 s (slice_get c.args.self.now.pools.cores.items c.args.place) r.1 at) r.2

pub returns-clause-enters : goal.returns-clause-enters
returns-clause-enters c = λ s at.
    let w = c.args.self.now in
    let step = c.args.step.now in
    let other = c.note.ensures.others in
    record {
      does = subst (λ (xs : List PoolCore). DoesAt s w.pools.cores.items c.args.place xs c.args.log.now c.enter_step.new.log c.args.seat step c.in_ok-reply.reply) (sym (ap (λ (p : Pools). p.cores.items) other)) (c.in_ok-reply.ensures.does s at);
      options = refl;
      description = refl;
      last = ap (λ (p : Pools). p.last) other;
      monitors = c.let_go_at.ensures.items;
      published = refl;
      stopped = refl;
      fresh = refl;
      watchers = refl;
      known = λ q. c.note.ensures.known q ∙ ap (λ ks. names_party step.act q || is_within q ks) c.reserve.ensures.spans;
      kept = λ p lives. c.let_go_at.ensures.kept p lives;
    }
