use Rattle.std.proofs.Common.{rules, ◌==◌, not, ◌∙◌, ap}
use Rattle.std.proofs.lemmas.Fn.{filter_same}
use Rattle.mdb_monitor.specs.Asking.{unwanted, each_once}
use Rattle.mdb_monitor.proofs.Once.{once_left}
use Rattle.mdb_monitor.proofs.check_count.CheckCount.unwant.Goals as goal

pub invariant_of-self : goal.invariant_of-self
invariant_of-self c = ap each_once (filter_same _ (λ v. not (v == c.args.watcher)) _ (λ x b f' k. search rules) _ _ c.retain.ensures.filtered) ∙ once_left (λ v. not (v == c.args.watcher)) c.self.inside.watchers.items c.self.invariant

pub returns-clause-unwanted : goal.returns-clause-unwanted
returns-clause-unwanted c = filter_same _ (λ v. not (v == c.args.watcher)) _ (λ x b f' k. search rules) _ _ c.retain.ensures.filtered ∙ ap (unwanted c.args.watcher) c.self.view_is
