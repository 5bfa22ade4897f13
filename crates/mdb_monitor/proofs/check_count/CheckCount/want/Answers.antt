use Rattle.std.proofs.Common.{◌∙◌, ap}
use Rattle.mdb_monitor.specs.Asking.{stands, each_once}
use Rattle.mdb_monitor.proofs.Once.{once_pushed}
use Rattle.mdb_monitor.proofs.check_count.CheckCount.want.Goals as goal

pub invariant_of-self : goal.invariant_of-self
invariant_of-self c = ap each_once c.in_ok-push.ensures.items ∙ once_pushed c.args.watcher _ c.self.invariant (ap (stands c.args.watcher) c.self.view_is ∙ (cc))
