use Rattle.std.proofs.Common.{ap, sym, ◌∙◌}
use Rattle.mdb_monitor.specs.Average.{next_average}
use Rattle.mdb_monitor.specs.Items.{since, samples}
use Rattle.mdb_monitor.proofs.Average.{mean-next}
use Rattle.mdb_monitor.proofs.monitor.MonitorCore.rtt_sample.Goals as goal

pub returns-clause-average : goal.returns-clause-average
returns-clause-average c = λ h f. c.add_sample.ensures.value ∙ ap (λ a. next_average a c.args.sample) f.average ∙ sym (mean-next c.args.sample (samples c.args.self.now.setting.allow_streaming (since h)))
