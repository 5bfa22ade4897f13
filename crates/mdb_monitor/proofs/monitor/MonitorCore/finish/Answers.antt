use Rattle.mdb_monitor.specs.Items.{since}
use Rattle.mdb_monitor.proofs.Ended.{ended-stands, ended-row}
use Rattle.mdb_monitor.proofs.monitor.MonitorCore.finish.Goals as goal

pub returns-clause-finishes : goal.returns-clause-finishes
returns-clause-finishes c = λ h f. ended-row c.args.self.now (since h) c.unwrap-fresh.result c.args.duration c.args.ended c.args.available c.in_ok-event.event c.conclude-report.result c.next-next.result f c.unwrap-fresh.ensures c.in_ok-event.ensures c.conclude-report.ensures.report c.next-next.ensures

pub returns-clause-stands : goal.returns-clause-stands
returns-clause-stands c = λ h f. ended-stands c.args.self.now c.conclude-report.new.self h c.unwrap-fresh.result c.args.duration c.args.ended f c.unwrap-fresh.ensures c.conclude-report.ensures.setting c.conclude-report.ensures.running c.conclude-report.ensures.knowledge
