use Rattle.std.proofs.Common.{◌++◌, subst}
use Rattle.mdb_log.specs.History.{history_of}
use Rattle.mdb_topology.specs.Logging.{IsDriverOf}
use Rattle.mdb_topology.proofs.WholeSteps.CoreOfManyPools.{when-ok, in-either, moved, core-entry, nothing-came, still-driver, core-kind, core-in-time, core-job}
use Rattle.mdb_topology.proofs.DriverOpened.ScriptsLog.{still-opened}
use Rattle.mdb_topology.proofs.driver_core.TopologyCoreCore.step.Goals as goal

pub returns-clause-stands : goal.returns-clause-stands
returns-clause-stands c = λ whole more z grown.
    let w = c.args.self.now in
    let v = c.step.new.self in
    let before = c.args.log.now in
    let after = c.step.new.log in
    in-either c.step.result _ _ (IsDriverOf v (whole ++ more)) c.step.ensures.logs c.step.ensures.err_log
    (λ logs. still-driver w v whole (whole ++ more) c.args.seat c.args.step.now z c.step.ensures.options (moved w v before after whole more c.args.seat c.args.step.now grown logs) c.requires.act)
    (λ same. in-either c.step.result _ _ (IsDriverOf v (whole ++ more)) c.step.ensures.logs c.step.ensures.err_core
    (λ logs. still-driver w v whole (whole ++ more) c.args.seat c.args.step.now z c.step.ensures.options (moved w v before after whole more c.args.seat c.args.step.now grown logs) c.requires.act)
    (λ kept. subst (IsDriverOf v) (nothing-came before after whole more same grown) (still-opened w v whole z kept)))

pub returns-clause-entry : goal.returns-clause-entry
returns-clause-entry c =
    let whole = c.requires.stands.0 in
    let z = c.requires.stands.1 in
    when-ok c.step.result _ _ _ c.step.ensures.logs c.step.ensures.reply
    (λ logs reply told. core-entry c.args.self.now c.step.new.self c.args.log.now c.step.new.log (history_of whole) c.args.seat c.args.step.now z.stands logs reply (told (history_of whole) z.stands))

pub returns-clause-kind : goal.returns-clause-kind
returns-clause-kind c =
    let w = c.args.self.now in
    let v = c.step.new.self in
    let whole = c.requires.stands.0 in
    let z = c.requires.stands.1 in
    when-ok c.step.result _ _ _ c.step.ensures.logs c.step.ensures.reply
    (λ logs reply told. core-kind w v whole _ c.args.seat c.args.step.now z c.step.ensures.options
    (moved w v c.args.log.now c.step.new.log whole _ c.args.seat c.args.step.now (logs (history_of whole) z.stands).entry logs) c.requires.act reply (told (history_of whole) z.stands))

pub returns-clause-in_time : goal.returns-clause-in_time
returns-clause-in_time c =
    let w = c.args.self.now in
    let v = c.step.new.self in
    when-ok c.step.result _ _ _ c.step.ensures.logs c.step.ensures.reply
    (λ logs reply told. λ whole z later. core-in-time w v whole _ c.args.seat c.args.step.now z c.step.ensures.options
    (moved w v c.args.log.now c.step.new.log whole _ c.args.seat c.args.step.now (logs (history_of whole) z.stands).entry logs) c.requires.act reply (told (history_of whole) z.stands) later)

pub returns-clause-job : goal.returns-clause-job
returns-clause-job c =
    let w = c.args.self.now in
    let v = c.step.new.self in
    when-ok c.step.result _ _ _ c.step.ensures.logs c.step.ensures.reply
    (λ logs reply told. λ whole more z grown. core-job w v whole (whole ++ more) c.args.seat c.args.step.now z c.step.ensures.options
    (moved w v c.args.log.now c.step.new.log whole more c.args.seat c.args.step.now grown logs) c.requires.act reply (told (history_of whole) z.stands))
