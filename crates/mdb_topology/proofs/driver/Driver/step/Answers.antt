use Rattle.std.proofs.Common.{sym, subst}
use Rattle.mdb_topology.proofs.driver.Driver.step.Goals as goal
use Rattle.mdb_topology.specs.Logging.{IsDriverOf}
use Rattle.mdb_topology.proofs.DriverOpened.ScriptsLog.{opened-of, still-opened, steps-opened, taken-act}
use Rattle.mdb_driver_rules.proofs.TwoKinds.{driver-act}

pub returns-in_err-reply-in-Some-clause-stands : goal.returns-in_err-reply-in-Some-clause-stands
returns-in_err-reply-in-Some-clause-stands c =
    let w = c.in-Some.core in
    let e = c.in_err-reply-in-Some.ensures in
    let z = opened-of c.args.self.now.core w c.args.log.now c.in-Some.is c.requires.stands in
    subst (λ es. IsDriverOf c.step.new.self es) (sym e.err_log) (still-opened w c.step.new.self c.args.log.now z e.err_core)

pub returns-in_ok-reply-in-Some-clause-ok : goal.returns-in_ok-reply-in-Some-clause-ok
returns-in_ok-reply-in-Some-clause-ok c =
    let w = c.in-Some.core in
    let e = c.in_ok-reply-in-Some.ensures in
    let z = opened-of c.args.self.now.core w c.args.log.now c.in-Some.is c.requires.stands in
    let both = steps-opened w c.step.new.self c.args.log.now c.step.new.log c.args.step.now z c.requires.taken e.options e.logs in
    both.0

pub returns-in_ok-reply-in-Some-clause-stands : goal.returns-in_ok-reply-in-Some-clause-stands
returns-in_ok-reply-in-Some-clause-stands c =
    let w = c.in-Some.core in
    let e = c.in_ok-reply-in-Some.ensures in
    let z = opened-of c.args.self.now.core w c.args.log.now c.in-Some.is c.requires.stands in
    let both = steps-opened w c.step.new.self c.args.log.now c.step.new.log c.args.step.now z c.requires.taken e.options e.logs in
    both.1

pub step-requires-clause-act : goal.step-requires-clause-act
step-requires-clause-act c = driver-act c.args.step.now.act (taken-act c.in-Some.core c.args.log.now c.args.step.now (opened-of c.args.self.now.core c.in-Some.core c.args.log.now c.in-Some.is c.requires.stands) c.requires.taken)
