use Rattle.std.proofs.Common.{subst, sym, [], Ok, Some}
use Rattle.mdb_judging.specs.Audited.{TakenFor}
use Rattle.mdb_judging.specs.Judging.{FaultFor}
use Rattle.mdb_judging.specs.Shown.{entry_of}
use Rattle.mdb_judging.proofs.LegalOn.{first-taken}
use Rattle.mdb_judging.proofs.auditor.Auditor.open.Goals as goal

pub returns : goal.returns
returns c = λ is accepted audits.
    let e = entry_of c.args.shown.now in
    let fault = subst (λ p. FaultFor p e c.in_ok-why.why (record c.args.self.now { options = Some p }) c.fault.new.self) c.pool_options-options.ensures c.in_ok-why.ensures in
    subst (λ w. TakenFor [] e c.fault.new.self (Ok w)) (sym c.first_why.ensures) (first-taken c.args.o.now e c.opens_seeds-opens.result c.in_ok-why.why c.args.self.now c.fault.new.self is accepted audits fault c.opens_seeds-opens.ensures)
