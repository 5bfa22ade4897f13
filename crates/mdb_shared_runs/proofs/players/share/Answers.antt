use Rattle.std.proofs.Common.{◌≡◌, List, sym, subst, arith}
use Rattle.mdb_log.specs.declared.log.Entry.{Entry}
use Rattle.mdb_log.proofs.Coming.{when-ok}
use Rattle.mdb_shared_runs.specs.Plays.{IsSharedOn}
use Rattle.mdb_shared_runs.proofs.Joined.{all_own, shared_on}
use Rattle.mdb_shared_runs.proofs.players.share.Goals as goal

pub close-requires-clause-own : goal.close-requires-clause-own
close-requires-clause-own g c κs within =
    all_own c.in_ok-driver.driver.id c.in_ok-driver.driver.base c.args.lines.players c.args.lines.steps.now c.in_ok-seats.seats.items c.in_ok-seats.ensures

pub returns : goal.returns
returns g c =
    let Shared : List Entry → Type 0 = IsSharedOn g.C.Core.stands c.args.lines.players c.args.log c.args.lines.steps.now in
    let shared : Shared c.in-Ok.journal.all =
    shared_on g.C.Core.stands c.in_ok-driver.driver.id c.in_ok-driver.driver.base c.args.log c.args.lines.players c.args.lines.steps.now c.in_ok-seats.seats.items
    c.in-Ok.journal.all _ c.in_ok-driver.ensures.base c.requires.players.0 c.in-Ok.ensures.accounts c.in_ok-seats.ensures c.in-Ok.ensures.stands in
    when-ok c.whole.result (λ log. log ≡ c.in-Ok.journal.all) Shared c.whole.ensures (λ log is. subst Shared (sym is) shared)

pub unreachable-requires : goal.unreachable-requires
unreachable-requires g c =
    let lent = c.in_ok-driver.ensures.count.0 in
    let back = c.in_ok-seats.ensures.0 in
    let missing = c.in-Err.ensures.missing.0 in
    let some = c.in-Err.ensures.missing.1 in
    omega (arith, lent, back, missing, some)
