use Rattle.std.proofs.Common.{◌≡◌, ◌&&◌, Bool, None, not, is_some, true, sym, ◌∙◌, ap}
use Rattle.mdb_describe.specs.Descriptions.{failed}
use Rattle.mdb_describe.specs.Differences.{difference}
use Rattle.mdb_describe.specs.Update.{updated}
use Rattle.mdb_log.specs.declared.checked.BeatenResult.TheVariants.{Err}
use Rattle.mdb_pool.specs.Now.{exhausted_now}
use Rattle.mdb_topology.specs.Marking.{check_spends}
use Rattle.mdb_topology.proofs.OfMonitors.CheckFailed.{untroubled-else}
use Rattle.mdb_topology.proofs.Marks.AtItsLimit.{untroubled-spends}
use Rattle.mdb_topology.proofs.topology.TopologyCore.overspends_by_check.Goals as goal

pub returns-in_default : goal.returns-in_default
returns-in_default c s there = sym (untroubled-spends c.args.self.now s c.args.address.now c.args.came.now (untroubled-else c.args.came.now c.in_default.not-Err))

pub returns-then-self : goal.returns-then-self
returns-then-self c s there =
    let w = c.args.self.now in
    let a = c.args.address.now in
    let spends : Bool = (is_some (difference w.description.servers (updated w.description (failed a c.in-Err.error)).servers) && true) && exhausted_now s None in
    sym (ap (check_spends w s a) c.in-Err.is ∙ ap (λ b. not b && spends) c.if-self.true)

pub returns : goal.returns
returns c s there =
    let w = c.args.self.now in
    let a = c.args.address.now in
    let e = c.get.result.now in
    let came : c.args.came.now ≡ Err e = c.in-Err.is ∙ ap Err (sym c.get.ensures) in
    let spends : Bool = (is_some (difference w.description.servers (updated w.description (failed a e)).servers) && true) && exhausted_now s None in
    c.overspends.ensures s there ∙ sym (ap (check_spends w s a) came ∙ ap (λ b. not b && spends) c.if-self.false)
