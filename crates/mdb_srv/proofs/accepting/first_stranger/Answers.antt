use Rattle.std.proofs.Common.{◌∙◌, sym}
use Rattle.mdb_srv.proofs.Strangers.{stops_at, goes_past}
use Rattle.mdb_srv.proofs.accepting.first_stranger.Goals as goal

pub returns-then-not-branch : goal.returns-then-not-branch
returns-then-not-branch c =
    sym (stops_at _ c.args.found.now c.loop-host.host-index c.host-item.result c.loop-host-test.true c.host-item.is c.loop-host.invariant
    (sym c.in_ok-is_within.ensures ∙ c.if-not-branch.true))

pub loop-host-preserved : goal.loop-host-preserved
loop-host-preserved c =
    goes_past _ c.args.found.now c.loop-host.host-index c.host-item.result c.loop-host-test.true c.host-item.is c.loop-host.invariant
    (sym c.in_ok-is_within.ensures ∙ c.if-not-branch.false)
