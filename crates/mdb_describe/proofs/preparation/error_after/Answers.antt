use Rattle.std.proofs.Common.{arith}
use Rattle.mdb_describe.proofs.Kept.{walk_later, walk_here, error_nowhere}
use Rattle.mdb_describe.proofs.preparation.error_after.Goals as goal

pub loop-old-preserved : goal.loop-old-preserved
loop-old-preserved c = walk_later c.args.change.now c.args.server.now c.args.listed.now c.args.servers.now c.loop-old.met c.loop-old.old-index c.old-item.result (omega arith) c.old-item.is c.loop-old.invariant c.takes_place-takes.result c.standing-now.result.now c.is_kept-kept.result _ c.takes_place-takes.ensures c.standing-now.ensures c.is_kept-kept.ensures c.in_ok-error.ensures c.in-None.is c.either-met.result c.either-met.ensures

pub returns-in-Some : goal.returns-in-Some
returns-in-Some c = walk_here c.args.change.now c.args.server.now c.args.listed.now c.args.servers.now c.loop-old.met c.loop-old.old-index c.old-item.result c.in-Some.text (omega arith) c.old-item.is c.loop-old.invariant c.takes_place-takes.result c.standing-now.result.now c.is_kept-kept.result _ c.takes_place-takes.ensures c.standing-now.ensures c.is_kept-kept.ensures c.in_ok-error.ensures c.in-Some.is

pub returns : goal.returns
returns c = error_nowhere c.args.change.now c.args.server.now c.args.listed.now c.args.servers.now c.loop-old.met c.loop-old.old-index (omega arith) c.loop-old.invariant
