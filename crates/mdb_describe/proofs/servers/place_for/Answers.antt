use Rattle.std.proofs.Common.{length, refl, arith}
use Rattle.mdb_describe.proofs.Walks.{put_here_at, put_end, puts_on}
use Rattle.mdb_describe.proofs.servers.place_for.Goals as goal

pub loop-at-preserved : goal.loop-at-preserved
loop-at-preserved c = puts_on c.args.address.now c.args.servers.now c.loop-at.at c.index-servers-at.result c.loop-at.invariant (omega arith) c.index-servers-at.is (cc)

pub returns-then-is_before-clause-place : goal.returns-then-is_before-clause-place
returns-then-is_before-clause-place c = λ d e. put_here_at d c.args.address.now e c.args.servers.now c.loop-at.at c.index-servers-at.result (omega arith) c.index-servers-at.is c.loop-at.invariant (cc)

pub returns-clause-place : goal.returns-clause-place
returns-clause-place c = λ d e. put_end d c.args.address.now e c.args.servers.now c.loop-at.at (length c.args.servers.now) c.loop-at.invariant (omega arith) refl
