use Rattle.mdb_pool.specs.declared.kept.request.Phase.TheVariants.{Given}
use Rattle.std.proofs.Common.{false}
use Rattle.mdb_pool.proofs.KeptInLittle.AskedOfThoseThatStay.{put-came}
use Rattle.mdb_pool.proofs.kept.draft.Draft.grant_at_once.Goals as goal

pub settle-requires : goal.settle-requires
settle-requires c = rw (c.in_ok-hand.ensures.core, c.in_ok-put_request.ensures.core, c.set_last.ensures.core) (put-came (record { number = c.args.request; asked_at = c.args.moment; warm = false; took = false; phase = Given c.args.connection.id }) c.args.self.now.kept.requests)
