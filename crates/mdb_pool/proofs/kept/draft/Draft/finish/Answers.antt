use Rattle.mdb_pool.proofs.KeptInLittle.AskedOfThoseThatStay.{swap-came}
use Rattle.mdb_pool.proofs.kept.draft.Draft.finish.Goals as goal

pub settle-requires : goal.settle-requires
settle-requires c = rw (c.in_ok-enter_phase.ensures.core, c.set_last.ensures.core) (swap-came (record c.args.request { phase = c.args.phase }) c.args.self.now.kept.requests c.args.request.number c.requires.came)
