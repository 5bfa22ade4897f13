use Rattle.std.proofs.Common.{rules}
use Rattle.mdb_shared.proofs.Sharing.{absorbs}
use Rattle.mdb_shared.proofs.ending.take_in.Goals as goal

pub join_seat-requires : goal.join_seat-requires
join_seat-requires g c = (search rules, search rules, search rules, search rules, absorbs g.C.Core.stands _ _ _ _ _ _ c.requires.off.0 c.requires.off.1)
