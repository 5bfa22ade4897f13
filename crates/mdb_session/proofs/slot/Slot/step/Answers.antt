use Rattle.mdb_session.specs.Sessions.{step_at}
use Rattle.mdb_session.proofs.slot.Slot.step.Goals as goal
use Rattle.mdb_session.proofs.Kept.{caller}

pub act-requires : goal.act-requires
act-requires c = caller (step_at c.args.at.now c.args.act) c.requires.spelled c.requires.later
