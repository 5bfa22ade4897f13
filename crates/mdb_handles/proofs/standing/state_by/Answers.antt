use Rattle.mdb_handles.proofs.standing.state_by.Goals as goal

pub returns-then-is_given_up : goal.returns-then-is_given_up
returns-then-is_given_up c = c.is_given_up.ensures c.if-is_given_up.true
