use Rattle.mdb_session_laws.proofs.laws.logs_are_legal.Goals as goal

pub returns : goal.returns
returns c = c.driver_logs_are_legal.ensures c.logs_are_legal.ensures.driver.0 c.args.session.now c.logs_are_legal.ensures.driver.1
