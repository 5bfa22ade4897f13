use Rattle.mdb_session_laws.proofs.laws.sessions_keep_the_headline.Goals as goal

pub returns : goal.returns
returns c = c.logs_keep_the_headline.ensures c.logs_are_legal.ensures.driver.0 c.args.session.now c.logs_are_legal.ensures.driver.1
