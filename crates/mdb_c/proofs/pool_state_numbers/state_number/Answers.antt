use Rattle.std.proofs.Common.{◌∙◌, sym}
use Rattle.mdb_log.specs.State.{state_of}
use Rattle.mdb_pool_session.specs.PoolLogs.{items}
use Rattle.mdb_c.proofs.StateNames.{as_new, as_ready, as_paused, as_closed}
use Rattle.mdb_c.proofs.pool_state_numbers.state_number.Goals as goal

pub returns-in-New : goal.returns-in-New
returns-in-New c = as_new (state_of c.args.session.now.options (items c.args.session.now)) (sym c.state.ensures ∙ c.in-New.is)

pub returns-in-Ready : goal.returns-in-Ready
returns-in-Ready c = as_ready (state_of c.args.session.now.options (items c.args.session.now)) (sym c.state.ensures ∙ c.in-Ready.is)

pub returns-in-Paused : goal.returns-in-Paused
returns-in-Paused c = as_paused (state_of c.args.session.now.options (items c.args.session.now)) (sym c.state.ensures ∙ c.in-Paused.is)

pub returns-in-Closed : goal.returns-in-Closed
returns-in-Closed c = as_closed (state_of c.args.session.now.options (items c.args.session.now)) (sym c.state.ensures ∙ c.in-Closed.is)
