use Rattle.mdb_log.specs.History.{history_of}
use Rattle.mdb_checks_mid.proofs.drivers.err.Goals as goal

pub handle_monitor_error-told-requires : goal.handle_monitor_error-told-requires
handle_monitor_error-told-requires c = record { stands = (history_of c.args.log.now, c.requires.stands.stands) }

pub handle_application_error-told-requires : goal.handle_application_error-told-requires
handle_application_error-told-requires c = record { stands = (history_of c.args.log.now, c.requires.stands.stands) }
