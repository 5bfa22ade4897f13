use Rattle.mdb_log.specs.History.{history_of}
use Rattle.mdb_checks_mid.proofs.drivers.update.Goals as goal

pub update-told-requires : goal.update-told-requires
update-told-requires c = record { stands = (history_of c.args.log.now, c.requires.stands.stands) }
