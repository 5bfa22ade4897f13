use Rattle.mdb_log.specs.History.{history_of}
use Rattle.mdb_checks_mid.proofs.drivers.call.Goals as goal

pub sync_hosts-told-requires : goal.sync_hosts-told-requires
sync_hosts-told-requires c = record { stands = (history_of c.args.log.now, c.requires.stands.stands) }

pub advance_cluster_time-told-requires : goal.advance_cluster_time-told-requires
advance_cluster_time-told-requires c = record { stands = (history_of c.args.log.now, c.requires.stands.stands) }

pub stop-told-requires : goal.stop-told-requires
stop-told-requires c = record { stands = (history_of c.args.log.now, c.requires.stands.stands) }
