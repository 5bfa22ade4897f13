use Rattle.mdb_checks_mid.proofs.pool_steps.named_act.Goals as goal

pub returns-in_default : goal.returns-in_default
returns-in_default c = c.of_party.ensures c.args.number
