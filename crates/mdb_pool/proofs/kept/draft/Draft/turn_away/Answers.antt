use Rattle.mdb_pool.proofs.KeptInLittle.AskedOfThoseThatStay.{unsettled_there}
use Rattle.mdb_pool.proofs.kept.draft.Draft.turn_away.Goals as goal

pub replace_request-requires-clause-there : goal.replace_request-requires-clause-there
replace_request-requires-clause-there c = unsettled_there c.args.self.now.kept.settled c.args.self.now.kept.requests c.args.request c.requires
