use Rattle.std.proofs.Common.{rules}
use Rattle.mdb_pool.proofs.KeptInLittle.ClaimedUpTo.{first-free}
use Rattle.mdb_pool.proofs.Listed.Noted.{marked-new}
use Rattle.mdb_pool.proofs.kept.draft.Draft.claim.Goals as goal

pub returns-clause-core : goal.returns-clause-core
returns-clause-core c = rw (← marked-new c.args.connection.now.id c.args.self.now.kept.claimed (first-free c.args.self.now c.args.connection.now c.requires)) (search rules)
