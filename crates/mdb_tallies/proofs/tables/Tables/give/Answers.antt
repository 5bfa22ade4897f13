use Rattle.mdb_tallies.proofs.Covered.{gives}
use Rattle.mdb_tallies.proofs.tables.Tables.give.Goals as goal

pub returns : goal.returns
returns c = gives c.args.self.now c.args.party c.args.pool c.args.id c.args.gift c.push_if.new.places c.set.new.self c.requires (rw (← c.get-before.ensures, ← c.is_none.ensures) c.in_ok-push_if.ensures) c.in_ok-set.ensures
