use Rattle.std.proofs.Common.{◌<◌, length, refl}
use Rattle.std.proofs.lemmas.List.{get_or_read}
use Rattle.mdb_fleets.specs.Members.{new_member}
use Rattle.mdb_fleets.proofs.fleet.Fleet.ask.Goals as goal

pub returns-clause-asked : goal.returns-clause-asked
returns-clause-asked c =
    let there : c.args.member < length c.self.inside.members.items = rw (← c.self.view_is) at c.requires.member in
    let known = get_or_read c.self.inside.members.items c.args.member c.index-said.result.now there c.index-said.ensures new_member in
    rw (c.in_ok-push.ensures.items, known, c.in_ok-response.ensures, ← c.self.view_is) refl
