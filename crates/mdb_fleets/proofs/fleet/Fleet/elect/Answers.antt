use Rattle.std.proofs.Common.{◌≡◌, ◌<◌, ◌+◌, length, get_or, true, false, not, sym, ap, ◌∙◌, arith, refl, subst}
use Rattle.std.specs.List.{All}
use Rattle.std.proofs.lemmas.List.{get_or_read}
use Rattle.std.proofs.lemmas.List.Elements.{All-get_or}
use Rattle.mdb_fleets.specs.declared.member.Member.{Member}
use Rattle.mdb_fleets.specs.Members.{new_member, is_primary, CanChange}
use Rattle.mdb_fleets.proofs.Sound.{elections-fit, greatest-small, changed-sound}
use Rattle.mdb_fleets.proofs.fleet.Fleet.elect.Goals as goal

pub overflow_add-self : goal.overflow_add-self
overflow_add-self c = omega (arith, elections-fit c.self.inside.members.items c.self.inside.elections c.self.invariant)

pub invariant_of-self : goal.invariant_of-self
invariant_of-self c =
    let members = c.self.inside.members.items in
    let room : All CanChange members = rw (← c.self.view_is) at c.requires.room in
    let there : c.args.member < length members = rw (← c.self.view_is) at c.requires.member in
    let known = get_or_read members c.args.member c.index.result.now there c.index.ensures new_member in
    let small = greatest-small members room in
    changed-sound members c.self.inside.elections (c.self.inside.elections + 1) c.args.member c.won.result there c.self.invariant (omega arith) room
    (rw (c.won.ensures, ← known) refl) (rw (c.won.ensures, c.greatest_version-version.ensures, c.as_slice.ensures.value) small)

pub returns : goal.returns
returns c =
    let members = c.self.inside.members.items in
    let there : c.args.member < length members = rw (← c.self.view_is) at c.requires.member in
    let known = get_or_read members c.args.member c.index.result.now there c.index.ensures new_member in
    rw (← c.self.view_is, c.won.ensures, c.greatest_version-version.ensures, c.as_slice.ensures.value, known) refl
