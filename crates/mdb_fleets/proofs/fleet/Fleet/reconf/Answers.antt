use Rattle.std.proofs.Common.{◌≡◌, ◌<◌, ◌+◌, length, get_or, true, false, not, sym, ap, ◌∙◌, arith, refl, subst}
use Rattle.std.specs.List.{All}
use Rattle.std.proofs.lemmas.List.{get_or_read}
use Rattle.std.proofs.lemmas.List.Elements.{All-get_or}
use Rattle.mdb_fleets.specs.declared.member.Member.{Member}
use Rattle.mdb_fleets.specs.Members.{new_member, is_primary, CanChange}
use Rattle.mdb_fleets.proofs.Sound.{changed-sound, changes, stays}
use Rattle.mdb_fleets.specs.Members.{reconfigured}
use Rattle.mdb_fleets.proofs.fleet.Fleet.reconf.Goals as goal

pub invariant_of-self : goal.invariant_of-self
invariant_of-self c =
    let members = c.self.inside.members.items in
    let room : All CanChange members = rw (← c.self.view_is) at c.requires.room in
    let there : c.args.member < length members = rw (← c.self.view_is) at c.requires.member in
    let known = get_or_read members c.args.member c.index.result.now there c.index.ensures new_member in
    let its : CanChange c.index.result.now = rw known (All-get_or CanChange members c.args.member new_member there room) in
    changed-sound members c.self.inside.elections c.self.inside.elections c.args.member c.reconfigured.result there c.self.invariant (omega arith) room
    (rw (c.reconfigured.ensures, ← known) refl) (rw c.reconfigured.ensures (omega (arith, its.1)))

pub returns-clause-answer : goal.returns-clause-answer
returns-clause-answer c =
    let there : c.args.member < length c.self.inside.members.items = rw (← c.self.view_is) at c.requires.member in
    let known = get_or_read c.self.inside.members.items c.args.member c.index.result.now there c.index.ensures new_member in
    let so : is_primary c.index.result.now ≡ true = sym c.is_primary.ensures ∙ c.if-not-is_primary.false in
    rw (← c.self.view_is) (sym (rw known at so))

pub returns-clause-changed : goal.returns-clause-changed
returns-clause-changed c =
    let there : c.args.member < length c.self.inside.members.items = rw (← c.self.view_is) at c.requires.member in
    let known = get_or_read c.self.inside.members.items c.args.member c.index.result.now there c.index.ensures new_member in
    let so : is_primary c.index.result.now ≡ true = sym c.is_primary.ensures ∙ c.if-not-is_primary.false in
    rw (← c.self.view_is, c.reconfigured.ensures, known) (changes reconfigured c.self.inside.members.items c.self.inside.elections c.self.inside.wire.items c.args.member (rw known at so))

pub returns-then-not-is_primary-clause-answer : goal.returns-then-not-is_primary-clause-answer
returns-then-not-is_primary-clause-answer c =
    let there : c.args.member < length c.self.inside.members.items = rw (← c.self.view_is) at c.requires.member in
    let known = get_or_read c.self.inside.members.items c.args.member c.index.result.now there c.index.ensures new_member in
    let so : is_primary c.index.result.now ≡ false = sym c.is_primary.ensures ∙ c.if-not-is_primary.true in
    rw (← c.self.view_is) (sym (rw known at so))

pub returns-then-not-is_primary-clause-changed : goal.returns-then-not-is_primary-clause-changed
returns-then-not-is_primary-clause-changed c =
    let there : c.args.member < length c.self.inside.members.items = rw (← c.self.view_is) at c.requires.member in
    let known = get_or_read c.self.inside.members.items c.args.member c.index.result.now there c.index.ensures new_member in
    let so : is_primary c.index.result.now ≡ false = sym c.is_primary.ensures ∙ c.if-not-is_primary.true in
    rw (← c.self.view_is) (stays reconfigured c.self.inside.members.items c.self.inside.elections c.self.inside.wire.items c.args.member (rw known at so))
