use Rattle.std.proofs.Common.{true, refl}
use Rattle.mdb_tallies.proofs.GivenTo.{granted-follows}
use Rattle.mdb_tallies.proofs.tables.Tables.grant.Goals as goal

pub returns : goal.returns
returns c = λ b.
    granted-follows b c.args.party c.args.pool c.args.id c.in_ok-new.new (record { is_granted = true; is_taken = c.get-gift.result.is_taken }) (record c.get-known.result { is_granted = true }) c.args.self.now c.replace.new.self c.give.new.self c.set.new.self c.in_ok-replace.ensures (rw (← c.get-gift.ensures, ← c.get-known.ensures, ← c.get-old.ensures, ← c.is_lent.ensures, ← c.is_lent-2.ensures) c.in_ok-new.ensures) c.in_ok-give.ensures (rw (← c.get-gift.ensures) refl) c.in_ok-set.ensures (rw (← c.get-known.ensures) refl)
