use Rattle.std.proofs.Common.{true, refl}
use Rattle.mdb_tallies.proofs.GivenTo.{taken-follows}
use Rattle.mdb_tallies.proofs.tables.Tables.take.Goals as goal

pub returns : goal.returns
returns c = λ b.
    taken-follows b c.args.party c.args.pool c.args.id c.in_ok-new.new (record { is_granted = c.get-gift.result.is_granted; is_taken = true }) c.args.self.now c.replace.new.self c.give.new.self c.in_ok-replace.ensures (rw (← c.get-gift.ensures, ← c.get-known.ensures, ← c.get-old.ensures, ← c.is_kept-kept.ensures, ← c.is_lent.ensures) c.in_ok-new.ensures) c.in_ok-give.ensures (rw (← c.get-gift.ensures) refl)
