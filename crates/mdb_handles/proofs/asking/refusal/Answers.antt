use Rattle.std.proofs.Common.{refl}
use Rattle.mdb_workers.proofs.Adding.{made_none}
use Rattle.mdb_handles.proofs.asking.refusal.Goals as goal

pub returns-in_default : goal.returns-in_default
returns-in_default g c = record { same = (refl, refl); saw = made_none g.C.Core.stands c.args.seat.now; told = refl }

pub returns-then-glance-clause-told : goal.returns-then-glance-clause-told
returns-then-glance-clause-told g c = (c.in-UnknownRequest.is, (c.glance.ensures.told c.if-glance.true, c.glance.ensures.fits))
