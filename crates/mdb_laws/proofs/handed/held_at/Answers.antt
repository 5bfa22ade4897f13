use Rattle.std.proofs.Common.{refl, sym}
use Rattle.mdb_log.specs.History.{of_pool}
use Rattle.mdb_laws.proofs.handed.held_at.Goals as goal

pub returns-in-Some : goal.returns-in-Some
returns-in-Some c = λ h z.
    let d = c.in-Some.ensures.fits h c.in-Some.known.now z refl in
    c.held_by.ensures (of_pool c.args.pool h) d.fits

pub returns-in-None : goal.returns-in-None
returns-in-None c = λ h z. sym ((c.in-None.ensures.missing h z refl).held c.args.party)
