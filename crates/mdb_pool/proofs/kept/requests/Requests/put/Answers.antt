use Rattle.std.proofs.Common.{sym, subst, ◌∙◌, ap}
use Rattle.mdb_pool.specs.Kept.Asking.{BaseFits, OpenRequests}
use Rattle.mdb_pool.specs.Kept.Inner.{Asked}
use Rattle.mdb_pool.proofs.KeptInLittle.RequestsThatStay.{put-unsettled}
use Rattle.mdb_pool.proofs.kept.requests.Requests.put.Goals as goal

pub put-requires-clause-fits : goal.put-requires-clause-fits
put-requires-clause-fits c = c.self.invariant.0

pub put-requires-clause-fresh : goal.put-requires-clause-fresh
put-requires-clause-fresh c = rw (← c.self.view_is) at c.requires.fresh

pub returns-in-Ok-clause-settled : goal.returns-in-Ok-clause-settled
returns-in-Ok-clause-settled c = (c.in-Ok.ensures.settled ∙ ap (λ (v : OpenRequests). v.settled) c.self.view_is, rw c.in-Ok.ensures.settled (put-unsettled c.self.inside.parts.all.value c.self.inside.parts.settled.value c.self.inside.parts.kept.now c.self.inside.parts.told.now c.self.inside.parts.alone c.self.inside.parts.known.now c.self.invariant.0 c.args.request (rw (← c.self.view_is) at c.requires.fresh) c.requires.open))

pub invariant_of-self : goal.invariant_of-self
invariant_of-self c = (c.in-Ok.ensures.fits, subst BaseFits (sym c.put.ensures.base) c.self.invariant.1)

pub invariant_of-self-in-Err : goal.invariant_of-self-in-Err
invariant_of-self-in-Err c = (
  rw (c.roll_back.ensures.all, c.roll_back.ensures.settled, c.roll_back.ensures.kept, c.roll_back.ensures.told, c.roll_back.ensures.known, ap (λ (b : Asked). b.alone) c.roll_back.ensures.base) (subst BaseFits (sym c.put.ensures.base) c.self.invariant.1),
  subst BaseFits (sym (c.roll_back.ensures.base ∙ c.put.ensures.base)) c.self.invariant.1,
)
