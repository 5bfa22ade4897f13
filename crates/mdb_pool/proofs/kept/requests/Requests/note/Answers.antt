use Rattle.std.proofs.Common.{sym, subst, ◌∙◌, ap}
use Rattle.mdb_pool.specs.Kept.Asking.{BaseFits}
use Rattle.mdb_pool.specs.Kept.Inner.{Asked}
use Rattle.mdb_pool.proofs.kept.requests.Requests.note.Goals as goal

pub settle-requires-clause-fits : goal.settle-requires-clause-fits
settle-requires-clause-fits c = c.self.invariant.0

pub settle-requires-clause-known : goal.settle-requires-clause-known
settle-requires-clause-known c = rw (← c.self.view_is) at c.requires

pub invariant_of-self : goal.invariant_of-self
invariant_of-self c = (c.in-Ok.ensures.fits, subst BaseFits (sym c.settle.ensures.base) c.self.invariant.1)

pub invariant_of-self-in-Err : goal.invariant_of-self-in-Err
invariant_of-self-in-Err c = (
  rw (c.roll_back.ensures.all, c.roll_back.ensures.settled, c.roll_back.ensures.kept, c.roll_back.ensures.told, c.roll_back.ensures.known, ap (λ (b : Asked). b.alone) c.roll_back.ensures.base) (subst BaseFits (sym c.settle.ensures.base) c.self.invariant.1),
  subst BaseFits (sym (c.roll_back.ensures.base ∙ c.settle.ensures.base)) c.self.invariant.1,
)
