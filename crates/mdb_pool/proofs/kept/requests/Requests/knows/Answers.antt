use Rattle.std.proofs.Common.{◌≡◌, true, not, ◌||◌, is_some, sym, ◌∙◌, subst}
use Rattle.mdb_pool.specs.Kept.Asking.{OpenRequests}
use Rattle.mdb_pool.specs.Kept.Values.{request_in}
use Rattle.mdb_pool.proofs.KeptInLittle.RequestsThatStay.{knows-not}
use Rattle.mdb_pool.proofs.kept.requests.Requests.knows.Goals as goal

pub returns-then-not-alone : goal.returns-then-not-alone
returns-then-not-alone c =
    let n = c.args.number in
    let parts = c.self.inside.parts in
    let can : (parts.alone || not (is_some (request_in parts.all.value n))) ≡ true = subst (λ (o : OpenRequests). (o.base.alone || not (is_some (request_in o.now n))) ≡ true) (sym c.self.view_is) c.requires in
    rw (← c.self.view_is) (sym (knows-not parts.all.value parts.settled.value parts.kept.now parts.told.now parts.alone parts.known.now c.self.invariant.0 n c.if-not-alone.true can))

pub returns : goal.returns
returns c = c.contains.ensures ∙ rw (← c.self.view_is) (c.self.invariant.0.known_is c.if-not-alone.false c.args.number)
