use Rattle.std.proofs.Common.{◌≡◌, false, refl, sym, ◌∙◌, ap}
use Rattle.std.specs.Prelude.{option_copied}
use Rattle.mdb_log.specs.Connections.{has}
use Rattle.mdb_pool.specs.Kept.Values.{is_gone, request_in}
use Rattle.mdb_pool.proofs.KeptInLittle.RequestsThatStay.{found-kept, open-now}
use Rattle.mdb_pool.proofs.kept.requests.Requests.is_open.Goals as goal

pub is_told-told-requires : goal.is_told-told-requires
is_told-told-requires c = c.self.invariant.0

-- it is there: what is told of it is what is settled
pub returns-then-not-request : goal.returns-then-not-request
returns-then-not-request c =
    let p = c.self.inside.parts in
    let n = c.args.number in
    let here = found-kept p.all.value p.settled.value p.kept.now p.told.now p.alone p.known.now c.self.invariant.0 n c.in-Some.request.now (sym c.get.ensures ∙ ap option_copied c.in-Some.is) in
    let there : is_gone p.settled.value (request_in p.all.value n) ≡ false = ap (is_gone p.settled.value) here.0 ∙ rw here.1 refl in
    let told : c.is_told-told.result ≡ has n p.settled.value = c.is_told-told.ensures there in
    rw (← c.self.view_is, told, here.0, c.if-not-request.true) refl

pub returns-else-not-request : goal.returns-else-not-request
returns-else-not-request c =
    let p = c.self.inside.parts in
    let here = found-kept p.all.value p.settled.value p.kept.now p.told.now p.alone p.known.now c.self.invariant.0 c.args.number c.in-Some.request.now (sym c.get.ensures ∙ ap option_copied c.in-Some.is) in
    rw (← c.self.view_is, here.0, c.if-not-request.false) refl

pub returns-in-None : goal.returns-in-None
returns-in-None c = sym (rw (← c.self.view_is) (open-now c.self.inside.parts.all.value c.self.inside.parts.settled.value c.self.inside.parts.kept.now c.self.inside.parts.told.now c.self.inside.parts.alone c.self.inside.parts.known.now c.self.invariant.0 c.args.number (sym c.get.ensures ∙ ap option_copied c.in-None.is)))
