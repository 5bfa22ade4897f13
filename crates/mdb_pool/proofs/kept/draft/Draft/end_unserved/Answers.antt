use Rattle.std.proofs.Common.{◌≡◌, sym, ◌∙◌, ap, subst}
use Rattle.std.specs.Prelude.{OnOk}
use Rattle.mdb_pool.proofs.KeptInLittle.LeftEndsOnce.{left-stays}
use Rattle.mdb_pool.proofs.KeptInLittle.AskedOfThoseThatStay.{kept-is, kept-number, kept-there}
use Rattle.mdb_pool.proofs.Turns.EndUnserved.{one-stays, one-ends}
use Rattle.mdb_pool.specs.Kept.Values.{is_gone, request_at, with_requests}
use Rattle.mdb_pool.proofs.kept.draft.Draft.end_unserved.Goals as goal

pub returns-in_default-clause-core : goal.returns-in_default-clause-core
returns-in_default-clause-core c = ap (with_requests c.args.self.now) (sym (left-stays c.args.self.now c.args.number c.asked-requests.ensures.apart (sym c.in_default.ensures)))

pub returns-then-not-is_unserved-clause-core : goal.returns-then-not-is_unserved-clause-core
returns-then-not-is_unserved-clause-core c = ap (with_requests c.args.self.now) (sym (one-stays c.args.self.now c.args.number c.args.self.now.kept.requests c.in-Some.request.now c.asked-requests.ensures.apart (kept-is c.args.self.now c.args.number c.in-Some.request.now (sym c.in-Some.ensures)) (sym c.is_unserved.ensures ∙ c.if-not-is_unserved.true)))

pub returns-clause-core : goal.returns-clause-core
returns-clause-core c =
    subst (λ qs. OnOk c.replace_request.result (c.replace_request.new.self ≡ with_requests c.args.self.now qs))
    (sym (one-ends c.args.self.now c.args.number c.in-Some.request.now c.asked-requests.ensures.apart (kept-is c.args.self.now c.args.number c.in-Some.request.now (sym c.in-Some.ensures)) (sym c.is_unserved.ensures ∙ c.if-not-is_unserved.false))) c.replace_request.ensures.core

pub replace_request-requires-clause-there : goal.replace_request-requires-clause-there
replace_request-requires-clause-there c = ap (λ k. is_gone c.args.self.now.kept.settled (request_at c.args.self.now k)) (sym (kept-number c.args.self.now c.args.number c.in-Some.request.now (sym c.in-Some.ensures))) ∙ kept-there c.args.self.now c.args.number c.in-Some.request.now (sym c.in-Some.ensures)
