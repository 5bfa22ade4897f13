use Rattle.std.proofs.Common.{◌≡◌, Some, sym, ◌∙◌, ap, true}
use Rattle.mdb_pool.specs.Kept.Places.{is_pending}
use Rattle.mdb_pool.specs.Kept.Values.{is_pending_at}
use Rattle.mdb_pool.proofs.Listed.FirstOrLast.{is-pending}
use Rattle.mdb_pool.proofs.KeptInLittle.AskedOfThoseThatStay.{holder-is, holder-none, holder-there}
use Rattle.mdb_pool.proofs.Answered.Fail.{fail-of, forget-of}
use Rattle.mdb_pool.proofs.kept.draft.Draft.accept_failed.Goals as goal

pub returns-clause-accepts : goal.returns-clause-accepts
returns-clause-accepts c =
    let up : is_pending c.in-Some.connection.place ≡ true = ap is_pending_at (c.in-Some.ensures ∙ c.connection.ensures) ∙ c.requires in
    λ xs z. forget-of c.args.self.now c.forget.new.self c.serve-2.new.self c.args.facts.now.items c.forget.new.facts.items c.serve-2.new.facts.items c.args.moment c.args.id c.in-Some.connection c.args.at c.args.cause.now xs z (sym c.connection.ensures ∙ sym c.in-Some.ensures) (is-pending c.in-Some.connection.place up) (holder-none c.args.self.now c.args.id c.in-Some.connection xs z (sym c.connection.ensures ∙ sym c.in-Some.ensures) (sym c.in_default-holder_request.ensures)) c.in_ok-forget.ensures.core c.in_ok-forget.ensures.facts c.in_ok-serve-2.ensures.home c.in_ok-serve-2.ensures.notes c.in_ok-serve-2.ensures.serves

pub returns-in-Some-holder_request-clause-accepts : goal.returns-in-Some-holder_request-clause-accepts
returns-in-Some-holder_request-clause-accepts c =
    let up : is_pending c.in-Some.connection.place ≡ true = ap is_pending_at (c.in-Some.ensures ∙ c.connection.ensures) ∙ c.requires in
    λ xs z. fail-of c.args.self.now c.fail.new.self c.serve.new.self c.args.facts.now.items c.fail.new.facts.items c.serve.new.facts.items c.args.moment c.args.id c.in-Some.connection c.in_ok-request.request c.args.at c.args.cause.now xs z (sym c.connection.ensures ∙ sym c.in-Some.ensures) (is-pending c.in-Some.connection.place up) (holder-is c.args.self.now c.in-Some.connection c.in_ok-request.request (sym c.in-Some-holder_request.ensures ∙ ap Some (sym c.in_ok-request.ensures))) c.in_ok-fail.ensures.core c.in_ok-fail.ensures.facts c.in_ok-serve.ensures.home c.in_ok-serve.ensures.notes c.in_ok-serve.ensures.serves

pub fail-requires : goal.fail-requires
fail-requires c = record { there = holder-there c.args.self.now c.in-Some.connection c.in_ok-request.request (sym c.in-Some-holder_request.ensures ∙ ap Some (sym c.in_ok-request.ensures)) }
