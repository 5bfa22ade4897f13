use Rattle.std.proofs.Common.{◌≡◌, Some, sym, ◌∙◌, ap, true}
use Rattle.mdb_pool.specs.Kept.Places.{is_pending}
use Rattle.mdb_pool.specs.Kept.Values.{is_pending_at, reason_now}
use Rattle.mdb_pool.proofs.Listed.FirstOrLast.{is-pending}
use Rattle.mdb_pool.proofs.KeptInLittle.AskedOfThoseThatStay.{holder-is, holder-none, holder-there}
use Rattle.mdb_pool.proofs.Answered.Establish.{established-of, fill-of, pooled-of, rest-of}
use Rattle.mdb_pool.proofs.kept.draft.Draft.accept_established.Goals as goal

pub returns-then-request-clause-accepts : goal.returns-then-request-clause-accepts
returns-then-request-clause-accepts c =
    let up : is_pending c.in-Some.connection.place ≡ true = ap is_pending_at (c.in-Some.ensures ∙ c.connection.ensures) ∙ c.requires in
    λ xs z. fill-of c.args.self.now c.fill_in.new.self c.serve.new.self c.args.facts.now.items c.fill_in.new.facts.items c.serve.new.facts.items c.args.moment c.args.id c.in-Some.connection c.in_ok-request.request c.args.made c.reason_now-reason.result xs z (sym c.connection.ensures ∙ sym c.in-Some.ensures) (is-pending c.in-Some.connection.place up) (holder-is c.args.self.now c.in-Some.connection c.in_ok-request.request (sym c.in-Some-holder_request.ensures ∙ ap Some (sym c.in_ok-request.ensures))) c.if-request.true (c.reason_now-reason.ensures ∙ ap (reason_now c.args.self.now) c.as_made-up.ensures) c.in_ok-fill_in.ensures.core c.in_ok-fill_in.ensures.facts c.in_ok-serve.ensures.home c.in_ok-serve.ensures.notes c.in_ok-serve.ensures.serves

pub returns-in-Some-holder_request-clause-accepts : goal.returns-in-Some-holder_request-clause-accepts
returns-in-Some-holder_request-clause-accepts c =
    let up : is_pending c.in-Some.connection.place ≡ true = ap is_pending_at (c.in-Some.ensures ∙ c.connection.ensures) ∙ c.requires in
    λ xs z. established-of c.args.self.now c.establish.new.self c.serve-in-Some-holder_request.new.self c.args.facts.now.items c.establish.new.facts.items c.serve-in-Some-holder_request.new.facts.items c.args.moment c.args.id c.in-Some.connection c.in_ok-request.request c.args.made xs z (sym c.connection.ensures ∙ sym c.in-Some.ensures) (is-pending c.in-Some.connection.place up) (holder-is c.args.self.now c.in-Some.connection c.in_ok-request.request (sym c.in-Some-holder_request.ensures ∙ ap Some (sym c.in_ok-request.ensures))) c.if-request.false c.in_ok-establish.ensures.core c.in_ok-establish.ensures.facts c.in_ok-serve-2.ensures.home c.in_ok-serve-2.ensures.notes c.in_ok-serve-2.ensures.serves

pub returns-then-has_party-clause-accepts : goal.returns-then-has_party-clause-accepts
returns-then-has_party-clause-accepts c =
    let up : is_pending c.in-Some.connection.place ≡ true = ap is_pending_at (c.in-Some.ensures ∙ c.connection.ensures) ∙ c.requires in
    λ xs z. pooled-of c.args.self.now c.pool_connection.new.self c.serve-then-has_party.new.self c.args.facts.now.items c.pool_connection.new.facts.items c.serve-then-has_party.new.facts.items c.args.moment c.args.id c.in-Some.connection c.args.made c.reason_now-reason.result xs z (sym c.connection.ensures ∙ sym c.in-Some.ensures) (is-pending c.in-Some.connection.place up) (holder-none c.args.self.now c.args.id c.in-Some.connection xs z (sym c.connection.ensures ∙ sym c.in-Some.ensures) (sym c.in_default-holder_request.ensures)) (sym c.has_party.ensures ∙ c.if-has_party.true) (c.reason_now-reason.ensures ∙ ap (reason_now c.args.self.now) c.as_made-up.ensures) c.in_ok-pool_connection.ensures.core c.in_ok-pool_connection.ensures.facts c.in_ok-serve-3.ensures.home c.in_ok-serve-3.ensures.notes c.in_ok-serve-3.ensures.serves

pub returns-clause-accepts : goal.returns-clause-accepts
returns-clause-accepts c =
    let up : is_pending c.in-Some.connection.place ≡ true = ap is_pending_at (c.in-Some.ensures ∙ c.connection.ensures) ∙ c.requires in
    λ xs z. rest-of c.args.self.now c.rest.new.self c.serve-2.new.self c.args.facts.now.items c.rest.new.facts.items c.serve-2.new.facts.items c.args.moment c.args.id c.in-Some.connection c.args.made xs z (sym c.connection.ensures ∙ sym c.in-Some.ensures) (is-pending c.in-Some.connection.place up) (holder-none c.args.self.now c.args.id c.in-Some.connection xs z (sym c.connection.ensures ∙ sym c.in-Some.ensures) (sym c.in_default-holder_request.ensures)) (sym c.has_party.ensures ∙ c.if-has_party.false) c.in_ok-rest.ensures.core c.in_ok-rest.ensures.facts c.in_ok-serve-4.ensures.home c.in_ok-serve-4.ensures.notes c.in_ok-serve-4.ensures.serves

pub fill_in-requires-clause-there : goal.fill_in-requires-clause-there
fill_in-requires-clause-there c = holder-there c.args.self.now c.in-Some.connection c.in_ok-request.request (sym c.in-Some-holder_request.ensures ∙ ap Some (sym c.in_ok-request.ensures))
