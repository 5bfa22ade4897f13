use Rattle.std.proofs.Common.{codes, refl, sym, ◌∙◌, inl}
use Rattle.std.proofs.lemmas.Option.{IfSome_then}
use Rattle.mdb_base.proofs.AddressText.{after_some, behind_colon, no_colon}
use Rattle.mdb_base.proofs.address_text.port_behind.Goals as goal

pub returns-in-Some-clause-found : goal.returns-in-Some-clause-found
returns-in-Some-clause-found c =
    let digits = c.in-Some.digits.now in
    IfSome_then c.port.result c.port.ensures.found (λ p h. inl (digits, after_some (codes ":") c.args.rest.now digits (sym c.in-Some.ensures), h))

pub returns-in-Some-clause-only : goal.returns-in-Some-clause-only
returns-in-Some-clause-only c = λ p h. c.port.ensures.only p (behind_colon c.args.rest.now c.in-Some.digits.now p c.in-Some.ensures h)

pub returns-in-None-clause-only : goal.returns-in-None-clause-only
returns-in-None-clause-only c = λ p h.
    let q = no_colon c.args.rest.now p c.in-None.ensures h in
    c.default_port.ensures ∙ rw (q.0, q.1) refl
