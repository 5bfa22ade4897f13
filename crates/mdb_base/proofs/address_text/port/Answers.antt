use Rattle.std.proofs.Common.{◌≡◌, true, false, ◌∙◌}
use Rattle.std.proofs.lemmas.Option.{same_Some}
use Rattle.mdb_base.proofs.AddressText.{digits_read}
use Rattle.mdb_base.proofs.address_text.port.Goals as goal

pub returns-in-Some-clause-only : goal.returns-in-Some-clause-only
returns-in-Some-clause-only c = λ p h. c.in-Some.ensures ∙ digits_read c.args.digits.now p h

pub returns-in_default-clause-only : goal.returns-in_default-clause-only
returns-in_default-clause-only c = λ p h.
    let same : c.in-Some.port ≡ p = same_Some _ _ (c.in-Some.ensures ∙ digits_read c.args.digits.now p h) in
    let bad : false ≡ true = c.if-is_port.ensures.1 (rw same h) in
    absurd cc

pub returns-in_default-2-clause-only : goal.returns-in_default-2-clause-only
returns-in_default-2-clause-only c = λ p h. c.in_default.ensures ∙ digits_read c.args.digits.now p h
