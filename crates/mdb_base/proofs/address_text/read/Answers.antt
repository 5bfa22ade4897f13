use Rattle.std.proofs.Common.{codes, sym, ◌∙◌, inl, inr}
use Rattle.std.proofs.lemmas.Option.{IfSome_then, none-some}
use Rattle.mdb_base.proofs.AddressText.{after_some, same_after, none_after, plain_open}
use Rattle.mdb_base.proofs.address_text.read.Goals as goal

pub returns-in-Some-clause-found : goal.returns-in-Some-clause-found
returns-in-Some-clause-found c =
    let inner = c.in-Some.inner.now in
    IfSome_then c.bracketed.result c.bracketed.ensures.found (λ x h. inr (inner, after_some (codes "[") c.args.text.now inner (sym c.in-Some.ensures), h))

pub returns-in-Some-clause-only : goal.returns-in-Some-clause-only
returns-in-Some-clause-only c = λ h p w. elim w [
  | inl plain ↦ absurd (none-some c.in-Some.inner.now (sym (c.in-Some.ensures ∙ plain_open c.args.text.now h p plain)))
  | inr inner ↦ c.bracketed.ensures.only h p (rw (← (same_after (codes "[") c.args.text.now c.in-Some.inner.now inner.0 c.in-Some.ensures inner.1)) inner.2)
]

pub returns-in-None-clause-found : goal.returns-in-None-clause-found
returns-in-None-clause-found c = IfSome_then c.plain.result c.plain.ensures.found (λ x h. inl h)

pub returns-in-None-clause-only : goal.returns-in-None-clause-only
returns-in-None-clause-only c = λ h p w. elim w [
  | inl plain ↦ c.plain.ensures.only h p plain
  | inr inner ↦ absurd (none_after (codes "[") c.args.text.now inner.0 c.in-None.ensures inner.1)
]
