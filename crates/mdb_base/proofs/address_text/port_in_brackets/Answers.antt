use Rattle.std.proofs.Common.{codes, sym}
use Rattle.std.proofs.lemmas.Option.{IfSome_then}
use Rattle.mdb_base.proofs.AddressText.{after_some, same_after, none_after}
use Rattle.mdb_base.proofs.address_text.port_in_brackets.Goals as goal

pub returns-in-Some-clause-found : goal.returns-in-Some-clause-found
returns-in-Some-clause-found c =
    let rest = c.in-Some.rest.now in
    IfSome_then c.port_behind.result c.port_behind.ensures.found (λ p h. (rest, after_some (codes "]") c.args.rest.now rest (sym c.in-Some.ensures), h))

pub returns-in-Some-clause-only : goal.returns-in-Some-clause-only
returns-in-Some-clause-only c = λ p w. c.port_behind.ensures.only p (rw (← (same_after (codes "]") c.args.rest.now c.in-Some.rest.now w.0 c.in-Some.ensures w.1)) w.2)

pub returns-in-None-clause-only : goal.returns-in-None-clause-only
returns-in-None-clause-only c = λ p w. absurd (none_after (codes "]") c.args.rest.now w.0 c.in-None.ensures w.1)
