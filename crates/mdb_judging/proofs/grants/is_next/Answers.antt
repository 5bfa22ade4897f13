use Rattle.std.proofs.Common.{◌∙◌}
use Rattle.mdb_judging.proofs.FirstCome.{warm-known, caller-known}
use Rattle.mdb_judging.proofs.grants.is_next.Goals as goal

pub returns-then-known-clause-answer : goal.returns-then-known-clause-answer
returns-then-known-clause-answer c = λ o h s q e. warm-known h c.args.party c.args.pool c.get-known.result c.is_queued.result (c.get-known.ensures ∙ s.parties c.args.party) c.if-known.true c.is_queued.ensures e

pub returns : goal.returns
returns c = record {
  answer = λ o h s q e. caller-known h c.args.party c.args.pool c.get-known.result c.in_ok-first.first c.is_number.result (c.get-known.ensures ∙ s.parties c.args.party) c.if-known.false c.is_number.ensures (c.in_ok-first.ensures.caller o h s q);
  kept = λ o h s q. c.in_ok-first.ensures.standing o h s q;
}
