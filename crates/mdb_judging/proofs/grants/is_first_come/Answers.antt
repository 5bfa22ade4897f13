use Rattle.std.proofs.Common.{◌∙◌}
use Rattle.mdb_judging.proofs.FirstCome.{grant-known, no-grant-known}
use Rattle.mdb_judging.proofs.grants.is_first_come.Goals as goal

pub returns-then-not-is_own-clause-answer : goal.returns-then-not-is_own-clause-answer
returns-then-not-is_own-clause-answer c = λ o h s q. no-grant-known h c.args.party c.args.pool c.args.id c.get-known.result c.get-connection.result c.is_own-is_own.result (c.get-known.ensures ∙ s.parties c.args.party) (c.get-connection.ensures ∙ s.connections c.args.pool c.args.id) c.is_own-is_own.ensures c.if-not-is_own.true

pub returns : goal.returns
returns c = record {
  answer = λ o h s q. grant-known h c.args.party c.args.pool c.args.id c.get-known.result c.get-connection.result c.is_own-is_own.result c.in_ok-is_next.is_next (c.get-known.ensures ∙ s.parties c.args.party) (c.get-connection.ensures ∙ s.connections c.args.pool c.args.id) c.is_own-is_own.ensures c.if-not-is_own.false (c.in_ok-is_next.ensures.answer o h s q);
  kept = λ o h s q. c.in_ok-is_next.ensures.kept o h s q;
}
