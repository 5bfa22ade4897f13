use Rattle.std.proofs.Common.{◌∙◌}
use Rattle.mdb_judging.proofs.Left.{left-known}
use Rattle.mdb_judging.proofs.leftovers.is_left_at.Goals as goal

pub returns : goal.returns
returns c = record {
  answer = λ h s q. left-known c.args.options.now h c.args.pool c.get-known.result c.in_ok-could.could c.is_waiting.result c.in_ok-first.first (c.get-known.ensures ∙ s.pools c.args.pool) c.in_ok-could.ensures (c.in_ok-first.ensures.caller c.args.options.now h s q) c.is_waiting.ensures;
  kept = λ h s q. c.in_ok-first.ensures.standing c.args.options.now h s q;
}
