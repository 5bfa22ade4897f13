use Rattle.std.proofs.Common.{◌∙◌, map-id, sym, ap, arith, rules}
use Rattle.std.proofs.lemmas.List.{length_push}
use Rattle.std.proofs.lemmas.Iterator.Consumers.{YieldsList-turn, YieldsList-end}
use Rattle.std.proofs.lemmas.Iterator.Adapters.{YieldsList-from_vec}
use Rattle.mdb_describe.specs.Joining.{join}
use Rattle.mdb_describe.proofs.Parts.{joined_last}
use Rattle.mdb_describe.proofs.carrying.join_all.Goals as goal

pub join_within-requires : goal.join_within-requires
join_within-requires c =
    let inv = c.loop-server.invariant in
    let turn = YieldsList-turn (YieldsList-from_vec {s = c.into_iter-server-iterator.result} c.args.unknowns.items (search rules) (search rules))
    c.loop-server.yielded c.loop-server.server-iterator c.loop-server.yielded_by c.next.result c.next.new.self c.in-Some.server c.in-Some.is c.next.ensures.steps in
    omega (arith, turn.0, inv.1, inv.2, c.requires)

pub loop-server-preserved : goal.loop-server-preserved
loop-server-preserved c =
    let inv = c.loop-server.invariant in (
      c.join_within.ensures.joined ∙ ap (join c.in-Some.server) inv.0 ∙ sym (joined_last c.loop-server.yielded c.in-Some.server c.args.servers.now.items),
      omega (arith, length_push c.loop-server.yielded c.in-Some.server, c.join_within.ensures.len, inv.1),
      omega (arith, c.join_within.ensures.room, inv.2),
    )

pub returns : goal.returns
returns c =
    let end = YieldsList-end (YieldsList-from_vec {s = c.into_iter-server-iterator.result} c.args.unknowns.items (search rules) (search rules))
    c.loop-server.yielded c.loop-server.server-iterator c.loop-server.yielded_by c.next.result c.next.new.self c.in-None.is c.next.ensures.steps in
    rw (← end.0, map-id) c.loop-server.invariant.0
