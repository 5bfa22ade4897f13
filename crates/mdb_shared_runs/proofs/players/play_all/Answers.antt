use denote.Exit.{yes}
use denote.Param.{param}
use denote.Param.Send.{param_send, param_sync, arg_send, arg_sync, sendable}
use Rattle.std.proofs.Common.{◌∙◌, ap, sym, rules}
use Rattle.mdb_shared_runs.specs.contracts.player.Played as Played
use Rattle.mdb_shared_runs.proofs.Crossing.{players, played_crosses, closure_lends, steps}
use Rattle.mdb_shared_runs.proofs.Joined.{job_fits, all_did, if_both}
use Rattle.mdb_shared_runs.proofs.players.play_all.Goals as goal

pub map_vec-requires-send-J : goal.map_vec-requires-send-J
map_vec-requires-send-J g c κs within = search players depth 20

pub map_vec-requires-send-X : goal.map_vec-requires-send-X
map_vec-requires-send-X g c κs within = param_send 2 _ (arg_send _ yes (Played.the_row (param 0 g.row.C) g.C.Core) (played_crosses (param 0 g.row.C) g.C.Core c.type_bounds.send-C))

pub map_vec-requires-sync-F : goal.map_vec-requires-sync-F
map_vec-requires-sync-F g c κs within =
    param_sync 4 _ (arg_sync _ yes _ (closure_lends (param 0 g.row.C) g.C.Core _ _ _ _ _ _ _ _ _ _ _ _ c.type_bounds.send-C c.type_bounds.sync-R c.type_bounds.sync-G steps))

pub map_vec-requires-after_bounds : goal.map_vec-requires-after_bounds
map_vec-requires-after_bounds g c κs within = λ i x low at.
    let f = job_fits c.args.driver.now.id c.args.driver.now.base c.args.lines.players c.args.seats.items c.in_ok-players.players.items c.requires.fresh c.in_ok-players.ensures i x low at in
    (ap (λ s. s.driver) f.1, (ap (λ s. s.number) f.1 ∙ sym f.0, (c.requires.acts, (c.requires.few, (c.requires.players.0, (search sendable, search sendable, search sendable))))))

pub returns : goal.returns
returns g c =
    if_both c.all_seats.result c.all_seats.ensures.seats c.all_seats.ensures.all
    (λ after is ok.
    all_did c.args.driver.now.id c.args.driver.now.base c.args.lines.players c.args.lines.steps.now c.args.seats.items c.in_ok-players.players.items c.in_ok-ended.ended.items after.items
    c.requires.fresh c.in_ok-players.ensures (search rules)
    (λ i d low. let p = (c.in_ok-ended.ensures.each i d low).1 in let m = p.call.met in (p.job, p.job_read, (m.0.0, m.0.1, m.1))) ok is)
