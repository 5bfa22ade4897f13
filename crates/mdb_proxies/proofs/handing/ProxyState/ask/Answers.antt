use Rattle.std.proofs.Common.{true, false, sym, ◌∙◌}
use Rattle.mdb_proxies.proofs.Sounds.{recorded}
use Rattle.mdb_proxies.proofs.handing.ProxyState.ask.Goals as goal

pub hold-requires-clause-recorded : goal.hold-requires-clause-recorded
hold-requires-clause-recorded g c κs within =
    let s = c.args.self.now in
    let e = c.in_ok-record.ensures in
    recorded s.log s.shares.items s.books c.record.new.self c.args.ask true s.behind c.requires.sound c.requires.fresh c.requires.made e.asks e.standing e.notes e.known (sym c.is_off-off.ensures ∙ c.if-off.true) c.requires.behind

pub begin-requires-clause-recorded : goal.begin-requires-clause-recorded
begin-requires-clause-recorded g c κs within =
    let s = c.args.self.now in
    let e = c.in_ok-record.ensures in
    recorded s.log s.shares.items s.books c.record.new.self c.args.ask false s.behind c.requires.sound c.requires.fresh c.requires.made e.asks e.standing e.notes e.known (sym c.is_off-off.ensures ∙ c.if-off.false) c.requires.behind
