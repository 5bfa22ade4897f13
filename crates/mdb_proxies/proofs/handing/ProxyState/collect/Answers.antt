use Rattle.std.proofs.Common.{◌≡◌, ℕ, true, not, Option, is_some, sym, ap, ◌∙◌}
use Rattle.mdb_proxies.specs.Charge.{is_held}
use Rattle.mdb_proxies.proofs.Entering.{held-at}
use Rattle.mdb_proxies.proofs.Collects.{spot, spot-handed, spot-entry, collect-held, kept-is, if-ok, released, asked-core}
use Rattle.mdb_proxies.proofs.Sounds.{caught}
use Rattle.mdb_proxies.proofs.handing.ProxyState.collect.Goals as goal

pub returns-in_default-clause-ok : goal.returns-in_default-clause-ok
returns-in_default-clause-ok g c =
    let s = c.args.self.now in
    let f = spot s.log s.books c.args.request c.unwrap_or-place.result c.place.result c.place.ensures c.unwrap_or-place.ensures c.requires.sound.keeps c.requires.sound.noted c.requires.collectable in
    let note = spot-handed s.log s.books c.args.request c.unwrap_or-place.result c.handed.result f c.handed.ensures in
    let held : is_held s.log f.ask ≡ true = held-at s.log f.ask c.handed.result note ∙ ap (λ (p : Option ℕ). not (is_some p)) c.in_default.is in
    rw c.in_ok-catch_up.ensures.asks (collect-held c.args.moment s.shares.items s.books.asks.items s.log c.catch_up.new.self.log c.args.request f.ask f.placed.of held c.catch_up.ensures.goes_on)

pub kept-requires-clause-place : goal.kept-requires-clause-place
kept-requires-clause-place g c κs within =
    let s = c.args.self.now in
    let f = spot s.log s.books c.args.request c.unwrap_or-place.result c.place.result c.place.ensures c.unwrap_or-place.ensures c.requires.sound.keeps c.requires.sound.noted c.requires.collectable in
    f.placed.within

pub kept-requires-clause-at : goal.kept-requires-clause-at
kept-requires-clause-at g c κs within =
    let s = c.args.self.now in
    let f = spot s.log s.books c.args.request c.unwrap_or-place.result c.place.result c.place.ensures c.unwrap_or-place.ensures c.requires.sound.keeps c.requires.sound.noted c.requires.collectable in
    let note = spot-handed s.log s.books c.args.request c.unwrap_or-place.result c.handed.result f c.handed.ensures in
    let e = spot-entry s.log s.books c.args.request c.unwrap_or-place.result c.in-Some.at c.handed.result f c.requires.sound.keeps c.in-Some.is note in
    e.0.within

pub release-requires-clause-place : goal.release-requires-clause-place
release-requires-clause-place g c κs within =
    let s = c.args.self.now in
    let f = spot s.log s.books c.args.request c.unwrap_or-place.result c.place.result c.place.ensures c.unwrap_or-place.ensures c.requires.sound.keeps c.requires.sound.noted c.requires.collectable in
    f.placed.within

pub ask_core-requires-clause-place : goal.ask_core-requires-clause-place
ask_core-requires-clause-place g c κs within =
    let s = c.args.self.now in
    let f = spot s.log s.books c.args.request c.unwrap_or-place.result c.place.result c.place.ensures c.unwrap_or-place.ensures c.requires.sound.keeps c.requires.sound.noted c.requires.collectable in
    f.placed.within

pub returns-in-Some-2-clause-ok : goal.returns-in-Some-2-clause-ok
returns-in-Some-2-clause-ok g c =
    let s = c.args.self.now in
    let f = spot s.log s.books c.args.request c.unwrap_or-place.result c.place.result c.place.ensures c.unwrap_or-place.ensures c.requires.sound.keeps c.requires.sound.noted c.requires.collectable in
    let note = spot-handed s.log s.books c.args.request c.unwrap_or-place.result c.handed.result f c.handed.ensures in
    let e = spot-entry s.log s.books c.args.request c.unwrap_or-place.result c.in-Some.at c.handed.result f c.requires.sound.keeps c.in-Some.is note in
    let k = kept-is s.log s.books c.args.request c.unwrap_or-place.result c.in-Some.at c.in_ok-kept.field-0 f e.0 c.in_ok-kept.ensures in
    if-ok c.release.result (released c.args.moment s.shares.items s.log c.release.new.self.log s.books c.args.request c.unwrap_or-place.result c.in-Some-2.kept c.release.new.self.books.asks.items f e.1 (sym k ∙ c.in-Some-2.is)) c.release.ensures.ok

pub returns-in-None-clause-ok : goal.returns-in-None-clause-ok
returns-in-None-clause-ok g c =
    let s = c.args.self.now in
    let f = spot s.log s.books c.args.request c.unwrap_or-place.result c.place.result c.place.ensures c.unwrap_or-place.ensures c.requires.sound.keeps c.requires.sound.noted c.requires.collectable in
    let note = spot-handed s.log s.books c.args.request c.unwrap_or-place.result c.handed.result f c.handed.ensures in
    let e = spot-entry s.log s.books c.args.request c.unwrap_or-place.result c.in-Some.at c.handed.result f c.requires.sound.keeps c.in-Some.is note in
    let k = kept-is s.log s.books c.args.request c.unwrap_or-place.result c.in-Some.at c.in_ok-kept.field-0 f e.0 c.in_ok-kept.ensures in
    if-ok c.ask_core.result (asked-core c.args.moment s.shares.items s.log c.ask_core.new.self.log s.books c.args.request c.unwrap_or-place.result c.ask_core.new.self.books.asks.items f e.1 (sym k ∙ c.in-None.is)) c.ask_core.ensures.ok

pub returns-in_default-clause-behind : goal.returns-in_default-clause-behind
returns-in_default-clause-behind g c =
    let s = c.args.self.now in
    let n = c.catch_up.new.self in
    let b = c.catch_up.ensures.behind in
    rw c.catch_up.ensures.shares (caught s.behind n.behind s.shares.items s.books n.books ((rw c.catch_up.ensures.shares at b).0, (λ f. let p = b.1 f in (p.0, p.2))) c.requires.behind)
