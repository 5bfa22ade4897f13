use Rattle.std.proofs.Common.{◌≡◌, true, [], ◌∷◌, ◌++◌, refl, sym, ap, ◌∙◌}
use Rattle.mdb_proxies.specs.declared.books.Books.{Books}
use Rattle.mdb_proxies.specs.Tables.{some_may_go, standing_of, standings, note_of, notes_of}
use Rattle.mdb_proxies.proofs.Noted.{notes-append}
use Rattle.mdb_proxies.proofs.Sounds.{sound-back, held-behind}
use Rattle.mdb_proxies.proofs.handing.ProxyState.hold.Goals as goal

pub returns-in-Ok-clause-behind : goal.returns-in-Ok-clause-behind
returns-in-Ok-clause-behind g c =
    let s = c.args.self.now in
    let n = c.catch_up.new.self in
    let r = c.requires.recorded in
    rw c.catch_up.ensures.shares
    (held-behind s.behind n.behind s.shares.items (standings s.log r.before) s.books.standing.items n.books.standing.items (standing_of r.newest true)
    ((rw c.catch_up.ensures.shares at c.catch_up.ensures.behind).0, (λ f. let p = c.catch_up.ensures.behind.1 f in (p.0, ap (λ (b : Books). b.standing.items) p.2))) r.standing refl r.is_off r.is_behind)

pub returns-in-Ok-clause-ok : goal.returns-in-Ok-clause-ok
returns-in-Ok-clause-ok g c = λ xs x h.
    let e = c.catch_up.ensures in
    record { asks = (rw e.asks refl) ∙ h; replied = (refl, rw e.asks e.goes_on) }

pub returns-in-Err-clause-sound : goal.returns-in-Err-clause-sound
returns-in-Err-clause-sound g c =
    let s = c.args.self.now in
    let n = c.catch_up.new.self in
    let r = c.requires.recorded in
    let t = c.take_back.ensures in
    let e = c.in-Err.ensures.err in
    let asks : n.books.asks.items ≡ r.before ++ r.newest ∷ [] = rw e.1 r.asks in
    let standing : n.books.standing.items ≡ standings s.log r.before ++ standing_of r.newest true ∷ [] = rw e.1 r.standing in
    let notes : n.books.notes.items ≡ notes_of s.log r.before ++ note_of s.log r.newest ∷ [] = rw e.1 (r.sound.noted ∙ ap (notes_of s.log) r.asks ∙ notes-append s.log r.before r.newest) in
    rw (e.0, c.catch_up.ensures.shares)
    (sound-back s.log s.shares.items n.books c.take_back.new.self r.before r.newest asks standing (rw e.1 r.sound) (t.asks r.before r.newest asks)
    (t.standing (standings s.log r.before) (standing_of r.newest true) standing) (t.notes (notes_of s.log r.before) (note_of s.log r.newest) notes) (t.known r.before r.newest asks))

pub returns-in-Err-clause-behind : goal.returns-in-Err-clause-behind
returns-in-Err-clause-behind g c =
    let s = c.args.self.now in
    let n = c.catch_up.new.self in
    let r = c.requires.recorded in
    let e = c.in-Err.ensures.err in
    let standing : n.books.standing.items ≡ standings s.log r.before ++ standing_of r.newest true ∷ [] = rw e.1 r.standing in
    let left = c.take_back.ensures.standing (standings s.log r.before) (standing_of r.newest true) standing in
    rw c.catch_up.ensures.shares (e.3 ∙ sym (ap (some_may_go s.shares.items) left ∙ r.is_behind ∙ e.2))

pub returns-in-Err-clause-err : goal.returns-in-Err-clause-err
returns-in-Err-clause-err g c = (c.in-Err.ensures.err.0, λ xs x h. c.take_back.ensures.asks xs x ((rw c.catch_up.ensures.asks refl) ∙ h))
