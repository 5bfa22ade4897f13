use Rattle.std.proofs.Common.{◌≡◌, ◌+◌, ◌-◌, true, [], ◌∷◌, ◌++◌, length-append, arith, length, sym, ap, ◌∙◌, refl}
use Rattle.std.proofs.lemmas.Bool.Decides.{Decides-eqb}
use Rattle.mdb_log.specs.declared.step.Step.{Step}
use Rattle.mdb_proxies.specs.Charge.{requests}
use Rattle.mdb_proxies.specs.Tables.{some_may_go, standing_of, standings, note_of, notes_of}
use Rattle.mdb_proxies.proofs.Noted.{notes-append}
use Rattle.mdb_proxies.proofs.Sounds.{sound-back, sound-refused, sound-begun}
use Rattle.mdb_proxies.proofs.Freeing.{only-begun}
use Rattle.mdb_proxies.proofs.Begins.{last-same, last-entry, begun-refused, begun-taken, last-told}
use Rattle.mdb_proxies.proofs.handing.ProxyState.begin.Goals as goal

pub returns-in-Err-clause-sound : goal.returns-in-Err-clause-sound
returns-in-Err-clause-sound g c =
    let s = c.args.self.now in
    let n = c.hand_on_newest-handed.new.self in
    let r = c.requires.recorded in
    let t = c.take_back.ensures in
    let e = c.in-Err.ensures.err in
    let asks : n.books.asks.items ≡ r.before ++ r.newest ∷ [] = rw e.1 r.asks in
    let standing : n.books.standing.items ≡ standings s.log r.before ++ standing_of r.newest true ∷ [] = rw e.1 r.standing in
    let notes : n.books.notes.items ≡ notes_of s.log r.before ++ note_of s.log r.newest ∷ [] = rw e.1 (r.sound.noted ∙ ap (notes_of s.log) r.asks ∙ notes-append s.log r.before r.newest) in
    rw (e.0, c.in-Err.ensures.shares)
    (sound-back s.log s.shares.items n.books c.take_back.new.self r.before r.newest asks standing (rw e.1 r.sound) (t.asks r.before r.newest asks)
    (t.standing (standings s.log r.before) (standing_of r.newest true) standing) (t.notes (notes_of s.log r.before) (note_of s.log r.newest) notes) (t.known r.before r.newest asks))

pub returns-in-Err-clause-behind : goal.returns-in-Err-clause-behind
returns-in-Err-clause-behind g c =
    let s = c.args.self.now in
    let n = c.hand_on_newest-handed.new.self in
    let r = c.requires.recorded in
    let e = c.in-Err.ensures.err in
    let standing : n.books.standing.items ≡ standings s.log r.before ++ standing_of r.newest true ∷ [] = rw e.1 r.standing in
    let left = c.take_back.ensures.standing (standings s.log r.before) (standing_of r.newest true) standing in
    rw c.in-Err.ensures.shares (c.in-Err.ensures.behind ∙ sym (ap (some_may_go s.shares.items) left ∙ r.is_behind))

pub returns-in-Err-clause-err : goal.returns-in-Err-clause-err
returns-in-Err-clause-err g c = (c.in-Err.ensures.err.0, λ xs x h. c.take_back.ensures.asks xs x ((rw c.in-Err.ensures.asks refl) ∙ h))

pub returns-then-is_refused-clause-sound : goal.returns-then-is_refused-clause-sound
returns-then-is_refused-clause-sound g c =
    let s = c.args.self.now in
    let n = c.hand_on_newest-handed.new.self in
    let r = c.requires.recorded in
    let f = c.forget.ensures in
    let i = c.in-Ok.ensures in
    let at : length s.books.standing.items - 1 + 1 ≡ length s.books.standing.items = omega (arith, ap length r.standing, length-append (standings s.log r.before) (standing_of r.newest true ∷ [])) in
    let asks : n.books.asks.items ≡ r.before ++ r.newest ∷ [] = rw i.asks r.asks in
    rw i.shares
    (sound-refused s.log n.log s.shares.items s.books c.forget.new.self r.before r.newest n.books.standing.items c.args.moment (length s.books.standing.items - 1) i.ok.0 c.in-Ok.handed.0 r.asks r.standing r.sound at i.ok.1 i.ok.2
    (sym c.is_refused.ensures ∙ c.if-is_refused.true) (f.asks r.before r.newest asks) (rw f.standing refl)
    (f.notes (notes_of n.log r.before) (note_of n.log r.newest) (i.noted ∙ ap (notes_of n.log) asks ∙ notes-append n.log r.before r.newest)) (λ q. f.known r.before r.newest asks q ∙ (rw i.known refl))).sound

pub returns-then-is_refused-clause-behind : goal.returns-then-is_refused-clause-behind
returns-then-is_refused-clause-behind g c =
    let s = c.args.self.now in
    let n = c.hand_on_newest-handed.new.self in
    let r = c.requires.recorded in
    let f = c.forget.ensures in
    let i = c.in-Ok.ensures in
    let at : length s.books.standing.items - 1 + 1 ≡ length s.books.standing.items = omega (arith, ap length r.standing, length-append (standings s.log r.before) (standing_of r.newest true ∷ [])) in
    let asks : n.books.asks.items ≡ r.before ++ r.newest ∷ [] = rw i.asks r.asks in
    let same = (sound-refused s.log n.log s.shares.items s.books c.forget.new.self r.before r.newest n.books.standing.items c.args.moment (length s.books.standing.items - 1) i.ok.0 c.in-Ok.handed.0 r.asks r.standing r.sound at i.ok.1 i.ok.2
    (sym c.is_refused.ensures ∙ c.if-is_refused.true) (f.asks r.before r.newest asks) (rw f.standing refl)
    (f.notes (notes_of n.log r.before) (note_of n.log r.newest) (i.noted ∙ ap (notes_of n.log) asks ∙ notes-append n.log r.before r.newest)) (λ q. f.known r.before r.newest asks q ∙ (rw i.known refl))).same in
    rw i.shares (i.behind ∙ sym r.is_behind ∙ ap (some_may_go s.shares.items) (sym same))

pub returns-then-is_refused-clause-ok : goal.returns-then-is_refused-clause-ok
returns-then-is_refused-clause-ok g c = λ xs x h.
    let s = c.args.self.now in
    let n = c.hand_on_newest-handed.new.self in
    let r = c.requires.recorded in
    let i = c.in-Ok.ensures in
    let l = last-same r.before xs r.newest x (sym r.asks ∙ h) in
    let at : length s.books.standing.items - 1 + 1 ≡ length s.books.standing.items = omega (arith, ap length r.standing, length-append (standings s.log r.before) (standing_of r.newest true ∷ [])) in
    let is = last-entry c.args.moment (length s.books.standing.items - 1) i.ok.0 c.in-Ok.handed.0 s.log n.log (standings s.log r.before) s.books.standing.items n.books.standing.items r.newest r.standing at i.ok.1 i.ok.2 in
    begun-refused c.args.moment s.shares.items xs c.forget.new.self.asks.items x s.log n.log c.in-Ok.handed.0 i.ok.2.entry (rw l.1 at is) i.ok.2.grown (sym c.is_refused.ensures ∙ c.if-is_refused.true) (c.forget.ensures.asks xs x ((rw i.asks refl) ∙ h))

pub go_on-requires-clause-sound : goal.go_on-requires-clause-sound
go_on-requires-clause-sound g c κs within =
    let s = c.args.self.now in
    let n = c.hand_on_newest-handed.new.self in
    let r = c.requires.recorded in
    let t = c.tell_newest.ensures in
    let i = c.in-Ok.ensures in
    let at : length s.books.standing.items - 1 + 1 ≡ length s.books.standing.items = omega (arith, ap length r.standing, length-append (standings s.log r.before) (standing_of r.newest true ∷ [])) in
    let asks : n.books.asks.items ≡ r.before ++ r.newest ∷ [] = rw i.asks r.asks in
    rw i.shares
    (sound-begun s.log n.log s.shares.items s.books c.tell_newest.new.self r.before r.newest n.books.standing.items c.args.moment (length s.books.standing.items - 1) i.ok.0 c.in-Ok.handed.0 r.standing r.sound r.is_off at i.ok.1 i.ok.2
    (rw (r.asks, t.asks r.before r.newest asks) (last-told r.before r.newest c.tells-told.result)) (rw t.standing refl) (rw (t.notes, ← i.asks) i.noted) (t.known ∙ i.known))

pub go_on-requires-clause-only : goal.go_on-requires-clause-only
go_on-requires-clause-only g c κs within =
    let s = c.args.self.now in
    let n = c.hand_on_newest-handed.new.self in
    let r = c.requires.recorded in
    let i = c.in-Ok.ensures in
    let at : length s.books.standing.items - 1 + 1 ≡ length s.books.standing.items = omega (arith, ap length r.standing, length-append (standings s.log r.before) (standing_of r.newest true ∷ [])) in
    let is = last-entry c.args.moment (length s.books.standing.items - 1) i.ok.0 c.in-Ok.handed.0 s.log n.log (standings s.log r.before) s.books.standing.items n.books.standing.items r.newest r.standing at i.ok.1 i.ok.2 in
    let asked : requests r.newest.request i.ok.2.entry.step.act ≡ true = ap (λ (t : Step). requests r.newest.request t.act) is.1 ∙ (Decides-eqb r.newest.request r.newest.request).1 refl in
    rw (c.or_anywhere-freed.ensures, c.tell_newest.ensures.standing, i.shares, i.behind)
    (only-begun s.shares.items i.ok.2.entry (standings s.log r.before) s.books.standing.items n.books.standing.items (standing_of r.newest true) c.in-Ok.handed.1 s.behind r.standing i.ok.2.after refl asked i.freed r.is_behind)

pub returns-clause-ok : goal.returns-clause-ok
returns-clause-ok g c = λ xs x h.
    let s = c.args.self.now in
    let n = c.hand_on_newest-handed.new.self in
    let r = c.requires.recorded in
    let i = c.in-Ok.ensures in
    let l = last-same r.before xs r.newest x (sym r.asks ∙ h) in
    let at : length s.books.standing.items - 1 + 1 ≡ length s.books.standing.items = omega (arith, ap length r.standing, length-append (standings s.log r.before) (standing_of r.newest true ∷ [])) in
    let is = last-entry c.args.moment (length s.books.standing.items - 1) i.ok.0 c.in-Ok.handed.0 s.log n.log (standings s.log r.before) s.books.standing.items n.books.standing.items r.newest r.standing at i.ok.1 i.ok.2 in
    begun-taken c.args.moment s.shares.items xs c.go_on.new.self.books.asks.items x s.log n.log c.go_on.new.self.log c.in-Ok.handed.0 c.tells-told.result i.ok.2.entry (rw l.1 at is) i.ok.2.grown (sym c.is_refused.ensures ∙ c.if-is_refused.false) c.tells-told.ensures
    ((rw c.go_on.ensures.asks refl) ∙ c.tell_newest.ensures.asks xs x ((rw i.asks refl) ∙ h)) (rw (i.shares, ← c.go_on.ensures.asks) at c.go_on.ensures.goes_on)
