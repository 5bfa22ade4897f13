use Rattle.std.proofs.Common.{Bool, false, not, if◌then◌else◌, refl, sym, ap, ◌∙◌, arith}
use Rattle.mdb_proxies.specs.declared.asked.Asked.{Asked}
use Rattle.mdb_proxies.specs.declared.asked.Note.{Note}
use Rattle.mdb_proxies.specs.Replies.{is_collectable}
use Rattle.mdb_proxies.specs.Telling.{is_finished}
use Rattle.mdb_proxies.specs.Tables.{blank}
use Rattle.mdb_proxies.proofs.Entering.{not-found, found-at, collectable-at}
use Rattle.mdb_proxies.proofs.books.Books.is_collectable.Goals as goal

pub returns-in-None : goal.returns-in-None
returns-in-None c = λ log keeps notes. sym (ap (is_collectable log) (not-found log c.args.self.now c.args.request keeps (sym c.in-None.ensures)))

pub returns-then-is_untold : goal.returns-then-is_untold
returns-then-is_untold c = λ log keeps notes.
    let b = c.args.self.now in
    let f = found-at log b c.args.request c.in-Some.place keeps notes (sym c.in-Some.ensures) in
    let u = c.is_untold.ensures f.placed.within f.ask ∙ ap (λ (x : Asked). not x.told) (f.placed.at f.ask) in
    let t = c.is_returned.ensures (omega (arith, f.placed.within, f.among)) blank ∙ ap (λ (n : Note). n.returned) (f.noted blank) in
    ap (λ (x : Bool). if x then not c.is_returned.result else false) (sym c.if-is_untold.true) ∙ collectable-at log b c.args.request c.in-Some.place c.is_untold.result c.is_returned.result f u t

pub returns-else-is_untold : goal.returns-else-is_untold
returns-else-is_untold c = λ log keeps notes.
    let b = c.args.self.now in
    let f = found-at log b c.args.request c.in-Some.place keeps notes (sym c.in-Some.ensures) in
    let u = c.is_untold.ensures f.placed.within f.ask ∙ ap (λ (x : Asked). not x.told) (f.placed.at f.ask) in
    c.if-is_untold.false ∙ ap (λ (x : Bool). if x then not (is_finished log f.ask) else false) (sym c.if-is_untold.false) ∙ collectable-at log b c.args.request c.in-Some.place c.is_untold.result (is_finished log f.ask) f u refl
