use Rattle.std.proofs.Common.{◌<◌, ◌≤◌, ℕ, length, Option, sym, ap, ◌∙◌, arith}
use Rattle.std.proofs.Math.ListN.{set}
use Rattle.mdb_proxies.specs.declared.asked.Note.{Note}
use Rattle.mdb_proxies.specs.Tables.{handed_at, noted_at}
use Rattle.mdb_proxies.proofs.Noted.{set-map, map-past}
use Rattle.mdb_proxies.proofs.books.Books.hand.Goals as goal

pub returns-then-place-len-clause-notes : goal.returns-then-place-len-clause-notes
returns-then-place-len-clause-notes c =
    let ns = c.args.self.now.notes.items in
    let here : c.in-Some.place < length ns = omega (arith, c.if-place-len.true, c.len.ensures, c.args.self.now.notes.ok.0) in
    ap (λ (n : Note). set ns c.in-Some.place n) c.handed_at.ensures ∙ set-map (handed_at c.args.at) ns c.in-Some.place c.index-note.result.now here c.index-note.ensures ∙ ap (λ (o : Option ℕ). noted_at o (handed_at c.args.at) ns) c.in-Some.ensures

pub returns-else-place-len-clause-notes : goal.returns-else-place-len-clause-notes
returns-else-place-len-clause-notes c =
    let ns = c.args.self.now.notes.items in
    let past : length ns ≤ c.in-Some.place = omega (arith, c.if-place-len.false, c.len.ensures, c.args.self.now.notes.ok.0) in
    sym (map-past (handed_at c.args.at) ns c.in-Some.place past) ∙ ap (λ (o : Option ℕ). noted_at o (handed_at c.args.at) ns) c.in-Some.ensures
