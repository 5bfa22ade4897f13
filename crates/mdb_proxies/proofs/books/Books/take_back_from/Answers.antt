use Rattle.std.proofs.Common.{◌<◌, ◌≤◌, ℕ, length, Option, sym, ap, ◌∙◌, arith}
use Rattle.std.proofs.Math.ListN.{set}
use Rattle.mdb_proxies.specs.declared.asked.Note.{Note}
use Rattle.mdb_proxies.specs.Tables.{taken_back, noted_at}
use Rattle.mdb_proxies.proofs.Noted.{set-map, map-past}
use Rattle.mdb_proxies.proofs.books.Books.take_back_from.Goals as goal

pub returns-then-place-len-clause-notes : goal.returns-then-place-len-clause-notes
returns-then-place-len-clause-notes c =
    let ns = c.args.self.now.notes.items in
    let here : c.in-Some.place < length ns = omega (arith, c.if-place-len.true, c.len.ensures, c.args.self.now.notes.ok.0) in
    ap (λ (n : Note). set ns c.in-Some.place n) c.taken_back.ensures ∙ set-map taken_back ns c.in-Some.place c.index-note.result.now here c.index-note.ensures ∙ ap (λ (o : Option ℕ). noted_at o taken_back ns) c.in-Some.ensures

pub returns-else-place-len-clause-notes : goal.returns-else-place-len-clause-notes
returns-else-place-len-clause-notes c =
    let ns = c.args.self.now.notes.items in
    let past : length ns ≤ c.in-Some.place = omega (arith, c.if-place-len.false, c.len.ensures, c.args.self.now.notes.ok.0) in
    sym (map-past taken_back ns c.in-Some.place past) ∙ ap (λ (o : Option ℕ). noted_at o taken_back ns) c.in-Some.ensures
