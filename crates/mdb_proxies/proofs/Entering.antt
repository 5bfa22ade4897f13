-- One more entry leaves the books those of the log.
use Rattle.std.proofs.Common.{◌≡◌, ℕ, Bool, true, false, not, ◌&&◌, List, [], ◌∷◌, ◌++◌, length, nat_eq, get_or, Option, Some, None, is_some, refl, sym, ap, ◌∙◌, arith, length-drop, ◌≤◌, ◌<◌, if◌then◌else◌}
use Rattle.std.specs.HashMap.{get}
use Rattle.std.proofs.lemmas.List.{get_or-drop}
use Rattle.mdb_log.specs.declared.log.Entry.{Entry}
use Rattle.mdb_proxies.specs.declared.asked.Asked.{Asked}
use Rattle.mdb_proxies.specs.declared.asked.Note.{Note}
use Rattle.mdb_proxies.specs.declared.books.Books.{Books}
use Rattle.mdb_proxies.specs.Charge.{since, is_held}
use Rattle.mdb_proxies.specs.Telling.{ask_of, is_finished, reply_to}
use Rattle.mdb_proxies.specs.Replies.{is_collectable}
use Rattle.mdb_proxies.specs.Tables.{KeptBy, NotedBy, noted, note_of, after_entry, place_of}
use Rattle.mdb_proxies.proofs.Kept.{keeps-entered}
use Rattle.mdb_proxies.proofs.Noted.{noted-is, length-notes}
use Rattle.mdb_proxies.proofs.Places.{Placed, placed, unplaced, note-at, hander, requested-by}

pub record Entering (more : List Entry) (b : Books) : Type 0 where
  pub keeps : KeptBy more b
  pub noted : NotedBy more b

pub entering : (log more : List Entry) (e n : Entry) (b c : Books) → more ≡ log ++ e ∷ [] → n ≡ e → c.standing.items ≡ after_entry n b.standing.items
    → c.notes.items ≡ noted n (length log) (λ r. get nat_eq b.known r) b.notes.items → c.asks ≡ b.asks → c.known ≡ b.known → KeptBy log b → NotedBy log b → Entering more c
entering log more e n b c g i s t a k keeps notes = record {
  keeps = rw (a, k) (keeps-entered log more e b.standing.items c.standing.items b.asks.items (λ r. get nat_eq b.known r) g (s ∙ ap (λ (x : Entry). after_entry x b.standing.items) i) keeps);
  noted = t ∙ ap (λ (x : Entry). noted x (length log) (λ r. get nat_eq b.known r) b.notes.items) i
      ∙ ap (λ (ns : List Note). noted e (length log) (λ r. get nat_eq b.known r) ns) notes
      ∙ sym (noted-is log e b.asks.items (λ r. get nat_eq b.known r) keeps.made keeps.single keeps.placed)
      ∙ (rw (a, g) refl);
}

-- ---- what the notes say of the ask of a number

-- what is found by the number of an ask that was made
pub record FoundAt (log : List Entry) (b : Books) (r i : ℕ) : Type 0 where
  pub ask : Asked
  pub placed : Placed r b.asks.items i ask
  pub noted : (n : Note) → get_or b.notes.items i n ≡ note_of log ask
  pub among : length b.notes.items ≡ length b.asks.items
  pub named : place_of r b.asks.items ≡ Some i

pub found-at : (log : List Entry) (b : Books) (r i : ℕ) → KeptBy log b → NotedBy log b → get nat_eq b.known r ≡ Some i → FoundAt log b r i
found-at log b r i keeps notes h =
    let p = placed r i b.asks.items (sym (keeps.placed r) ∙ h) in
    record {
      ask = p.0;
      placed = p.1;
      noted = λ n. ap (λ (ns : List Note). get_or ns i n) notes ∙ note-at log b.asks.items i p.0 p.1.within p.1.at n;
      among = ap length notes ∙ length-notes log b.asks.items;
      named = sym (keeps.placed r) ∙ h;
    }

pub not-found : (log : List Entry) (b : Books) (r : ℕ) → KeptBy log b → get nat_eq b.known r ≡ None → ask_of r b.asks.items ≡ None
not-found log b r keeps h = unplaced r b.asks.items (sym (keeps.placed r) ∙ h)

and-if : (a b : Bool) → (if a then b else false) ≡ (a && b)
and-if true b = refl
and-if false b = refl

-- an ask may be collected that is there, untold and not returned
pub collectable-at : (log : List Entry) (b : Books) (r i : ℕ) (untold returned : Bool) → (f : FoundAt log b r i) → untold ≡ not f.ask.told → returned ≡ is_finished log f.ask → (if untold then not returned else false) ≡ is_collectable log (ask_of r b.asks.items)
collectable-at log b r i untold returned f u t = rw (u, t, f.placed.of) (and-if (not f.ask.told) (not (is_finished log f.ask)))

-- an ask is held back where the notes name no entry that handed it on
pub held-at : (log : List Entry) (x : Asked) (o : Option ℕ) → o ≡ (note_of log x).handed → is_held log x ≡ not (is_some o)
held-at log x o h = ap not (sym (requested-by x.request x.entries (since log x))) ∙ ap (λ (p : Option ℕ). not (is_some p)) (sym h)

-- the entry that handed an ask on, by its place in the log
pub record HandedBy (log : List Entry) (x : Asked) (i : ℕ) : Type 0 where
  pub within : i < length log
  pub replied : (d : Entry) → reply_to x.request (since log x) ≡ Some (get_or log i d).reply

pub handed-by : (log : List Entry) (x : Asked) (i : ℕ) → x.entries ≤ length log → (note_of log x).handed ≡ Some i → HandedBy log x i
handed-by log x i m h =
    let p = hander x.request x.entries i (since log x) h in
    record {
      within = omega (arith, p.is, p.within, m, length-drop x.entries log);
      replied = λ d. p.replied d ∙ ap (λ (e : Entry). Some e.reply) (get_or-drop x.entries log p.behind d ∙ ap (λ (k : ℕ). get_or log k d) (sym p.is));
    }
