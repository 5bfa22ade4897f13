-- The notes of asks are those of the log, after one more entry too.
use Rattle.std.proofs.Common.{◌≡◌, ℕ, ◌+◌, ◌≤◌, ◌<◌, Bool, true, false, not, ◌&&◌, ◌||◌, if◌then◌else◌, ◌==◌, List, [], ◌∷◌, ◌++◌, length, get_or, drop, Option, Some, None, is_some, option_map, refl, sym, ap, ◌∙◌, subst, arith, add-one, length-drop, suc, zero}
use Rattle.std.proofs.Math.ListN.{set}
use Rattle.std.proofs.Math.Seq.{drop-length}
use Rattle.std.proofs.lemmas.Bool.Decides.{Decides-eqb}
use Rattle.std.proofs.lemmas.Bool.{not-true}
use Rattle.mdb_log.specs.declared.step.Act.{Act}
use Rattle.mdb_log.specs.declared.step.Act.TheVariants.{Request, Return}
use Rattle.mdb_log.specs.declared.log.Entry.{Entry}
use Rattle.mdb_log.specs.Driver.{is_refusal}
use Rattle.mdb_proxies.specs.declared.asked.Asked.{Asked}
use Rattle.mdb_proxies.specs.declared.asked.Note.{Note}
use Rattle.mdb_proxies.specs.Charge.{requests, returns, since}
use Rattle.mdb_proxies.specs.Recording.{SameAsks}
use Rattle.mdb_proxies.specs.Telling.{takes_back, is_returned}
use Rattle.mdb_proxies.specs.Tables.{blank, place_from, note_of, notes_of, handed_at, taken_back, map_at, noted_at, noted_by, noted, is_fresh, place_of, AreSingle, AreMade}
use Rattle.mdb_proxies.proofs.Bools.{left, right}
use Rattle.mdb_proxies.proofs.Logged.{since-more, or-assoc, or-none}

place-more : (r n m : ℕ) (es : List Entry) (e : Entry) → m ≡ n + length es
    → place_from r n (es ++ e ∷ []) ≡ (if is_some (place_from r n es) then place_from r n es else (if requests r e.step.act then Some m else None))
place-more r n m [] e h = let i : n ≡ m = omega (arith, h) in ap (λ (k : ℕ). if requests r e.step.act then Some k else None) i
place-more r n m (x ∷ xs) e h = go (requests r x.step.act) refl (place-more r (n + 1) m xs e (omega (arith, h)))
  where
    go : (q : Bool) → requests r x.step.act ≡ q → place_from r (n + 1) (xs ++ e ∷ []) ≡ (if is_some (place_from r (n + 1) xs) then place_from r (n + 1) xs else (if requests r e.step.act then Some m else None))
        → place_from r n (x ∷ xs ++ e ∷ []) ≡ (if is_some (place_from r n (x ∷ xs)) then place_from r n (x ∷ xs) else (if requests r e.step.act then Some m else None))
    go true i ih = rw i refl
    go false i ih = rw i ih

returned-more : (r : ℕ) (es : List Entry) (e : Entry) → is_returned r (es ++ e ∷ []) ≡ (is_returned r es || takes_back r e)
returned-more r [] e = or-none (takes_back r e)
returned-more r (x ∷ xs) e = ap (λ b. takes_back r x || b) (returned-more r xs e) ∙ sym (or-assoc (takes_back r x) (is_returned r xs) (takes_back r e))

-- what an entry at place i makes of the note of an ask: whether it is its request (q), and whether it takes its connection back (t)
abbrev pub note_by : Bool → Bool → ℕ → Note → Note
note_by q t i n = record { handed = if is_some n.handed then n.handed else (if q then Some i else None); returned = n.returned || t }

pub note-more : (log : List Entry) (e : Entry) (x : Asked) → x.entries ≤ length log → note_of (log ++ e ∷ []) x ≡ note_by (requests x.request e.step.act) (takes_back x.request e) (length log) (note_of log x)
note-more log e x h =
    let es : List Entry = since log x in
    let long : length log ≡ x.entries + length es = omega (arith, h, length-drop x.entries log) in
    let s : since (log ++ e ∷ []) x ≡ es ++ e ∷ [] = since-more log e x h in
    let hand : place_from x.request x.entries (since (log ++ e ∷ []) x) ≡ (if is_some (place_from x.request x.entries es) then place_from x.request x.entries es else (if requests x.request e.step.act then Some (length log) else None))
    = ap (place_from x.request x.entries) s ∙ place-more x.request x.entries (length log) es e long in
    let back : is_returned x.request (since (log ++ e ∷ []) x) ≡ (is_returned x.request es || takes_back x.request e) = ap (is_returned x.request) s ∙ returned-more x.request es e in
    ap (λ (o : Option ℕ). let n : Note = record { handed = o; returned = is_returned x.request (since (log ++ e ∷ []) x) } in n) hand
    ∙ ap (λ (b : Bool). let n : Note = record { handed = if is_some (place_from x.request x.entries es) then place_from x.request x.entries es else (if requests x.request e.step.act then Some (length log) else None); returned = b } in n) back

note-stays : (i : ℕ) (n : Note) → note_by false false i n ≡ n
note-stays i n = go n.handed n.returned
  where
    go : (o : Option ℕ) (b : Bool) → (let m : Note = record { handed = o; returned = b } in note_by false false i m ≡ m)
    go None true = refl
    go None false = refl
    go (Some k) true = refl
    go (Some k) false = refl

note-handed : (i : ℕ) (n : Note) → note_by true false i n ≡ handed_at i n
note-handed i n = go n.handed n.returned
  where
    go : (o : Option ℕ) (b : Bool) → (let m : Note = record { handed = o; returned = b } in note_by true false i m ≡ handed_at i m)
    go None true = refl
    go None false = refl
    go (Some k) true = refl
    go (Some k) false = refl

note-taken : (i : ℕ) (n : Note) → note_by false true i n ≡ taken_back n
note-taken i n = go n.handed n.returned
  where
    go : (o : Option ℕ) (b : Bool) → (let m : Note = record { handed = o; returned = b } in note_by false true i m ≡ taken_back m)
    go None true = refl
    go None false = refl
    go (Some k) true = refl
    go (Some k) false = refl

shifted : (o : Option ℕ) (f : Note → Note) (n : Note) (ns : List Note) → noted_at (option_map (λ k. k + 1) o) f (n ∷ ns) ≡ n ∷ noted_at o f ns
shifted None f n ns = refl
shifted (Some i) f n ns = ap (λ (k : ℕ). map_at k f (n ∷ ns)) (add-one i)

-- no ask is changed
same-notes : (log more : List Entry) (xs : List Asked) → AreMade (length log) xs → ((x : Asked) → x.entries ≤ length log → note_of more x ≡ note_of log x) → notes_of more xs ≡ notes_of log xs
same-notes log more [] m s = refl
same-notes log more (x ∷ xs) m s = ap (λ (n : Note). n ∷ notes_of more xs) (s x m.0) ∙ ap (λ (ns : List Note). note_of log x ∷ ns) (same-notes log more xs m.1 s)

-- the other asks are not changed
other-notes : (log more : List Entry) (r : ℕ) (xs : List Asked) → AreMade (length log) xs → is_fresh r xs ≡ true → ((x : Asked) → x.entries ≤ length log → (r == x.request) ≡ false → note_of more x ≡ note_of log x) → notes_of more xs ≡ notes_of log xs
other-notes log more r [] m f s = refl
other-notes log more r (x ∷ xs) m f s =
    ap (λ (n : Note). n ∷ notes_of more xs) (s x m.0 (not-true (r == x.request) (left (not (r == x.request)) (is_fresh r xs) f)))
    ∙ ap (λ (ns : List Note). note_of log x ∷ ns) (other-notes log more r xs m.1 (right (not (r == x.request)) (is_fresh r xs) f) s)

-- the ask of the number is changed, and no other
notes-at : (log more : List Entry) (r : ℕ) (f : Note → Note) (xs : List Asked) → AreMade (length log) xs → AreSingle xs
    → ((x : Asked) → x.entries ≤ length log → (r == x.request) ≡ true → note_of more x ≡ f (note_of log x))
    → ((x : Asked) → x.entries ≤ length log → (r == x.request) ≡ false → note_of more x ≡ note_of log x) → notes_of more xs ≡ noted_at (place_of r xs) f (notes_of log xs)
notes-at log more r f [] m k s t = refl
notes-at log more r f (x ∷ xs) m k s t = go (r == x.request) refl (notes-at log more r f xs m.1 k.1 s t)
  where
    go : (b : Bool) → (r == x.request) ≡ b → notes_of more xs ≡ noted_at (place_of r xs) f (notes_of log xs) → notes_of more (x ∷ xs) ≡ noted_at (place_of r (x ∷ xs)) f (notes_of log (x ∷ xs))
    go true i ih =
        let fresh : is_fresh r xs ≡ true = subst (λ (q : ℕ). is_fresh q xs ≡ true) (sym ((Decides-eqb r x.request).0 i)) k.0 in
        let rest : notes_of more xs ≡ notes_of log xs = other-notes log more r xs m.1 fresh t in
        rw i (ap (λ (n : Note). n ∷ notes_of more xs) (s x m.0 i) ∙ ap (λ (ns : List Note). f (note_of log x) ∷ ns) rest)
    go false i ih =
        rw i (ap (λ (n : Note). n ∷ notes_of more xs) (t x m.0 i) ∙ ap (λ (ns : List Note). note_of log x ∷ ns) ih ∙ sym (shifted (place_of r xs) f (note_of log x) (notes_of log xs)))

-- what the flags of an entry make of a note
by-flags : (log : List Entry) (e : Entry) (x : Asked) (q t : Bool) → x.entries ≤ length log → requests x.request e.step.act ≡ q → takes_back x.request e ≡ t → note_of (log ++ e ∷ []) x ≡ note_by q t (length log) (note_of log x)
by-flags log e x q t h i j = note-more log e x h ∙ ap (λ b. note_by b (takes_back x.request e) (length log) (note_of log x)) i ∙ ap (λ b. note_by q b (length log) (note_of log x)) j

and-none : (a : Bool) → (a && false) ≡ false
and-none true = refl
and-none false = refl

-- After one more entry the notes are those that it makes of them.
pub noted-is : (log : List Entry) (e : Entry) (xs : List Asked) (known : ℕ → Option ℕ) → AreMade (length log) xs → AreSingle xs → ((r : ℕ) → known r ≡ place_of r xs)
    → notes_of (log ++ e ∷ []) xs ≡ noted e (length log) known (notes_of log xs)
noted-is log e xs known m k p = go e.step.act refl
  where
    quiet : (a : Act) → e.step.act ≡ a → ((r : ℕ) → requests r a ≡ false) → ((r : ℕ) → returns r a ≡ false) → notes_of (log ++ e ∷ []) xs ≡ notes_of log xs
    quiet a i q t = same-notes log (log ++ e ∷ []) xs m (λ x h. by-flags log e x false false h (ap (requests x.request) i ∙ q x.request) (ap (λ b. not (is_refusal e.reply) && b) (ap (returns x.request) i ∙ t x.request) ∙ and-none (not (is_refusal e.reply))) ∙ note-stays (length log) (note_of log x))

    back : (r : ℕ) (a : Act) (f : Bool) → e.step.act ≡ a → is_refusal e.reply ≡ f → ((q : ℕ) → requests q a ≡ false) → ((q : ℕ) → returns q a ≡ (r == q)) → notes_of (log ++ e ∷ []) xs ≡ (if f then notes_of log xs else noted_at (known r) taken_back (notes_of log xs))
    back r a true i f q t = same-notes log (log ++ e ∷ []) xs m (λ x h. by-flags log e x false false h (ap (requests x.request) i ∙ q x.request) (ap (λ b. not b && returns x.request e.step.act) f) ∙ note-stays (length log) (note_of log x))
    back r a false i f q t =
        notes-at log (log ++ e ∷ []) r taken_back xs m k
        (λ x h j. by-flags log e x false true h (ap (requests x.request) i ∙ q x.request) (ap (λ b. not b && returns x.request e.step.act) f ∙ ap (returns x.request) i ∙ t x.request ∙ j) ∙ note-taken (length log) (note_of log x))
        (λ x h j. by-flags log e x false false h (ap (requests x.request) i ∙ q x.request) (ap (λ b. not b && returns x.request e.step.act) f ∙ ap (returns x.request) i ∙ t x.request ∙ j) ∙ note-stays (length log) (note_of log x))
        ∙ ap (λ (o : Option ℕ). noted_at o taken_back (notes_of log xs)) (sym (p r))

    go : (a : Act) → e.step.act ≡ a → notes_of (log ++ e ∷ []) xs ≡ noted_by a (is_refusal e.reply) (length log) known (notes_of log xs)
    go (Request r b) i =
        notes-at log (log ++ e ∷ []) r (handed_at (length log)) xs m k
        (λ x h j. by-flags log e x true false h (ap (requests x.request) i ∙ j) (ap (λ c. not (is_refusal e.reply) && c) (ap (returns x.request) i) ∙ and-none (not (is_refusal e.reply))) ∙ note-handed (length log) (note_of log x))
        (λ x h j. by-flags log e x false false h (ap (requests x.request) i ∙ j) (ap (λ c. not (is_refusal e.reply) && c) (ap (returns x.request) i) ∙ and-none (not (is_refusal e.reply))) ∙ note-stays (length log) (note_of log x))
        ∙ ap (λ (o : Option ℕ). noted_at o (handed_at (length log)) (notes_of log xs)) (sym (p r))
    go (Return r used) i = back r (Return r used) (is_refusal e.reply) i refl (λ q. refl) (λ q. refl)
    go a i = quiet a i (λ r. refl) (λ r. refl)

-- ---- one ask more, and one less

pub notes-append : (log : List Entry) (xs : List Asked) (x : Asked) → notes_of log (xs ++ x ∷ []) ≡ notes_of log xs ++ note_of log x ∷ []
notes-append log [] x = refl
notes-append log (y ∷ ys) x = ap (λ (ns : List Note). note_of log y ∷ ns) (notes-append log ys x)

-- an ask that was just made
pub just-noted : (log : List Entry) (x : Asked) → x.entries ≡ length log → note_of log x ≡ blank
just-noted log x h =
    let none : since log x ≡ [] = ap (λ (k : ℕ). drop k log) h ∙ drop-length log in
    ap (λ (es : List Entry). let n : Note = record { handed = place_from x.request x.entries es; returned = is_returned x.request es } in n) none

pub notes-same : (log : List Entry) (xs ys : List Asked) → SameAsks xs ys → notes_of log xs ≡ notes_of log ys
notes-same log [] [] s = refl
notes-same log [] (y ∷ ys) s = absurd s
notes-same log (x ∷ xs) [] s = absurd s
notes-same log (x ∷ xs) (y ∷ ys) s =
    ap (λ (ns : List Note). note_of log x ∷ ns) (notes-same log xs ys s.4)
    ∙ ap (λ (k : ℕ). let n : Note = record { handed = place_from x.request k (drop k log); returned = is_returned x.request (drop k log) } in n ∷ notes_of log ys) s.3
    ∙ ap (λ (r : ℕ). let n : Note = record { handed = place_from r y.entries (since log y); returned = is_returned r (since log y) } in n ∷ notes_of log ys) s.1

pub length-notes : (log : List Entry) (xs : List Asked) → length (notes_of log xs) ≡ length xs
length-notes log [] = refl
length-notes log (x ∷ xs) = omega (arith, length-notes log xs)

-- ---- one note is written

pub set-map : (f : Note → Note) (ns : List Note) (i : ℕ) (n : Note) → i < length ns → n ≡ get_or ns i n → set ns i (f n) ≡ map_at i f ns
set-map f [] i n h e = absurd (omega (arith, h))
set-map f (m ∷ ms) zero n h e = ap (λ (k : Note). f k ∷ ms) e
set-map f (m ∷ ms) (suc i) n h e = ap (λ (l : List Note). m ∷ l) (set-map f ms i n (omega (arith, h)) e)

pub map-past : (f : Note → Note) (ns : List Note) (i : ℕ) → length ns ≤ i → map_at i f ns ≡ ns
map-past f [] i h = refl
map-past f (m ∷ ms) zero h = absurd (omega (arith, h))
map-past f (m ∷ ms) (suc i) h = ap (λ (l : List Note). m ∷ l) (map-past f ms i (omega (arith, h)))
