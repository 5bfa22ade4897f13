-- The books of a proxy stay those of its log.
use Rattle.std.proofs.Common.{◌≡◌, ℕ, ◌+◌, ◌≤◌, Bool, true, false, not, if◌then◌else◌, ◌==◌, List, [], ◌∷◌, ◌++◌, length, drop, Option, Some, None, option_map, refl, sym, ap, ◌∙◌, subst, arith, length-append, add-one}
use Rattle.std.proofs.Math.Seq.{drop-length}
use Rattle.std.proofs.lemmas.Bool.Decides.{Decides-eqb}
use Rattle.std.proofs.lemmas.Bool.{not-true}
use Rattle.mdb_log.specs.declared.log.Entry.{Entry}
use Rattle.mdb_proxies.specs.declared.asked.Asked.{Asked}
use Rattle.mdb_proxies.specs.declared.asked.Standing.{Standing}
use Rattle.mdb_proxies.specs.Charge.{is_held, counts, is_requested, is_charged}
use Rattle.mdb_proxies.specs.Tables.{after_entry, standing_of, standing_if, standings, is_fresh, place_of, AreSingle, AreMade, Keeps}
use Rattle.mdb_proxies.proofs.Bools.{left, right, both, swapped}
use Rattle.mdb_proxies.proofs.AfterEntry.{after_entry-is}

pub made-later : (m n : ℕ) (xs : List Asked) → m ≤ n → AreMade m xs → AreMade n xs
made-later m n [] h k = tt
made-later m n (x ∷ xs) h k = (omega (arith, k.0), made-later m n xs h k.1)

-- one more entry
pub keeps-entered : (log more : List Entry) (e : Entry) (os ps : List Standing) (xs : List Asked) (known : ℕ → Option ℕ) → more ≡ log ++ e ∷ [] → ps ≡ after_entry e os → Keeps log os xs known → Keeps more ps xs known
keeps-entered log more e os ps xs known g t k = subst (λ (l : List Entry). Keeps l ps xs known) (sym g) record {
  standing = t ∙ ap (after_entry e) k.standing ∙ sym (after_entry-is log e xs k.made);
  made = made-later (length log) (length (log ++ e ∷ [])) xs (omega (arith, length-append log (e ∷ []))) k.made;
  single = k.single;
  placed = k.placed;
}

-- ---- one more ask

standings-append : (log : List Entry) (xs ys : List Asked) → standings log (xs ++ ys) ≡ standings log xs ++ standings log ys
standings-append log [] ys = refl
standings-append log (x ∷ xs) ys = ap (standing_if (is_held log x) (counts log x) x) (standings-append log xs ys) ∙ if-append (is_held log x) (counts log x) x (standings log xs) (standings log ys)
  where
    if-append : (h c : Bool) (x : Asked) (os ps : List Standing) → standing_if h c x (os ++ ps) ≡ standing_if h c x os ++ ps
    if-append true c x os ps = refl
    if-append false true x os ps = refl
    if-append false false x os ps = refl

drop-all : (log : List Entry) → drop (length log) log ≡ []
drop-all log = drop-length log

-- an ask that was just made is held back
pub just-made : (log : List Entry) (x : Asked) → x.entries ≡ length log → standings log (x ∷ []) ≡ standing_of x true ∷ []
just-made log x h = ap (λ es. standing_if (not (is_requested x.request es)) (is_charged x.request es) x []) (ap (λ k. drop k log) h ∙ drop-all log)

pub made-append : (n : ℕ) (xs : List Asked) (x : Asked) → AreMade n xs → x.entries ≤ n → AreMade n (xs ++ x ∷ [])
made-append n [] x m h = (h, tt)
made-append n (y ∷ ys) x m h = (m.0, made-append n ys x m.1 h)

fresh-append : (r : ℕ) (xs : List Asked) (x : Asked) → is_fresh r xs ≡ true → not (r == x.request) ≡ true → is_fresh r (xs ++ x ∷ []) ≡ true
fresh-append r [] x h k = both (not (r == x.request)) true k refl
fresh-append r (y ∷ ys) x h k = both (not (r == y.request)) (is_fresh r (ys ++ x ∷ [])) (left (not (r == y.request)) (is_fresh r ys) h) (fresh-append r ys x (right (not (r == y.request)) (is_fresh r ys) h) k)

pub single-append : (xs : List Asked) (x : Asked) → AreSingle xs → is_fresh x.request xs ≡ true → AreSingle (xs ++ x ∷ [])
single-append [] x s h = (refl, tt)
single-append (y ∷ ys) x s h = (fresh-append y.request ys x s.0 (ap not (swapped y.request x.request) ∙ left (not (x.request == y.request)) (is_fresh x.request ys) h), single-append ys x s.1 (right (not (x.request == y.request)) (is_fresh x.request ys) h))

-- the place of a number among one more ask
place-append : (r : ℕ) (xs : List Asked) (x : Asked) → is_fresh x.request xs ≡ true → place_of r (xs ++ x ∷ []) ≡ (if r == x.request then Some (length xs) else place_of r xs)
place-append r [] x h = refl
place-append r (y ∷ ys) x h = go (r == y.request) (r == x.request) refl refl (place-append r ys x (right (not (x.request == y.request)) (is_fresh x.request ys) h))
  where
    next : (b : Bool) → option_map (λ n. n + 1) (if b then Some (length ys) else place_of r ys) ≡ (if b then Some (length (y ∷ ys)) else option_map (λ n. n + 1) (place_of r ys))
    next true = ap Some (add-one (length ys))
    next false = refl

    go : (b c : Bool) → (r == y.request) ≡ b → (r == x.request) ≡ c → place_of r (ys ++ x ∷ []) ≡ (if r == x.request then Some (length ys) else place_of r ys)
        → (if r == y.request then Some 0 else option_map (λ n. n + 1) (place_of r (ys ++ x ∷ []))) ≡ (if r == x.request then Some (length (y ∷ ys)) else (if r == y.request then Some 0 else option_map (λ n. n + 1) (place_of r ys)))
    go false c i j ih = rw i (ap (option_map (λ n. n + 1)) ih ∙ next (r == x.request))
    go true false i j ih = rw (i, j) refl
    go true true i j ih =
        let p : r ≡ y.request = (Decides-eqb r y.request).0 i in
        let q : r ≡ x.request = (Decides-eqb r x.request).0 j in
        let k : (x.request == y.request) ≡ true = (Decides-eqb x.request y.request).1 (sym q ∙ p) in
        let n : (x.request == y.request) ≡ false = not-true (x.request == y.request) (left (not (x.request == y.request)) (is_fresh x.request ys) h) in
        absurd (let z : true ≡ false = sym k ∙ n in cc)

pub keeps-recorded : (log : List Entry) (os : List Standing) (xs : List Asked) (x : Asked) (known knows : ℕ → Option ℕ) → is_fresh x.request xs ≡ true → x.entries ≡ length log
    → ((r : ℕ) → knows r ≡ (if r == x.request then Some (length xs) else known r)) → Keeps log os xs known → Keeps log (os ++ standing_of x true ∷ []) (xs ++ x ∷ []) knows
keeps-recorded log os xs x known knows f n ks k = record {
  standing = ap (λ l. l ++ standing_of x true ∷ []) k.standing ∙ sym (standings-append log xs (x ∷ []) ∙ ap (λ l. standings log xs ++ l) (just-made log x n));
  made = made-append (length log) xs x k.made (omega (arith, n));
  single = single-append xs x k.single f;
  placed = λ r. ks r ∙ ap (λ p. if r == x.request then Some (length xs) else p) (k.placed r) ∙ sym (place-append r xs x f);
}

-- ---- the newest ask is taken out again

left-made : (n : ℕ) (xs ys : List Asked) → AreMade n (xs ++ ys) → AreMade n xs
left-made n [] ys m = tt
left-made n (x ∷ xs) ys m = (m.0, left-made n xs ys m.1)

left-fresh : (r : ℕ) (xs : List Asked) (x : Asked) → is_fresh r (xs ++ x ∷ []) ≡ true → (is_fresh r xs ≡ true) × (not (r == x.request) ≡ true)
left-fresh r [] x h = (refl, left (not (r == x.request)) true h)
left-fresh r (y ∷ ys) x h = let ih = left-fresh r ys x (right (not (r == y.request)) (is_fresh r (ys ++ x ∷ [])) h) in (both (not (r == y.request)) (is_fresh r ys) (left (not (r == y.request)) (is_fresh r (ys ++ x ∷ [])) h) ih.0, ih.1)

pub left-single : (xs : List Asked) (x : Asked) → AreSingle (xs ++ x ∷ []) → AreSingle xs × (is_fresh x.request xs ≡ true)
left-single [] x s = (tt, refl)
left-single (y ∷ ys) x s =
    let ih = left-single ys x s.1 in
    let f = left-fresh y.request ys x s.0 in
    ((f.0, ih.0), both (not (x.request == y.request)) (is_fresh x.request ys) (ap not (swapped x.request y.request) ∙ f.1) ih.1)

fresh-place : (r : ℕ) (xs : List Asked) → is_fresh r xs ≡ true → place_of r xs ≡ None
fresh-place r [] h = refl
fresh-place r (y ∷ ys) h = rw (not-true (r == y.request) (left (not (r == y.request)) (is_fresh r ys) h)) (ap (option_map (λ n. n + 1)) (fresh-place r ys (right (not (r == y.request)) (is_fresh r ys) h)))

forgotten : (r : ℕ) (xs : List Asked) (x : Asked) → is_fresh x.request xs ≡ true → (if r == x.request then None else place_of r (xs ++ x ∷ [])) ≡ place_of r xs
forgotten r xs x f = go (r == x.request) refl
  where
    go : (b : Bool) → (r == x.request) ≡ b → (if r == x.request then None else place_of r (xs ++ x ∷ [])) ≡ place_of r xs
    go true i = rw i (sym (fresh-place r xs (subst (λ (k : ℕ). is_fresh k xs ≡ true) (sym ((Decides-eqb r x.request).0 i)) f)))
    go false i = rw i (place-append r xs x f ∙ (rw i refl))

pub keeps-forgotten : (log : List Entry) (os ps : List Standing) (xs : List Asked) (x : Asked) (known knows : ℕ → Option ℕ) → ps ≡ standings log xs
    → ((r : ℕ) → knows r ≡ (if r == x.request then None else known r)) → Keeps log os (xs ++ x ∷ []) known → Keeps log ps xs knows
keeps-forgotten log os ps xs x known knows i ks k =
    let s = left-single xs x k.single in record {
      standing = i;
      made = left-made (length log) xs (x ∷ []) k.made;
      single = s.0;
      placed = λ r. ks r ∙ ap (λ p. if r == x.request then None else p) (k.placed r) ∙ forgotten r xs x s.1;
    }
