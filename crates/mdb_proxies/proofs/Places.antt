-- Asks by their numbers and by their places.
use Rattle.std.proofs.Common.{◌≡◌, ℕ, ◌+◌, ◌<◌, Bool, true, false, if◌then◌else◌, ◌==◌, List, [], ◌∷◌, ◌++◌, length, get_or, Option, Some, None, is_some, option_map, refl, sym, ap, ◌∙◌, subst, arith, add-one, suc, zero}
use Rattle.std.proofs.Math.ListN.{set}
use Rattle.mdb_log.specs.declared.log.Entry.{Entry}
use Rattle.mdb_proxies.specs.declared.asked.Asked.{Asked}
use Rattle.mdb_proxies.specs.declared.asked.Note.{Note}
use Rattle.mdb_proxies.specs.Charge.{requests, is_requested}
use Rattle.mdb_proxies.specs.Recording.{SameAsks, told_at}
use Rattle.mdb_proxies.specs.Telling.{reply_to, ask_of, told_if, tell}
use Rattle.mdb_proxies.specs.Tables.{place_from, note_of, notes_of, place_of}
use Rattle.mdb_proxies.proofs.Telling.{same_asks}

-- the ask of the number stands at the place
pub record Placed (r : ℕ) (xs : List Asked) (i : ℕ) (x : Asked) : Type 0 where
  pub within : i < length xs
  pub at : (d : Asked) → get_or xs i d ≡ x
  pub of : ask_of r xs ≡ Some x

placed-on : (r i : ℕ) (y x : Asked) (ys : List Asked) → (r == y.request) ≡ false → Placed r ys i x → Placed r (y ∷ ys) (i + 1) x
placed-on r i y x ys f p = record {
  within = omega (arith, p.within);
  at = λ d. ap (λ (k : ℕ). get_or (y ∷ ys) k d) (add-one i) ∙ p.at d;
  of = rw f p.of;
}

mapped : (o : Option ℕ) (i : ℕ) → option_map (λ n. n + 1) o ≡ Some i → (k : ℕ) × (o ≡ Some k) × (i ≡ k + 1)
mapped (Some k) i h = let z : Some (k + 1) ≡ Some i = h in let e : i ≡ k + 1 = cc in (k, refl, e)
mapped None i h = absurd (let e : None ≡ Some i = h in cc)

pub placed : (r i : ℕ) (xs : List Asked) → place_of r xs ≡ Some i → (x : Asked) × Placed r xs i x
placed r i [] h = absurd (let e : None ≡ Some i = h in cc)
placed r i (y ∷ ys) h = go (r == y.request) refl (λ k e. placed r k ys e)
  where
    go : (b : Bool) → (r == y.request) ≡ b → ((k : ℕ) → place_of r ys ≡ Some k → (x : Asked) × Placed r ys k x) → (x : Asked) × Placed r (y ∷ ys) i x
    go true f ih =
        let z : Some 0 ≡ Some i = subst (λ (b : Bool). (if b then Some 0 else option_map (λ n. n + 1) (place_of r ys)) ≡ Some i) f h in
        let k : i ≡ 0 = cc in
        (y, record { within = omega (arith, k); at = λ d. ap (λ (n : ℕ). get_or (y ∷ ys) n d) k; of = rw f refl })
    go false f ih =
        let z : option_map (λ n. n + 1) (place_of r ys) ≡ Some i = subst (λ (b : Bool). (if b then Some 0 else option_map (λ n. n + 1) (place_of r ys)) ≡ Some i) f h in
        let m = mapped (place_of r ys) i z in
        let p = ih m.0 m.1 in
        (p.0, subst (λ (n : ℕ). Placed r (y ∷ ys) n p.0) (sym m.2) (placed-on r m.0 y p.0 ys f p.1))

pub unplaced : (r : ℕ) (xs : List Asked) → place_of r xs ≡ None → ask_of r xs ≡ None
unplaced r [] h = refl
unplaced r (y ∷ ys) h = go (r == y.request) refl (λ e. unplaced r ys e)
  where
    none : (o : Option ℕ) → option_map (λ n. n + 1) o ≡ None → o ≡ None
    none None e = refl
    none (Some k) e = absurd (let z : Some (k + 1) ≡ None = e in cc)

    go : (b : Bool) → (r == y.request) ≡ b → (place_of r ys ≡ None → ask_of r ys ≡ None) → ask_of r (y ∷ ys) ≡ None
    go true f ih = absurd (let z : Some 0 ≡ None = subst (λ (b : Bool). (if b then Some 0 else option_map (λ n. n + 1) (place_of r ys)) ≡ None) f h in cc)
    go false f ih = rw f (ih (none (place_of r ys) (subst (λ (b : Bool). (if b then Some 0 else option_map (λ n. n + 1) (place_of r ys)) ≡ None) f h)))

-- the note at a place is that of the ask there
pub note-at : (log : List Entry) (xs : List Asked) (i : ℕ) (x : Asked) → i < length xs → ((d : Asked) → get_or xs i d ≡ x) → (n : Note) → get_or (notes_of log xs) i n ≡ note_of log x
note-at log [] i x h a n = absurd (omega (arith, h))
note-at log (y ∷ ys) zero x h a n = ap (note_of log) (a y)
note-at log (y ∷ ys) (suc i) x h a n = note-at log ys i x (omega (arith, h)) a n

-- ---- what was told

pub told-set : (xs : List Asked) (i : ℕ) (x : Asked) → x ≡ get_or xs i x → set xs i (record x { told = true }) ≡ told_at i xs
told-set [] i x e = refl
told-set (y ∷ ys) zero x e = ap (λ (z : Asked). let w : Asked = record z { told = true } in w ∷ ys) e
told-set (y ∷ ys) (suc i) x e = ap (λ (zs : List Asked). y ∷ zs) (told-set ys i x e)

pub told-same : (i : ℕ) (xs : List Asked) → SameAsks xs (told_at i xs)
told-same i [] = tt
told-same zero (x ∷ xs) = (refl, refl, refl, refl, same_asks xs)
told-same (suc i) (x ∷ xs) = (refl, refl, refl, refl, told-same i xs)

pub told-last : (xs : List Asked) (x : Asked) → told_at (length xs) (xs ++ x ∷ []) ≡ xs ++ told_if true x ∷ []
told-last [] x = refl
told-last (y ∷ ys) x = ap (λ (zs : List Asked). y ∷ zs) (told-last ys x)

pub told-is : (r i : ℕ) (xs : List Asked) → place_of r xs ≡ Some i → told_at i xs ≡ tell r xs
told-is r i [] h = refl
told-is r i (y ∷ ys) h = go (r == y.request) refl (λ k e. told-is r k ys e)
  where
    go : (b : Bool) → (r == y.request) ≡ b → ((k : ℕ) → place_of r ys ≡ Some k → told_at k ys ≡ tell r ys) → told_at i (y ∷ ys) ≡ tell r (y ∷ ys)
    go true f ih =
        let z : Some 0 ≡ Some i = subst (λ (b : Bool). (if b then Some 0 else option_map (λ n. n + 1) (place_of r ys)) ≡ Some i) f h in
        let k : i ≡ 0 = cc in
        ap (λ (n : ℕ). told_at n (y ∷ ys)) k ∙ rw f refl
    go false f ih =
        let z : option_map (λ n. n + 1) (place_of r ys) ≡ Some i = subst (λ (b : Bool). (if b then Some 0 else option_map (λ n. n + 1) (place_of r ys)) ≡ Some i) f h in
        let m = mapped (place_of r ys) i z in
        ap (λ (n : ℕ). told_at n (y ∷ ys)) (m.2 ∙ add-one m.0) ∙ ap (λ (zs : List Asked). y ∷ zs) (ih m.0 m.1) ∙ rw f refl

-- ---- the entry that handed an ask on

pub record Hander (r n : ℕ) (es : List Entry) (i : ℕ) : Type 0 where
  pub behind : ℕ
  pub is : i ≡ n + behind
  pub within : behind < length es
  pub replied : (d : Entry) → reply_to r es ≡ Some (get_or es behind d).reply

pub hander : (r n i : ℕ) (es : List Entry) → place_from r n es ≡ Some i → Hander r n es i
hander r n i [] h = absurd (let e : None ≡ Some i = h in cc)
hander r n i (x ∷ xs) h = go (requests r x.step.act) refl (λ e. hander r (n + 1) i xs e)
  where
    go : (b : Bool) → requests r x.step.act ≡ b → (place_from r (n + 1) xs ≡ Some i → Hander r (n + 1) xs i) → Hander r n (x ∷ xs) i
    go true f ih =
        let z : Some n ≡ Some i = subst (λ (b : Bool). (if b then Some n else place_from r (n + 1) xs) ≡ Some i) f h in
        let k : i ≡ n = cc in
        record { behind = 0; is = omega (arith, k); within = omega arith; replied = λ d. rw f refl }
    go false f ih =
        let p = ih (subst (λ (b : Bool). (if b then Some n else place_from r (n + 1) xs) ≡ Some i) f h) in
        record { behind = p.behind + 1; is = omega (arith, p.is); within = omega (arith, p.within); replied = λ d. ap (λ (b : Bool). if b then Some x.reply else reply_to r xs) f ∙ p.replied d ∙ ap (λ (k : ℕ). Some (get_or (x ∷ xs) k d).reply) (sym (add-one p.behind)) }

pub requested-by : (r n : ℕ) (es : List Entry) → is_some (place_from r n es) ≡ is_requested r es
requested-by r n [] = refl
requested-by r n (x ∷ xs) = go (requests r x.step.act) refl (requested-by r (n + 1) xs)
  where
    go : (b : Bool) → requests r x.step.act ≡ b → is_some (place_from r (n + 1) xs) ≡ is_requested r xs → is_some (place_from r n (x ∷ xs)) ≡ is_requested r (x ∷ xs)
    go true f ih = rw f refl
    go false f ih = rw f ih
