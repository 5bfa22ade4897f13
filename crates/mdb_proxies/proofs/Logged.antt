-- What one more entry makes of asks and of the standing ones.
use Rattle.std.proofs.Common.{◌≡◌, ℕ, ◌≤◌, Bool, true, false, not, ◌&&◌, ◌||◌, if◌then◌else◌, List, [], ◌∷◌, ◌++◌, length, refl, sym, ap, ◌∙◌}
use Rattle.std.proofs.lemmas.List.{drop-append-le}
use Rattle.mdb_log.specs.declared.step.Act.{Act}
use Rattle.mdb_log.specs.declared.step.Act.TheVariants.{Return}
use Rattle.mdb_log.specs.declared.log.Entry.{Entry}
use Rattle.mdb_log.specs.Driver.{is_refusal}
use Rattle.mdb_proxies.specs.declared.asked.Asked.{Asked}
use Rattle.mdb_proxies.specs.Charge.{requests, returns, settles, is_settled, is_requested, is_charged, since}

-- the entries since an ask have one more
pub since-more : (log : List Entry) (e : Entry) (x : Asked) → x.entries ≤ length log → since (log ++ e ∷ []) x ≡ since log x ++ e ∷ []
since-more log e x h = drop-append-le x.entries log (e ∷ []) h

pub or-assoc : (a b c : Bool) → (a || b) || c ≡ a || (b || c)
or-assoc true b c = refl
or-assoc false b c = refl

pub or-none : (a : Bool) → a || false ≡ a
or-none true = refl
or-none false = refl

pub requested-more : (r : ℕ) (es : List Entry) (e : Entry) → is_requested r (es ++ e ∷ []) ≡ is_requested r es || requests r e.step.act
requested-more r [] e = or-none (requests r e.step.act)
requested-more r (x ∷ xs) e = ap (λ b. requests r x.step.act || b) (requested-more r xs e) ∙ sym (or-assoc (requests r x.step.act) (is_requested r xs) (requests r e.step.act))

pub settled-more : (r : ℕ) (es : List Entry) (e : Entry) → is_settled r (es ++ e ∷ []) ≡ is_settled r es || settles r e
settled-more r [] e = or-none (settles r e)
settled-more r (x ∷ xs) e = ap (λ b. settles r x || b) (settled-more r xs e) ∙ sym (or-assoc (settles r x) (is_settled r xs) (settles r e))

neither : (f a b : Bool) → not f && not (a || b) ≡ (not f && not a) && not b
neither true a b = refl
neither false true b = refl
neither false false b = refl

first-one : (q : Bool) (f s : Bool) → (if q then not f && not (s || false) else false) ≡ q && (not f && not s)
first-one true f true = refl
first-one true f false = refl
first-one false f s = refl

pub charged-more : (r : ℕ) (es : List Entry) (e : Entry) → is_charged r (es ++ e ∷ []) ≡ (if is_requested r es then is_charged r es && not (settles r e) else requests r e.step.act && (not (is_refusal e.reply) && not (settles r e)))
charged-more r [] e = first-one (requests r e.step.act) (is_refusal e.reply) (settles r e)
charged-more r (x ∷ xs) e = go (requests r x.step.act) refl (charged-more r xs e)
  where
    go : (q : Bool) → requests r x.step.act ≡ q → is_charged r (xs ++ e ∷ []) ≡ (if is_requested r xs then is_charged r xs && not (settles r e) else requests r e.step.act && (not (is_refusal e.reply) && not (settles r e))) → is_charged r (x ∷ xs ++ e ∷ []) ≡ (if is_requested r (x ∷ xs) then is_charged r (x ∷ xs) && not (settles r e) else requests r e.step.act && (not (is_refusal e.reply) && not (settles r e)))
    go true i ih = rw i (ap (λ b. not (is_refusal x.reply) && not b) (settled-more r (x ∷ xs) e) ∙ neither (is_refusal x.reply) (is_settled r (x ∷ xs)) (settles r e))
    go false i ih = rw i ih

-- what was not requested is not charged
pub unrequested : (r : ℕ) (es : List Entry) → is_requested r es ≡ false → is_charged r es ≡ false
unrequested r [] h = refl
unrequested r (x ∷ xs) h = go (requests r x.step.act) refl (λ k. unrequested r xs k)
  where
    go : (q : Bool) → requests r x.step.act ≡ q → (is_requested r xs ≡ false → is_charged r xs ≡ false) → is_charged r (x ∷ xs) ≡ false
    go true i ih = absurd (let k : true ≡ false = rw i at h in cc)
    go false i ih = rw i (ih (rw i at h))

-- a request is no return
pub request-no-return : (r : ℕ) (a : Act) → requests r a ≡ true → returns r a ≡ false
request-no-return r (Return q used) h = absurd (let k : false ≡ true = h in cc)
request-no-return r _ h = refl
