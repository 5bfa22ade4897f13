-- Which asks may go, where only some charges fell.
use Rattle.std.proofs.Common.{◌≡◌, ℕ, ◌+◌, ◌≤◌, ◌<◌, Bool, true, false, not, ◌&&◌, ◌||◌, if◌then◌else◌, ◌==◌, nat_lt, List, [], ◌∷◌, ◌++◌, length, get_or, take, drop, Option, Some, None, inl, inr, refl, sym, ap, ◌∙◌, subst, arith, add-one, suc, zero}
use Rattle.std.specs.Prelude.{find, slice_get, position}
use Rattle.std.specs.List.{list_any, remove, position_or_len}
use Rattle.std.proofs.Math.ListN.{set}
use Rattle.std.proofs.lemmas.Bool.Decides.{Decides-ltb, nat_tests}
use Rattle.std.proofs.lemmas.List.Folds.{find_at, list_any-append}
use Rattle.mdb_base.specs.Equality.{same_address}
use Rattle.mdb_base.specs.declared.address.ServerAddress.{ServerAddress}
use Rattle.mdb_log.specs.declared.log.Entry.{Entry}
use Rattle.mdb_proxies.specs.declared.asked.Standing.{Standing}
use Rattle.mdb_proxies.specs.declared.books.Fate.{Fate}
use Rattle.mdb_proxies.specs.declared.books.Fate.TheVariants.{Stays, Charged, Gone}
use Rattle.mdb_proxies.specs.declared.freed.Freed.{Freed}
use Rattle.mdb_proxies.specs.declared.freed.Freed.TheVariants.{Nowhere, At, Anywhere}
use Rattle.mdb_proxies.specs.Charge.{requests}
use Rattle.mdb_proxies.specs.Shares.{share_of}
use Rattle.mdb_proxies.specs.Standings.{standing_at, charged_at, held_at, charge_in}
use Rattle.mdb_proxies.specs.Tables.{may_go, some_may_go, sooner_in, next_in, IsBest, fate_of, fated, after_entry, is_freed, KeepsCharge, goes_elsewhere, IsOnly}
use Rattle.mdb_proxies.proofs.Bools.{left, right, first, rest, other, both}
use Rattle.mdb_proxies.proofs.Within.{standing-is, charge-append, after_entry-append, handed-fate}
use Rattle.mdb_proxies.proofs.Numbers.{around}
use Rattle.mdb_proxies.proofs.Hands.{any-same, push-charge}

-- ---- what the loop over the standing asks does to charges

below-set : (b h : Bool) (n : ℕ) → (if b && not h then 1 + n else n) ≤ (if b && true then 1 + n else n)
below-set true true n = omega arith
below-set true false n = omega arith
below-set false h n = omega arith

more : (b : Bool) (m n : ℕ) → m ≤ n → (if b then 1 + m else m) ≤ (if b then 1 + n else n)
more true m n h = omega (arith, h)
more false m n h = h

-- one that was held back is charged
pub charge-set : (os : List Standing) (i : ℕ) (o : Standing) (t : ℕ) (a : ServerAddress) → i < length os → o ≡ get_or os i o → charge_in os t a ≤ charge_in (set os i (record o { held = false })) t a
charge-set [] i o t a h e = absurd (omega (arith, h))
charge-set (x ∷ xs) zero o t a h e = subst (λ (y : Standing). charge_in (x ∷ xs) t a ≤ (let p : Standing = record y { held = false } in charge_in (p ∷ xs) t a)) (sym e) (below-set (standing_at t a x) x.held (charge_in xs t a))
charge-set (x ∷ xs) (suc i) o t a h e = more (charged_at t a x) (charge_in xs t a) (charge_in (set xs i (record o { held = false })) t a) (charge-set xs i o t a (omega (arith, h)) e)

-- one that was not charged there is gone
pub charge-remove : (os : List Standing) (i : ℕ) (o : Standing) (t : ℕ) (a : ServerAddress) → i < length os → o ≡ get_or os i o → charged_at t a o ≡ false → charge_in os t a ≤ charge_in (remove os i) t a
charge-remove os i o t a h e f =
    let split : charge_in os t a ≡ charge_in (take i os) t a + charge_in (o ∷ drop (i + 1) os) t a = ap (λ (l : List Standing). charge_in l t a) (around os i o h e) ∙ charge-append (take i os) (o ∷ drop (i + 1) os) t a in
    let none : charge_in (o ∷ drop (i + 1) os) t a ≡ charge_in (drop (i + 1) os) t a = rw f refl in
    let left : charge_in (remove os i) t a ≡ charge_in (take i os) t a + charge_in (drop (suc i) os) t a = charge-append (take i os) (drop (suc i) os) t a in
    let same : charge_in (drop (i + 1) os) t a ≡ charge_in (drop (suc i) os) t a = ap (λ (k : ℕ). charge_in (drop k os) t a) (add-one i) in
    omega (arith, split, none, left, same)

-- ---- which asks may go after an entry

keeps-below : (m n s : ℕ) → m ≤ n → nat_lt n s ≡ true → nat_lt m s ≡ true
keeps-below m n s h k = grind (arith, nat_tests)

-- an ask that may go after an entry stands where a charge fell, or could go before
elsewhere-fewer : (shares : List ℕ) (os ps : List Standing) (f m w : Freed) (o : Standing) → KeepsCharge m os ps → ((t : ℕ) (a : ServerAddress) → is_freed w t a ≡ false → (is_freed f t a ≡ false) × (is_freed m t a ≡ false))
    → goes_elsewhere shares os f o ≡ false → goes_elsewhere shares ps w o ≡ false
elsewhere-fewer shares os ps f m w o k s g = go (is_freed w o.tenant o.address) refl
  where
    none : (b : Bool) → (b && not true) ≡ false
    none true = refl
    none false = refl

    some : (b : Bool) → (b && not false) ≡ false → b ≡ false
    some true h = absurd (let z : true ≡ false = h in cc)
    some false h = refl

    all : (b : Bool) → b ≡ false → (b && not false) ≡ false
    all true h = absurd (let z : true ≡ false = h in cc)
    all false h = refl

    fewer : (b : Bool) → (b && nat_lt (charge_in os o.tenant o.address) (share_of shares o.tenant)) ≡ false → charge_in os o.tenant o.address ≤ charge_in ps o.tenant o.address → (b && nat_lt (charge_in ps o.tenant o.address) (share_of shares o.tenant)) ≡ false
    fewer false h i = refl
    fewer true h i = last (nat_lt (charge_in ps o.tenant o.address) (share_of shares o.tenant)) refl
      where
        last : (b : Bool) → nat_lt (charge_in ps o.tenant o.address) (share_of shares o.tenant) ≡ b → nat_lt (charge_in ps o.tenant o.address) (share_of shares o.tenant) ≡ false
        last false j = j
        last true j = absurd (let z : true ≡ false = sym (keeps-below (charge_in os o.tenant o.address) (charge_in ps o.tenant o.address) (share_of shares o.tenant) i j) ∙ h in cc)

    go : (b : Bool) → is_freed w o.tenant o.address ≡ b → goes_elsewhere shares ps w o ≡ false
    go true i = ap (λ b. may_go shares ps o && not b) i ∙ none (may_go shares ps o)
    go false i =
        let n = s o.tenant o.address i in
        let before : may_go shares os o ≡ false = some (may_go shares os o) (subst (λ (b : Bool). (may_go shares os o && not b) ≡ false) n.0 g) in
        ap (λ b. may_go shares ps o && not b) i ∙ all (may_go shares ps o) (fewer o.held before (k o.tenant o.address n.1))

-- one that is not held back may not go
unheld : (shares : List ℕ) (os : List Standing) (f : Freed) (o : Standing) → o.held ≡ false → goes_elsewhere shares os f o ≡ false
unheld shares os f o h = rw h refl

-- what an entry leaves of these asks
pub only-after_entry : (shares : List ℕ) (e : Entry) (os ps : List Standing) (f m w : Freed) (ls : List Standing) → KeepsCharge m os ps → ((t : ℕ) (a : ServerAddress) → is_freed w t a ≡ false → (is_freed f t a ≡ false) × (is_freed m t a ≡ false))
    → list_any (goes_elsewhere shares os f) ls ≡ false → list_any (goes_elsewhere shares ps w) (after_entry e ls) ≡ false
only-after_entry shares e os ps f m w [] k s g = refl
only-after_entry shares e os ps f m w (o ∷ ls) k s g =
    go (fate_of e o) (elsewhere-fewer shares os ps f m w o k s (first (goes_elsewhere shares os f o) (list_any (goes_elsewhere shares os f) ls) g))
    (only-after_entry shares e os ps f m w ls k s (rest (goes_elsewhere shares os f o) (list_any (goes_elsewhere shares os f) ls) g))
  where
    go : (x : Fate) → goes_elsewhere shares ps w o ≡ false → list_any (goes_elsewhere shares ps w) (after_entry e ls) ≡ false → list_any (goes_elsewhere shares ps w) (fated x o (after_entry e ls)) ≡ false
    go Stays h ih = ap (λ (b : Bool). b || list_any (goes_elsewhere shares ps w) (after_entry e ls)) h ∙ ih
    go Charged h ih = ih
    go Gone h ih = ih

-- After an entry what may go stands where a charge fell.
pub only-after : (shares : List ℕ) (e : Entry) (os ps : List Standing) (f m w : Freed) → ps ≡ after_entry e os → KeepsCharge m os ps → ((t : ℕ) (a : ServerAddress) → is_freed w t a ≡ false → (is_freed f t a ≡ false) × (is_freed m t a ≡ false))
    → IsOnly shares os f → IsOnly shares ps w
only-after shares e os ps f m w i k s g = subst (λ (l : List Standing). list_any (goes_elsewhere shares ps w) l ≡ false) (sym i) (only-after_entry shares e os ps f m w os k s g)

none-elsewhere : (shares : List ℕ) (os ls : List Standing) → list_any (may_go shares os) ls ≡ false → list_any (goes_elsewhere shares os Nowhere) ls ≡ false
none-elsewhere shares os ls h = any-same (goes_elsewhere shares os Nowhere) (may_go shares os) ls (λ o. go (may_go shares os o)) ∙ h
  where
    go : (b : Bool) → (b && true) ≡ b
    go true = refl
    go false = refl

pub only-nowhere : (shares : List ℕ) (os : List Standing) → some_may_go shares os ≡ false → IsOnly shares os Nowhere
only-nowhere shares os h = none-elsewhere shares os os h

pub only-anywhere : (shares : List ℕ) (os ls : List Standing) → list_any (goes_elsewhere shares os Anywhere) ls ≡ false
only-anywhere shares os [] = refl
only-anywhere shares os (o ∷ ls) = go (may_go shares os o) (only-anywhere shares os ls)
  where
    go : (b : Bool) → list_any (goes_elsewhere shares os Anywhere) ls ≡ false → ((b && false) || list_any (goes_elsewhere shares os Anywhere) ls) ≡ false
    go true ih = ih
    go false ih = ih

-- where none could go before an entry, or all is looked at
pub only-passed : (shares : List ℕ) (e : Entry) (os ps : List Standing) (m : Freed) (behind : Bool) → ps ≡ after_entry e os → KeepsCharge m os ps → behind ≡ some_may_go shares os → IsOnly shares ps (if behind then Anywhere else m)
only-passed shares e os ps m true i k b = only-anywhere shares ps ps
only-passed shares e os ps m false i k b = only-after shares e os ps Nowhere m m i k (λ t a f. (refl, f)) (only-nowhere shares os (sym b))

-- the entry of the ask that stands last, where the others could not go, or all is looked at
pub only-begun : (shares : List ℕ) (e : Entry) (os stand ps : List Standing) (n : Standing) (m : Freed) (behind : Bool) → stand ≡ os ++ n ∷ [] → ps ≡ after_entry e stand → n.held ≡ true → requests n.request e.step.act ≡ true → KeepsCharge m stand ps
    → some_may_go shares os ≡ behind → IsOnly shares ps (if behind then Anywhere else m)
only-begun shares e os stand ps n m true j i h q k b = only-anywhere shares ps ps
only-begun shares e os stand ps n m false j i h q k b =
    let same : (y : Standing) → may_go shares stand y ≡ may_go shares os y = λ y. ap (λ c. y.held && nat_lt c (share_of shares y.tenant)) (ap (λ (l : List Standing). charge_in l y.tenant y.address) j ∙ push-charge os n y.tenant y.address h) in
    let before : list_any (goes_elsewhere shares stand Nowhere) os ≡ false = none-elsewhere shares stand os (any-same (may_go shares stand) (may_go shares os) os same ∙ b) in
    let others : list_any (goes_elsewhere shares ps m) (after_entry e os) ≡ false = only-after_entry shares e stand ps Nowhere m m os k (λ t a f. (refl, f)) before in
    let newest : list_any (goes_elsewhere shares ps m) (after_entry e (n ∷ [])) ≡ false = elim (handed-fate e n h q) [ inl f ↦ rw f refl | inr f ↦ rw f refl ] in
    ap (list_any (goes_elsewhere shares ps m)) (i ∙ ap (after_entry e) j ∙ after_entry-append e os (n ∷ [])) ∙ list_any-append (goes_elsewhere shares ps m) (after_entry e os) (after_entry e (n ∷ [])) ∙ ap (λ b. b || list_any (goes_elsewhere shares ps m) (after_entry e (n ∷ []))) others ∙ newest

-- ---- the next one

-- none may go
pub next-nowhere : (shares : List ℕ) (os ls : List Standing) → list_any (goes_elsewhere shares os Nowhere) ls ≡ false → next_in shares os ls ≡ None
next-nowhere shares os [] h = refl
next-nowhere shares os (o ∷ ls) h =
    let none : may_go shares os o ≡ false = some (may_go shares os o) (first (goes_elsewhere shares os Nowhere o) (list_any (goes_elsewhere shares os Nowhere) ls) h) in
    rw none (next-nowhere shares os ls (rest (goes_elsewhere shares os Nowhere o) (list_any (goes_elsewhere shares os Nowhere) ls) h))
  where
    some : (b : Bool) → (b && true) ≡ false → b ≡ false
    some true e = absurd (let z : true ≡ false = e in cc)
    some false e = refl

-- where an ask may go that stands nowhere else, it is held back there, and the charge is below the share
record There (shares : List ℕ) (os : List Standing) (p o : Standing) : Type 0 where
  tenant : o.tenant ≡ p.tenant
  held : held_at p.tenant p.address o ≡ true
  below : nat_lt (charge_in os p.tenant p.address) (share_of shares p.tenant) ≡ true

there : (shares : List ℕ) (os : List Standing) (p o : Standing) → goes_elsewhere shares os (At p) o ≡ false → may_go shares os o ≡ true → There shares os p o
there shares os p o g m =
    let at : standing_at o.tenant o.address p ≡ true = back (standing_at o.tenant o.address p) (other (may_go shares os o) (not (standing_at o.tenant o.address p)) m g) in
    let is = standing-is o.tenant o.address p at in
    let held : o.held ≡ true = left o.held (nat_lt (charge_in os o.tenant o.address) (share_of shares o.tenant)) m in
    let below : nat_lt (charge_in os o.tenant o.address) (share_of shares o.tenant) ≡ true = right o.held (nat_lt (charge_in os o.tenant o.address) (share_of shares o.tenant)) m in
    let one : standing_at p.tenant p.address p ≡ true = subst (λ (x : ServerAddress). standing_at p.tenant x p ≡ true) (sym is.1) (subst (λ (k : ℕ). standing_at k o.address p ≡ true) (sym is.0) at) in
    let here : standing_at p.tenant p.address o ≡ true = subst (λ (k : ℕ). ((k == p.tenant) && same_address o.address p.address) ≡ true) is.0 (subst (λ (x : ServerAddress). ((p.tenant == p.tenant) && same_address x p.address) ≡ true) is.1 one) in
    record {
      tenant = sym is.0;
      held = both (standing_at p.tenant p.address o) o.held here held;
      below = subst (λ (x : ServerAddress). nat_lt (charge_in os p.tenant x) (share_of shares p.tenant) ≡ true) (sym is.1) (subst (λ (k : ℕ). nat_lt (charge_in os k o.address) (share_of shares k) ≡ true) (sym is.0) below);
    }
  where
    back : (b : Bool) → not b ≡ false → b ≡ true
    back true e = refl
    back false e = absurd (let z : true ≡ false = e in cc)

-- the charge is not below the share
pub next-full : (shares : List ℕ) (os : List Standing) (p : Standing) (ls : List Standing) → nat_lt (charge_in os p.tenant p.address) (share_of shares p.tenant) ≡ false → list_any (goes_elsewhere shares os (At p)) ls ≡ false → next_in shares os ls ≡ None
next-full shares os p [] f h = refl
next-full shares os p (o ∷ ls) f h = go (may_go shares os o) refl (next-full shares os p ls f (rest (goes_elsewhere shares os (At p) o) (list_any (goes_elsewhere shares os (At p)) ls) h))
  where
    go : (b : Bool) → may_go shares os o ≡ b → next_in shares os ls ≡ None → next_in shares os (o ∷ ls) ≡ None
    go true i ih = let t = there shares os p o (first (goes_elsewhere shares os (At p) o) (list_any (goes_elsewhere shares os (At p)) ls) h) i in absurd (let z : true ≡ false = sym t.below ∙ f in cc)
    go false i ih = rw i ih

-- one that is held back there may go
held-goes : (shares : List ℕ) (os : List Standing) (p o : Standing) → nat_lt (charge_in os p.tenant p.address) (share_of shares p.tenant) ≡ true → held_at p.tenant p.address o ≡ true → may_go shares os o ≡ true
held-goes shares os p o b h =
    let is = standing-is p.tenant p.address o (left (standing_at p.tenant p.address o) o.held h) in
    let below : nat_lt (charge_in os o.tenant o.address) (share_of shares o.tenant) ≡ true
    = subst (λ (x : ServerAddress). nat_lt (charge_in os o.tenant x) (share_of shares o.tenant) ≡ true) (sym is.1) (subst (λ (k : ℕ). nat_lt (charge_in os k p.address) (share_of shares k) ≡ true) (sym is.0) b) in
    both o.held (nat_lt (charge_in os o.tenant o.address) (share_of shares o.tenant)) (right (standing_at p.tenant p.address o) o.held h) below

found-held : (p : Standing) (ls : List Standing) (q : Standing) → find (held_at p.tenant p.address) ls ≡ Some q → q.tenant ≡ p.tenant
found-held p [] q h = absurd (let z : None ≡ Some q = h in cc)
found-held p (o ∷ ls) q h = go (held_at p.tenant p.address o) refl (λ e. found-held p ls q e)
  where
    go : (b : Bool) → held_at p.tenant p.address o ≡ b → (find (held_at p.tenant p.address) ls ≡ Some q → q.tenant ≡ p.tenant) → q.tenant ≡ p.tenant
    go true i ih =
        let z : Some o ≡ Some q = subst (λ (b : Bool). (if b then Some o else find (held_at p.tenant p.address) ls) ≡ Some q) i h in
        let e : o ≡ q = cc in
        ap (λ (x : Standing). x.tenant) (sym e) ∙ (standing-is p.tenant p.address o (left (standing_at p.tenant p.address o) o.held i)).0
    go false i ih = ih (subst (λ (b : Bool). (if b then Some o else find (held_at p.tenant p.address) ls) ≡ Some q) i h)

lt-self : (n : ℕ) → nat_lt n n ≡ false
lt-self n = grind (arith, nat_tests)

-- the first that is held back there is the next one
pub next-first-held : (shares : List ℕ) (os : List Standing) (p : Standing) (ls : List Standing) → nat_lt (charge_in os p.tenant p.address) (share_of shares p.tenant) ≡ true → list_any (goes_elsewhere shares os (At p)) ls ≡ false
    → next_in shares os ls ≡ find (held_at p.tenant p.address) ls
next-first-held shares os p [] b h = refl
next-first-held shares os p (o ∷ ls) b h =
    go (may_go shares os o) refl (held_at p.tenant p.address o) refl (next-first-held shares os p ls b (rest (goes_elsewhere shares os (At p) o) (list_any (goes_elsewhere shares os (At p)) ls) h))
  where
    of : may_go shares os o ≡ true → There shares os p o
    of i = there shares os p o (first (goes_elsewhere shares os (At p) o) (list_any (goes_elsewhere shares os (At p)) ls) h) i

    sooner : o.tenant ≡ p.tenant → (n : Option Standing) → find (held_at p.tenant p.address) ls ≡ n → sooner_in o n ≡ o
    sooner t None j = refl
    sooner t (Some q) j = rw (found-held p ls q j, t, lt-self p.tenant) refl

    go : (m : Bool) → may_go shares os o ≡ m → (d : Bool) → held_at p.tenant p.address o ≡ d → next_in shares os ls ≡ find (held_at p.tenant p.address) ls → next_in shares os (o ∷ ls) ≡ find (held_at p.tenant p.address) (o ∷ ls)
    go true i true j ih = rw (i, j) (ap (λ (n : Option Standing). Some (sooner_in o n)) ih ∙ ap Some (sooner (of i).tenant (find (held_at p.tenant p.address) ls) refl))
    go true i false j ih = absurd (let z : true ≡ false = sym (of i).held ∙ j in cc)
    go false i true j ih = absurd (let z : true ≡ false = sym (held-goes shares os p o b j) ∙ i in cc)
    go false i false j ih = rw (i, j) ih

got : (os : List Standing) (i : ℕ) → i < length os → (d : Standing) → slice_get os i ≡ Some (get_or os i d)
got [] i h d = absurd (omega (arith, h))
got (o ∷ os) zero h d = refl
got (o ∷ os) (suc i) h d = got os i (omega (arith, h)) d

past : (os : List Standing) (i : ℕ) → length os ≤ i → slice_get os i ≡ None
past [] i h = refl
past (o ∷ os) zero h = absurd (omega (arith, h))
past (o ∷ os) (suc i) h = past os i (omega (arith, h))

pub best-held : (shares : List ℕ) (os : List Standing) (p : Standing) (best : Option ℕ) → nat_lt (charge_in os p.tenant p.address) (share_of shares p.tenant) ≡ true → IsOnly shares os (At p) → best ≡ position (held_at p.tenant p.address) os
    → IsBest shares os os best
best-held shares os p best b h e = subst (λ (o : Option ℕ). IsBest shares os os o) (sym e) (go (nat_lt k (length os)) refl)
  where
    k : ℕ
    k = position_or_len (held_at p.tenant p.address) os

    is : next_in shares os os ≡ slice_get os k
    is = next-first-held shares os p os b h ∙ find_at (held_at p.tenant p.address) os

    go : (c : Bool) → nat_lt k (length os) ≡ c → IsBest shares os os (if c then Some k else None)
    go true i = let l : k < length os = (Decides-ltb k (length os)).0 i in (l, λ d. is ∙ got os k l d)
    go false i = is ∙ past os k (over i)
      where
        over : nat_lt k (length os) ≡ false → length os ≤ k
        over j = grind (arith, nat_tests)

pub not-lt : (m n : ℕ) → n ≤ m → nat_lt m n ≡ false
not-lt m n h = grind (arith, nat_tests)

pub is-lt : (m n : ℕ) → m < n → nat_lt m n ≡ true
is-lt m n h = (Decides-ltb m n).1 h
