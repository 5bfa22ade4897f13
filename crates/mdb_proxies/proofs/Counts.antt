-- The counts beside the standing asks are their charges.
use Rattle.std.proofs.Common.{◌≡◌, ℕ, ◌+◌, ◌<◌, Bool, true, false, not, ◌&&◌, if◌then◌else◌, ◌==◌, nat_lt, nat_eq, List, [], ◌∷◌, ◌++◌, length, get_or, take, drop, refl, sym, ap, ◌∙◌, subst, arith, add-one, suc, zero, length-append}
use Rattle.std.specs.Prelude.{map}
use Rattle.std.specs.List.{remove, HoldsAt}
use Rattle.std.specs.Cmp.Lexicographic.{pointwise, bytes_decides}
use Rattle.std.proofs.Math.ListN.{set, length-set}
use Rattle.std.proofs.Math.Seq.{map-set_same}
use Rattle.std.proofs.lemmas.Bool.Decides.{Decides-eqb}
use Rattle.std.proofs.lemmas.List.{get_or-map, get_or-set_same, length-map, map-append, take-map}
use Rattle.std.specs.List.{drop-map}
use Rattle.mdb_base.specs.Equality.{same_address}
use Rattle.mdb_base.specs.declared.address.ServerAddress.{ServerAddress}
use Rattle.mdb_proxies.specs.declared.asked.Standing.{Standing}
use Rattle.mdb_proxies.specs.Shares.{share_of}
use Rattle.mdb_proxies.specs.Tables.{may_go}
use Rattle.mdb_proxies.specs.Standings.{standing_at, charge_in, charge_of, AreCounted, recounted}
use Rattle.mdb_proxies.proofs.Bools.{both}
use Rattle.mdb_proxies.proofs.Within.{standing-is, charge-append}
use Rattle.mdb_proxies.proofs.Numbers.{around}
use Rattle.mdb_proxies.proofs.Hands.{push-charge}

-- ---- asks of other tenants, or at other addresses

same-self : (a : ServerAddress) → same_address a a ≡ true
same-self a = both (pointwise nat_eq a.host a.host) (a.port == a.port) ((bytes_decides a.host a.host).1 refl) ((Decides-eqb a.port a.port).1 refl)

at-own : (o : Standing) → standing_at o.tenant o.address o ≡ true
at-own o = both (o.tenant == o.tenant) (same_address o.address o.address) ((Decides-eqb o.tenant o.tenant).1 refl) (same-self o.address)

-- where one does not stand at the place of another, that one does not stand at its place
apart : (o q : Standing) → standing_at o.tenant o.address q ≡ false → standing_at q.tenant q.address o ≡ false
apart o q h = go (standing_at q.tenant q.address o) refl
  where
    go : (b : Bool) → standing_at q.tenant q.address o ≡ b → standing_at q.tenant q.address o ≡ false
    go false i = i
    go true i =
        let is : (o.tenant ≡ q.tenant) × (o.address ≡ q.address) = standing-is q.tenant q.address o i in
        let there : standing_at o.tenant o.address q ≡ true = subst (λ (t : ℕ). standing_at t o.address q ≡ true) (sym is.0) (subst (λ (a : ServerAddress). standing_at q.tenant a q ≡ true) (sym is.1) (at-own q)) in
        absurd (let z : true ≡ false = sym there ∙ h in cc)

uncharged : (o q : Standing) (os : List Standing) → standing_at o.tenant o.address q ≡ false → charge_in (o ∷ os) q.tenant q.address ≡ charge_in os q.tenant q.address
uncharged o q os h = rw (apart o q h) refl

-- Elsewhere the charge is the same.
abbrev pub SameElsewhere : Standing → List Standing → List Standing → Type 0
SameElsewhere o os ps = (q : Standing) → standing_at o.tenant o.address q ≡ false → charge_of ps q ≡ charge_of os q

pub same-push : (os : List Standing) (o : Standing) → SameElsewhere o os (os ++ o ∷ [])
same-push os o q h =
    let all : charge_in (os ++ o ∷ []) q.tenant q.address ≡ charge_in os q.tenant q.address + charge_in (o ∷ []) q.tenant q.address = charge-append os (o ∷ []) q.tenant q.address in
    let none : charge_in (o ∷ []) q.tenant q.address ≡ charge_in [] q.tenant q.address = uncharged o q [] h in
    omega (arith, all, none)

pub same-pop : (os : List Standing) (o : Standing) → SameElsewhere o (os ++ o ∷ []) os
same-pop os o q h = sym (same-push os o q h)

pub same-remove : (os : List Standing) (i : ℕ) (o : Standing) → i < length os → o ≡ get_or os i o → SameElsewhere o os (remove os i)
same-remove os i o l e q h =
    let t : ℕ = q.tenant in
    let a : ServerAddress = q.address in
    let split : charge_in os t a ≡ charge_in (take i os) t a + charge_in (o ∷ drop (i + 1) os) t a = ap (λ (l : List Standing). charge_in l t a) (around os i o l e) ∙ charge-append (take i os) (o ∷ drop (i + 1) os) t a in
    let none : charge_in (o ∷ drop (i + 1) os) t a ≡ charge_in (drop (i + 1) os) t a = uncharged o q (drop (i + 1) os) h in
    let left : charge_in (remove os i) t a ≡ charge_in (take i os) t a + charge_in (drop (suc i) os) t a = charge-append (take i os) (drop (suc i) os) t a in
    let same : charge_in (drop (i + 1) os) t a ≡ charge_in (drop (suc i) os) t a = ap (λ (k : ℕ). charge_in (drop k os) t a) (add-one i) in
    omega (arith, split, none, left, same)

more : (b : Bool) (m n : ℕ) → m ≡ n → (if b then 1 + m else m) ≡ (if b then 1 + n else n)
more b m n h = rw h refl

pub same-set : (os : List Standing) (i : ℕ) (o : Standing) → i < length os → o ≡ get_or os i o → SameElsewhere o os (set os i (record o { held = false }))
same-set [] i o l e q h = absurd (omega (arith, l))
same-set (x ∷ xs) zero o l e q h =
    let p : Standing = record o { held = false } in
    let there : charge_in (p ∷ xs) q.tenant q.address ≡ charge_in xs q.tenant q.address = rw (apart o q h) refl in
    there ∙ sym (uncharged o q xs h) ∙ ap (λ (y : Standing). charge_in (y ∷ xs) q.tenant q.address) e
same-set (x ∷ xs) (suc i) o l e q h = more (standing_at q.tenant q.address x && not x.held) (charge_in (set xs i (record o { held = false })) q.tenant q.address) (charge_in xs q.tenant q.address) (same-set xs i o (omega (arith, l)) e q h)

-- ---- counted where one ask changed

pub recounts : (o : Standing) (os ps ls : List Standing) → SameElsewhere o os ps → recounted o.tenant o.address (charge_in ps o.tenant o.address) ls (map (charge_of os) ls) ≡ map (charge_of ps) ls
recounts o os ps [] k = refl
recounts o os ps (q ∷ ls) k =
    ap (λ (n : ℕ). n ∷ recounted o.tenant o.address (charge_in ps o.tenant o.address) ls (map (charge_of os) ls)) (go (standing_at o.tenant o.address q) refl)
    ∙ ap (λ (l : List ℕ). charge_of ps q ∷ l) (recounts o os ps ls k)
  where
    go : (b : Bool) → standing_at o.tenant o.address q ≡ b → (if standing_at o.tenant o.address q then charge_in ps o.tenant o.address else charge_of os q) ≡ charge_of ps q
    go true i =
        let is : (q.tenant ≡ o.tenant) × (q.address ≡ o.address) = standing-is o.tenant o.address q i in
        rw i (sym (ap (λ (t : ℕ). charge_in ps t q.address) is.0 ∙ ap (λ (a : ServerAddress). charge_in ps o.tenant a) is.1))
    go false i = rw i (sym (k q i))

-- The counts of all, once those of one place were counted anew.
pub counted : (o : Standing) (os ps : List Standing) (cs ds : List ℕ) → cs ≡ map (charge_of os) ps → ds ≡ recounted o.tenant o.address (charge_in ps o.tenant o.address) ps cs → SameElsewhere o os ps → AreCounted ps ds
counted o os ps cs ds i j k = j ∙ ap (recounted o.tenant o.address (charge_in ps o.tenant o.address) ps) i ∙ recounts o os ps ps k

-- the count at a place
pub count-at : (os : List Standing) (cs : List ℕ) (i : ℕ) (o : Standing) (c : ℕ) → AreCounted os cs → i < length os → o ≡ get_or os i o → c ≡ get_or cs i c → c ≡ charge_of os o
count-at os cs i o c k l e f = f ∙ ap (λ (l : List ℕ). get_or l i c) k ∙ get_or-map (charge_of os) os i o c l ∙ ap (charge_of os) (sym e)

-- whether an ask may go, by its count
pub may-goes : (shares : List ℕ) (os : List Standing) (o : Standing) (c : ℕ) (b : Bool) → c ≡ charge_of os o → (o.held && nat_lt c (share_of shares o.tenant)) ≡ b → may_go shares os o ≡ b
may-goes shares os o c b e h = ap (λ (n : ℕ). o.held && nat_lt n (share_of shares o.tenant)) (sym e) ∙ h

pub many : (os : List Standing) (cs : List ℕ) → AreCounted os cs → length cs ≡ length os
many os cs k = ap length k ∙ length-map os (charge_of os)

-- ---- what becomes of the counts

map-same : (os ps ls : List Standing) → ((q : Standing) → charge_of ps q ≡ charge_of os q) → map (charge_of os) ls ≡ map (charge_of ps) ls
map-same os ps [] k = refl
map-same os ps (q ∷ ls) k = ap (λ (n : ℕ). n ∷ map (charge_of os) ls) (sym (k q)) ∙ ap (λ (l : List ℕ). charge_of ps q ∷ l) (map-same os ps ls k)

-- one more is held back
counted-push : (os : List Standing) (cs : List ℕ) (o : Standing) → o.held ≡ true → AreCounted os cs → AreCounted (os ++ o ∷ []) (cs ++ charge_in os o.tenant o.address ∷ [])
counted-push os cs o h k =
    ap (λ (l : List ℕ). l ++ charge_of os o ∷ []) k
    ∙ sym (map-append (charge_of os) os (o ∷ []))
    ∙ map-same os (os ++ o ∷ []) (os ++ o ∷ []) (λ q. push-charge os o q.tenant q.address h)

pub counted-pushed : (os ps : List Standing) (cs ds : List ℕ) (o : Standing) (n : ℕ) → ps ≡ os ++ o ∷ [] → ds ≡ cs ++ n ∷ [] → n ≡ charge_in os o.tenant o.address → o.held ≡ true → AreCounted os cs → AreCounted ps ds
counted-pushed os ps cs ds o n s d i h k = subst (λ (l : List Standing). AreCounted l ds) (sym s) (d ∙ ap (λ (m : ℕ). cs ++ m ∷ []) i ∙ counted-push os cs o h k)

-- the one at a place is charged
pub counted-mark : (os ps : List Standing) (cs ds : List ℕ) (i : ℕ) (o p : Standing) → AreCounted os cs → i < length os → o ≡ get_or os i o → ps ≡ set os i (record o { held = false }) → p ≡ get_or ps i p
    → ds ≡ recounted p.tenant p.address (charge_in ps p.tenant p.address) ps cs → AreCounted ps ds
counted-mark os ps cs ds i o p k l e s f j =
    let q : Standing = record o { held = false } in
    let is : p ≡ q = f ∙ ap (λ (l : List Standing). get_or l i p) s ∙ get_or-set_same os i q p l in
    let again : ds ≡ recounted o.tenant o.address (charge_in ps o.tenant o.address) ps cs = j ∙ ap (λ (x : Standing). recounted x.tenant x.address (charge_in ps x.tenant x.address) ps cs) is in
    let was : cs ≡ map (charge_of os) ps = k ∙ sym (ap (map (charge_of os)) s ∙ map-set_same (charge_of os) os i q o (ap (charge_of os) e)) in
    counted o os ps cs ds was again (subst (λ (l : List Standing). SameElsewhere o os l) (sym s) (same-set os i o l e))

map-remove : (f : Standing → ℕ) (os : List Standing) (i : ℕ) → map f (remove os i) ≡ remove (map f os) i
map-remove f os i = map-append f (take i os) (drop (suc i) os) ∙ ap (λ (l : List ℕ). l ++ map f (drop (suc i) os)) (sym (take-map f i os)) ∙ ap (λ (l : List ℕ). take i (map f os) ++ l) (sym (drop-map f (suc i) os))

-- the one at a place goes
pub counted-remove : (os ps : List Standing) (cs ds es : List ℕ) (i : ℕ) (o : Standing) → AreCounted os cs → i < length os → o ≡ get_or os i o → ps ≡ remove os i → ds ≡ remove cs i
    → es ≡ recounted o.tenant o.address (charge_in ps o.tenant o.address) ps ds → AreCounted ps es
counted-remove os ps cs ds es i o k l e s d j =
    let was : ds ≡ map (charge_of os) ps = d ∙ ap (λ (l : List ℕ). remove l i) k ∙ sym (ap (map (charge_of os)) s ∙ map-remove (charge_of os) os i) in
    counted o os ps ds es was j (subst (λ (l : List Standing). SameElsewhere o os l) (sym s) (same-remove os i o l e))

pub many-left : (os ps : List Standing) (cs ds : List ℕ) (i : ℕ) → AreCounted os cs → ps ≡ remove os i → ds ≡ remove cs i → length ds ≡ length ps
many-left os ps cs ds i k s d = ap length d ∙ ap (λ (l : List ℕ). length (remove l i)) k ∙ ap length (sym (map-remove (charge_of os) os i)) ∙ length-map (remove os i) (charge_of os) ∙ ap length (sym s)

remove-last : (os : List Standing) (o : Standing) → remove (os ++ o ∷ []) (length os) ≡ os
remove-last [] o = refl
remove-last (x ∷ os) o = ap (λ (l : List Standing). x ∷ l) (remove-last os o)

-- all but the last are left
pub left-of : (os ps ls : List Standing) (i : ℕ) (o : Standing) → os ≡ ls ++ o ∷ [] → i + 1 ≡ length os → ps ≡ remove os i → ps ≡ ls
left-of os ps ls i o e n s =
    let at : i ≡ length ls = omega (arith, n, ap length e, length-append ls (o ∷ [])) in
    s ∙ ap (λ (l : List Standing). remove l i) e ∙ ap (remove (ls ++ o ∷ [])) at ∙ remove-last ls o

-- ---- the loop that counts

pub length-recounted : (t : ℕ) (a : ServerAddress) (n : ℕ) (os : List Standing) (cs : List ℕ) → length (recounted t a n os cs) ≡ length cs
length-recounted t a n [] cs = refl
length-recounted t a n (o ∷ os) [] = refl
length-recounted t a n (o ∷ os) (c ∷ cs) = ap suc (length-recounted t a n os cs)

recount-set : (t : ℕ) (a : ServerAddress) (n : ℕ) (os : List Standing) (cs : List ℕ) (k : ℕ) (o : Standing) → k < length os → length cs ≡ length os → o ≡ get_or os k o → standing_at t a o ≡ true
    → set (recounted t a n (take k os) cs) k n ≡ recounted t a n (take (suc k) os) cs
recount-set t a n [] cs k o l m e h = absurd (omega (arith, l))
recount-set t a n (x ∷ xs) [] k o l m e h = absurd (omega (arith, m))
recount-set t a n (x ∷ xs) (c ∷ cs) zero o l m e h = rw (subst (λ (y : Standing). standing_at t a y ≡ true) e h) refl
recount-set t a n (x ∷ xs) (c ∷ cs) (suc k) o l m e h = ap (λ (l : List ℕ). (if standing_at t a x then n else c) ∷ l) (recount-set t a n xs cs k o (omega (arith, l)) (omega (arith, m)) e h)

recount-skip : (t : ℕ) (a : ServerAddress) (n : ℕ) (os : List Standing) (cs : List ℕ) (k : ℕ) (o : Standing) → k < length os → length cs ≡ length os → o ≡ get_or os k o → standing_at t a o ≡ false
    → recounted t a n (take k os) cs ≡ recounted t a n (take (suc k) os) cs
recount-skip t a n [] cs k o l m e h = absurd (omega (arith, l))
recount-skip t a n (x ∷ xs) [] k o l m e h = absurd (omega (arith, m))
recount-skip t a n (x ∷ xs) (c ∷ cs) zero o l m e h = rw (subst (λ (y : Standing). standing_at t a y ≡ false) e h) refl
recount-skip t a n (x ∷ xs) (c ∷ cs) (suc k) o l m e h = ap (λ (l : List ℕ). (if standing_at t a x then n else c) ∷ l) (recount-skip t a n xs cs k o (omega (arith, l)) (omega (arith, m)) e h)

pub turn-set : (t : ℕ) (a : ServerAddress) (n : ℕ) (os : List Standing) (cs : List ℕ) (k : ℕ) (o : Standing) → k < length os → length cs ≡ length os → o ≡ get_or os k o → standing_at t a o ≡ true
    → set (recounted t a n (take k os) cs) k n ≡ recounted t a n (take (k + 1) os) cs
turn-set t a n os cs k o l m e h = recount-set t a n os cs k o l m e h ∙ ap (λ (j : ℕ). recounted t a n (take j os) cs) (sym (add-one k))

pub turn-skip : (t : ℕ) (a : ServerAddress) (n : ℕ) (os : List Standing) (cs : List ℕ) (k : ℕ) (o : Standing) → k < length os → length cs ≡ length os → o ≡ get_or os k o → standing_at t a o ≡ false
    → recounted t a n (take k os) cs ≡ recounted t a n (take (k + 1) os) cs
turn-skip t a n os cs k o l m e h = recount-skip t a n os cs k o l m e h ∙ ap (λ (j : ℕ). recounted t a n (take j os) cs) (sym (add-one k))

-- one more turn of the loop
pub turn : (t : ℕ) (a : ServerAddress) (n : ℕ) (os : List Standing) (cs now new : List ℕ) (k : ℕ) → k < length os → length cs ≡ length os → now ≡ recounted t a n (take k os) cs
    → HoldsAt (λ o. new ≡ (if standing_at t a o then set now k n else now)) os k → new ≡ recounted t a n (take (k + 1) os) cs
turn t a n os cs now new k l m e h =
    let o : Standing = get_or os k (first-of os l) in
    let is : o ≡ get_or os k o = same-get os k (first-of os l) o l in
    go o is (standing_at t a o) refl (h (first-of os l))
  where
    first-of : (os : List Standing) → k < length os → Standing
    first-of [] l = absurd (omega (arith, l))
    first-of (x ∷ xs) l = x

    same-get : (os : List Standing) (k : ℕ) (d e : Standing) → k < length os → get_or os k d ≡ get_or os k e
    same-get [] k d e l = absurd (omega (arith, l))
    same-get (x ∷ xs) zero d e l = refl
    same-get (x ∷ xs) (suc k) d e l = same-get xs k d e (omega (arith, l))

    go : (o : Standing) → o ≡ get_or os k o → (b : Bool) → standing_at t a o ≡ b → new ≡ (if standing_at t a o then set now k n else now) → new ≡ recounted t a n (take (k + 1) os) cs
    go o is true i j = j ∙ (rw i refl) ∙ ap (λ (l : List ℕ). set l k n) e ∙ turn-set t a n os cs k o l m is i
    go o is false i j = j ∙ (rw i refl) ∙ e ∙ turn-skip t a n os cs k o l m is i

pub length-turn : (now new : List ℕ) (b : Bool) (k n m : ℕ) → length now ≡ m → new ≡ (if b then set now k n else now) → length new ≡ m
length-turn now new true k n m h e = ap length e ∙ length-set now k n ∙ h
length-turn now new false k n m h e = ap length e ∙ h
