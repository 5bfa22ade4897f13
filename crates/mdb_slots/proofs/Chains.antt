-- Lists that are kept as a chain through the nodes of a vector.
use Rattle.std.proofs.Common.{◌≡◌, ◌≢◌, ℕ, zero, suc, ◌<◌, ◌≤◌, if◌then◌else◌, Bool, true, false, ◌==◌, Option, Some, None, List, [], ◌∷◌, ◌++◌, length, refl, sym, ◌∙◌, ap, subst, arith, set, get_or-set_other, get_or-set_same, length-set}
use Rattle.std.proofs.lemmas.Grind.{common_steps}
use Rattle.mdb_slots.specs.declared.node.Node.{Node}
use Rattle.mdb_slots.specs.Lists.{has, apart, head_or, last_or}
use Rattle.mdb_slots.specs.Chain.{node, node_at, Chain, Vacant, walk, lead_to, lead_back}
use Rattle.mdb_slots.proofs.Lists.{apart-first, apart-rest}

pub ne-of : (x t : ℕ) (xs : List ℕ) → has t (x ∷ xs) ≡ false → x ≢ t
ne-of x t xs e = λ h. grind (arith, common_steps, h, e)

pub rest-of : (x t : ℕ) (xs : List ℕ) → has t (x ∷ xs) ≡ false → has t xs ≡ false
rest-of x t xs e = grind (arith, common_steps, e)

-- a write to another slot
pub chain-set : (ns : List Node) (t : ℕ) (y : Node) (p : Option ℕ) (xs : List ℕ) (q : Option ℕ) → has t xs ≡ false → Chain ns p xs q → Chain (set ns t y) p xs q
chain-set ns t y p [] q e c = tt
chain-set ns t y p (x ∷ xs) q e c =
    (rw (length-set ns t y) c.0, get_or-set_other ns t x y (node None None false) (ne-of x t xs e) ∙ c.1, chain-set ns t y (Some x) xs q (rest-of x t xs e) c.2)

pub vacant-set : (ns : List Node) (t : ℕ) (y : Node) (xs : List ℕ) → has t xs ≡ false → Vacant ns xs → Vacant (set ns t y) xs
vacant-set ns t y [] e c = tt
vacant-set ns t y (x ∷ xs) e c =
    (rw (length-set ns t y) c.0, get_or-set_other ns t x y (node None None false) (ne-of x t xs e) ∙ c.1, vacant-set ns t y xs (rest-of x t xs e) c.2)

pub head-append : (q : Option ℕ) (x : ℕ) (xs ys : List ℕ) → head_or q (xs ++ x ∷ ys) ≡ head_or (Some x) xs
head-append q x [] ys = refl
head-append q x (y ∷ xs) ys = refl

pub head-join : (q : Option ℕ) (xs ys : List ℕ) → head_or q (xs ++ ys) ≡ head_or (head_or q ys) xs
head-join q [] ys = refl
head-join q (y ∷ xs) ys = refl

pub chain-join : (ns : List Node) (p : Option ℕ) (xs ys : List ℕ) (q : Option ℕ) → Chain ns p xs (head_or q ys) → Chain ns (last_or p xs) ys q → Chain ns p (xs ++ ys) q
chain-join ns p [] ys q c d = d
chain-join ns p (x ∷ xs) ys q c d =
    (c.0, c.1 ∙ ap (λ o. node p o true) (sym (head-join q xs ys)), chain-join ns (Some x) xs ys q c.2 d)

pub chain-front : (ns : List Node) (p : Option ℕ) (xs ys : List ℕ) (q : Option ℕ) → Chain ns p (xs ++ ys) q → Chain ns p xs (head_or q ys)
chain-front ns p [] ys q c = tt
chain-front ns p (x ∷ xs) ys q c =
    (c.0, c.1 ∙ ap (λ o. node p o true) (head-join q xs ys), chain-front ns (Some x) xs ys q c.2)

pub chain-back : (ns : List Node) (p : Option ℕ) (xs ys : List ℕ) (q : Option ℕ) → Chain ns p (xs ++ ys) q → Chain ns (last_or p xs) ys q
chain-back ns p [] ys q c = c
chain-back ns p (x ∷ xs) ys q c = chain-back ns (Some x) xs ys q c.2

pub apart-ne : (x k : ℕ) (xs : List ℕ) → has x xs ≡ false → has k xs ≡ true → x ≢ k
apart-ne x k xs a m w = let h : has k xs ≡ false = subst (λ (j : ℕ). has j xs ≡ false) w a in cc

pub last-has : (y : ℕ) (ys : List ℕ) (k : ℕ) → last_or (Some y) ys ≡ Some k → has k (y ∷ ys) ≡ true
last-has y [] k h = grind (arith, common_steps, h)
last-has y (z ∷ zs) k h = grind (arith, common_steps, last-has z zs k h)

-- the last node of the chain is followed by q' from now on
pub chain-end : (ns : List Node) (x : ℕ) (p : Option ℕ) (xs : List ℕ) (q q' : Option ℕ) → apart (x ∷ xs) ≡ true → Chain ns p (x ∷ xs) q → Chain (lead_to (last_or (Some x) xs) q' ns) p (x ∷ xs) q'
chain-end ns x p [] q q' e c = (
  rw (length-set ns x (record (node_at ns x) { after = q' })) c.0,
  get_or-set_same ns x (record (node_at ns x) { after = q' }) (node None None false) c.0 ∙ ap (λ (n : Node). record n { after = q' }) c.1,
  tt,
)
chain-end ns x p (y ∷ ys) q q' e c =
    let h : apart (y ∷ ys) ≡ true = apart-rest x (y ∷ ys) e in
    let d = chain-end ns y (Some x) ys q q' h c.2 in
    first (apart-first x (y ∷ ys) e) (last_or (Some y) ys) (last-has y ys) d
  where
    first : has x (y ∷ ys) ≡ false → (o : Option ℕ) → ((k : ℕ) → o ≡ Some k → has k (y ∷ ys) ≡ true) → Chain (lead_to o q' ns) (Some x) (y ∷ ys) q' → Chain (lead_to o q' ns) p (x ∷ y ∷ ys) q'
    first a None g d = (c.0, c.1, d)
    first a (Some k) g d =
        let m : has k (y ∷ ys) ≡ true = g k refl in
        let ne : x ≢ k = apart-ne x k (y ∷ ys) a m in
        (rw (length-set ns k (record (node_at ns k) { after = q' })) c.0, get_or-set_other ns k x (record (node_at ns k) { after = q' }) (node None None false) ne ∙ c.1, d)

-- the first node of the chain is preceded by p' from now on
pub chain-start : (ns : List Node) (x : ℕ) (p p' : Option ℕ) (xs : List ℕ) (q : Option ℕ) → has x xs ≡ false → Chain ns p (x ∷ xs) q → Chain (lead_back (Some x) p' ns) p' (x ∷ xs) q
chain-start ns x p p' xs q e c = (
  rw (length-set ns x (record (node_at ns x) { before = p' })) c.0,
  get_or-set_same ns x (record (node_at ns x) { before = p' }) (node None None false) c.0 ∙ ap (λ (n : Node). record n { before = p' }) c.1,
  chain-set ns x (record (node_at ns x) { before = p' }) (Some x) xs q e c.2,
)

-- a number of a chain is in range, and its node is in use
pub chain-member : (ns : List Node) (p : Option ℕ) (xs : List ℕ) (q : Option ℕ) (k : ℕ) → Chain ns p xs q → has k xs ≡ true → (k < length ns) × ((node_at ns k).used ≡ true)
chain-member ns p [] q k c e = cc
chain-member ns p (x ∷ xs) q k c e = on (chain-member ns (Some x) xs q k c.2) (x == k) refl
  where
    on : (has k xs ≡ true → (k < length ns) × ((node_at ns k).used ≡ true)) → (b : Bool) → (x == k) ≡ b → (k < length ns) × ((node_at ns k).used ≡ true)
    on more true w =
        let h : x ≡ k = grind (arith, common_steps, w) in
        subst (λ (j : ℕ). (j < length ns) × ((node_at ns j).used ≡ true)) h (c.0, ap (λ (n : Node). n.used) c.1)
    on more false w =
        let h : has k xs ≡ true = grind (arith, common_steps, w, e) in
        more h

pub vacant-member : (ns : List Node) (xs : List ℕ) (k : ℕ) → Vacant ns xs → has k xs ≡ true → (node_at ns k).used ≡ false
vacant-member ns [] k c e = cc
vacant-member ns (x ∷ xs) k c e = on (vacant-member ns xs k c.2) (x == k) refl
  where
    on : (has k xs ≡ true → (node_at ns k).used ≡ false) → (b : Bool) → (x == k) ≡ b → (node_at ns k).used ≡ false
    on more true w =
        let h : x ≡ k = grind (arith, common_steps, w) in
        subst (λ (j : ℕ). (node_at ns j).used ≡ false) h (ap (λ (n : Node). n.used) c.1)
    on more false w =
        let h : has k xs ≡ true = grind (arith, common_steps, w, e) in
        more h

pub walk-chain : (ns : List Node) (p : Option ℕ) (xs : List ℕ) → Chain ns p xs None → walk (length xs) (head_or None xs) ns ≡ xs
walk-chain ns p [] c = refl
walk-chain ns p (x ∷ xs) c = ap (λ zs. x ∷ zs) (ap (λ (n : Node). walk (length xs) n.after ns) c.1 ∙ walk-chain ns (Some x) xs c.2)

pub walk-vacant : (ns : List Node) (xs : List ℕ) → Vacant ns xs → walk (length xs) (head_or None xs) ns ≡ xs
walk-vacant ns [] c = refl
walk-vacant ns (x ∷ xs) c = ap (λ zs. x ∷ zs) (ap (λ (n : Node). walk (length xs) n.after ns) c.1 ∙ walk-vacant ns xs c.2)

-- a write that leaves it open whether the slot is in use
pub used-same : (ns : List Node) (b : ℕ) (y : Node) (k : ℕ) → y.used ≡ (node_at ns b).used → (node_at (set ns b y) k).used ≡ (node_at ns k).used
used-same [] b y k e = refl
used-same (x ∷ xs) zero y zero e = e
used-same (x ∷ xs) zero y (suc k) e = refl
used-same (x ∷ xs) (suc b) y zero e = refl
used-same (x ∷ xs) (suc b) y (suc k) e = used-same xs b y k e

pub used-lead_to : (o a : Option ℕ) (ns : List Node) (k : ℕ) → (node_at (lead_to o a ns) k).used ≡ (node_at ns k).used
used-lead_to None a ns k = refl
used-lead_to (Some b) a ns k = used-same ns b (record (node_at ns b) { after = a }) k refl

pub used-lead_back : (o a : Option ℕ) (ns : List Node) (k : ℕ) → (node_at (lead_back o a ns) k).used ≡ (node_at ns k).used
used-lead_back None a ns k = refl
used-lead_back (Some b) a ns k = used-same ns b (record (node_at ns b) { before = a }) k refl

-- a write that decides whether the slot is in use
pub used-set : (ns : List Node) (b : ℕ) (y : Node) (k : ℕ) → b < length ns → (node_at (set ns b y) k).used ≡ if b == k then y.used else (node_at ns k).used
used-set ns b y k h = on (b == k) refl
  where
    on : (v : Bool) → (b == k) ≡ v → (node_at (set ns b y) k).used ≡ if b == k then y.used else (node_at ns k).used
    on true w =
        let e : k ≡ b = grind (arith, common_steps, w) in
        rw (w, e) (ap (λ (n : Node). n.used) (get_or-set_same ns b y (node None None false) h))
    on false w =
        let e : k ≢ b = λ v. grind (arith, common_steps, w, v) in
        rw w (ap (λ (n : Node). n.used) (get_or-set_other ns b k y (node None None false) e))

pub used-grow : (ns : List Node) (m : Node) (k : ℕ) → m.used ≡ false → (node_at (ns ++ m ∷ []) k).used ≡ (node_at ns k).used
used-grow [] m zero e = e
used-grow [] m (suc k) e = refl
used-grow (x ∷ xs) m zero e = refl
used-grow (x ∷ xs) m (suc k) e = used-grow xs m k e

pub used-past : (ns : List Node) (k : ℕ) → length ns ≤ k → (node_at ns k).used ≡ false
used-past [] k h = refl
used-past (x ∷ xs) zero h = absurd (omega (arith, h))
used-past (x ∷ xs) (suc k) h = used-past xs k (omega (arith, h))
