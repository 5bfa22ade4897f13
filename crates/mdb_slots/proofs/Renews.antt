-- A slot in use becomes the newest.
use Rattle.std.proofs.Common.{◌≡◌, ◌≢◌, ℕ, ◌+◌, ◌-◌, ◌<◌, true, false, Option, Some, None, List, [], ◌∷◌, ◌++◌, length, refl, sym, ◌∙◌, ap, subst, arith, set, get_or-set_other, get_or-set_same, length-set}
use Rattle.std.proofs.lemmas.List.{append-nil, set_comm, set-set}
use Rattle.mdb_slots.specs.declared.node.Node.{Node}
use Rattle.mdb_slots.specs.Lists.{has, apart, without, head_or, last_or}
use Rattle.mdb_slots.specs.Chain.{node, node_at, lead_to, lead_back}
use Rattle.mdb_slots.specs.Links.{IsLaid, where_none}
use Rattle.mdb_slots.proofs.Lists.{apart-parts, without-at, has-without, length-without}
use Rattle.mdb_slots.proofs.Chains.{last-has}
use Rattle.mdb_slots.proofs.Moves.{laid-push, where_none-last}
use Rattle.mdb_slots.proofs.Removes.{stands, remove-laid}

-- a write to a node, and a link from another
lead_to-set : (o a : Option ℕ) (k : ℕ) (n : Node) (ns : List Node) → ((j : ℕ) → o ≡ Some j → j ≢ k) → lead_to o a (set ns k n) ≡ set (lead_to o a ns) k n
lead_to-set None a k n ns d = refl
lead_to-set (Some j) a k n ns d =
    let e : node_at (set ns k n) j ≡ node_at ns j = get_or-set_other ns k j n (node None None false) (d j refl) in
    ap (λ (x : Node). set (set ns k n) j (record x { after = a })) e ∙ set_comm ns k j n (record (node_at ns j) { after = a }) (λ z. d j refl (sym z))

last-member : (xs : List ℕ) (j : ℕ) → last_or None xs ≡ Some j → has j xs ≡ true
last-member [] j e = cc
last-member (x ∷ xs) j e = last-has x xs j e

last-other : (k : ℕ) (xs : List ℕ) (j : ℕ) → has k xs ≡ false → last_or None xs ≡ Some j → j ≢ k
last-other k xs j h e z =
    let m : has j xs ≡ true = last-member xs j e in
    let f : has j xs ≡ false = subst (λ (i : ℕ). has i xs ≡ false) (sym z) h in
    cc

where_none-member : (k : ℕ) (us : List ℕ) (a b : Option ℕ) → has k us ≡ true → where_none (last_or None us) a b ≡ b
where_none-member k [] a b m = cc
where_none-member k (x ∷ xs) a b m = where_none-last x xs a b

-- the slot that was given back is taken again, though it was not written between
laid-again : {f l fr : Option ℕ} {len sp : ℕ} {us fs : List ℕ} (ns : List Node) (k : ℕ) → IsLaid (set ns k (node None fr false)) f l (Some k) len sp us (k ∷ fs) → has k us ≡ false → where_none l (Some k) f ≡ f → IsLaid (set (lead_to l (Some k) ns) k (node l None true)) f (Some k) fr (len + 1) (sp - 1) (us ++ k ∷ []) fs
laid-again {f = f} {l = l} {fr = fr} {len = len} {sp = sp} {us = us} {fs = fs} ns k h n w =
    let p = laid-push (set ns k (node None fr false)) f l (Some k) len sp us k fs h in
    let a : lead_to l (Some k) (set ns k (node None fr false)) ≡ set (lead_to l (Some k) ns) k (node None fr false) = lead_to-set l (Some k) k (node None fr false) ns (λ j e. last-other k us j n (sym h.last_is ∙ e)) in
    let s = set-set (lead_to l (Some k) ns) k (node None fr false) (node l None true) in
    let b : k < length ns = rw (← length-set ns k (node None fr false)) h.vacant.0 in
    let v : (node_at (set ns k (node None fr false)) k).after ≡ fr = ap (λ (x : Node). x.after) (get_or-set_same ns k (node None fr false) (node None None false) b) in
    rw (a, s, v, w) at p

-- a slot with another after it comes last
pub laid-renew : {ns : List Node} {f l fr : Option ℕ} {len sp : ℕ} {us fs : List ℕ} → (k j : ℕ) (n : Node) → IsLaid ns f l fr len sp us fs → has k us ≡ true → n ≡ node_at ns k → n.after ≡ Some j → IsLaid (set (lead_to l (Some k) (lead_back n.after n.before (lead_to n.before n.after ns))) k (node l None true)) (where_none n.before n.after f) (Some k) fr len sp (without k us ++ k ∷ []) fs
laid-renew {ns = ns} {f = f} {l = l} {fr = fr} {len = len} {sp = sp} {us = us} {fs = fs} k j n h m e o =
    let r = remove-laid k n h m e in
    let w : where_none n.after n.before l ≡ l = rw o refl in
    let t = rw w at r in
    let g : where_none l (Some k) (where_none n.before n.after f) ≡ where_none n.before n.after f = rw h.last_is (where_none-member k us _ _ m) in
    let p = laid-again (lead_back n.after n.before (lead_to n.before n.after ns)) k t (has-without k us) g in
    let c : len - 1 + 1 ≡ len = omega (arith, h.len_is, length-without k us m) in
    let d : sp + 1 - 1 ≡ sp = omega arith in
    rw (c, d) at p

-- a slot with none after it is the last
pub last-stays : {ns : List Node} {f l fr : Option ℕ} {len sp : ℕ} {us fs : List ℕ} → (k : ℕ) (n : Node) → IsLaid ns f l fr len sp us fs → has k us ≡ true → n ≡ node_at ns k → n.after ≡ None → without k us ++ k ∷ [] ≡ us
last-stays {ns = ns} {us = us} k n h m e o =
    let s = stands ns k us h.chain m in
    on s.xs s.ys s.is (sym (ap (λ (x : Node). x.after) (e ∙ s.node_is)) ∙ o)
  where
    on : (xs ys : List ℕ) → us ≡ xs ++ k ∷ ys → head_or None ys ≡ None → without k us ++ k ∷ [] ≡ us
    on xs [] i z =
        let g : apart (xs ++ k ∷ []) ≡ true = subst (λ (zs : List ℕ). apart zs ≡ true) i h.once in
        let a = apart-parts k xs [] g in
        rw (i, without-at k xs [] a.k_before a.k_after, append-nil xs) refl
    on xs (y ∷ ys) i z = cc
