-- What the nodes hold after a slot was taken or given back.
use Rattle.std.proofs.Common.{◌≡◌, ℕ, Bool, true, false, Option, Some, None, List, [], ◌∷◌, length, refl, arith, length-set}
use Rattle.std.proofs.lemmas.Grind.{common_steps}
use Rattle.mdb_slots.specs.declared.node.Node.{Node}
use Rattle.mdb_slots.specs.Lists.{has, head_or, last_or}
use Rattle.mdb_slots.specs.Chain.{node_at, Chain, Vacant, walk, lead_to, lead_back}
use Rattle.mdb_slots.specs.Links.{IsLaid, Keeps}
use Rattle.mdb_slots.proofs.Chains.{chain-set, vacant-set, chain-member, vacant-member, last-has, walk-chain, walk-vacant}

-- the lists are the walks
pub laid-order : {ns : List Node} {f l fr : Option ℕ} {len sp : ℕ} {us fs : List ℕ} → IsLaid ns f l fr len sp us fs → walk len f ns ≡ us
laid-order {ns = ns} {us = us} h = rw (h.len_is, h.first_is) (walk-chain ns None us h.chain)

pub laid-free : {ns : List Node} {f l fr : Option ℕ} {len sp : ℕ} {us fs : List ℕ} → IsLaid ns f l fr len sp us fs → walk sp fr ns ≡ fs
laid-free {ns = ns} {fs = fs} h = rw (h.spare_is, h.free_is) (walk-vacant ns fs h.vacant)

pub laid-keeps : {ns : List Node} {f l fr : Option ℕ} {len sp : ℕ} {us fs : List ℕ} → IsLaid ns f l fr len sp us fs → Keeps ns f l fr len sp
laid-keeps {ns = ns} {f = f} {l = l} {fr = fr} {len = len} {sp = sp} h = rw (laid-order h, laid-free h) h

pub length-lead_to : (o a : Option ℕ) (ns : List Node) → length (lead_to o a ns) ≡ length ns
length-lead_to None a ns = refl
length-lead_to (Some b) a ns = length-set ns b (record (node_at ns b) { after = a })

pub length-lead_back : (o a : Option ℕ) (ns : List Node) → length (lead_back o a ns) ≡ length ns
length-lead_back None a ns = refl
length-lead_back (Some b) a ns = length-set ns b (record (node_at ns b) { before = a })

-- a link that is not of the list
abbrev pub Outside : Option ℕ → List ℕ → Type 0
Outside None xs = Unit {0}
Outside (Some k) xs = has k xs ≡ false

pub chain-lead_to : (ns : List Node) (o a p : Option ℕ) (xs : List ℕ) (q : Option ℕ) → Outside o xs → Chain ns p xs q → Chain (lead_to o a ns) p xs q
chain-lead_to ns None a p xs q h c = c
chain-lead_to ns (Some k) a p xs q h c = chain-set ns k (record (node_at ns k) { after = a }) p xs q h c

pub chain-lead_back : (ns : List Node) (o a p : Option ℕ) (xs : List ℕ) (q : Option ℕ) → Outside o xs → Chain ns p xs q → Chain (lead_back o a ns) p xs q
chain-lead_back ns None a p xs q h c = c
chain-lead_back ns (Some k) a p xs q h c = chain-set ns k (record (node_at ns k) { before = a }) p xs q h c

pub vacant-lead_to : (ns : List Node) (o a : Option ℕ) (xs : List ℕ) → Outside o xs → Vacant ns xs → Vacant (lead_to o a ns) xs
vacant-lead_to ns None a xs h c = c
vacant-lead_to ns (Some k) a xs h c = vacant-set ns k (record (node_at ns k) { after = a }) xs h c

pub vacant-lead_back : (ns : List Node) (o a : Option ℕ) (xs : List ℕ) → Outside o xs → Vacant ns xs → Vacant (lead_back o a ns) xs
vacant-lead_back ns None a xs h c = c
vacant-lead_back ns (Some k) a xs h c = vacant-set ns k (record (node_at ns k) { before = a }) xs h c

-- the ends of a list are outside of what its members are outside of
pub last-outside : (xs ys : List ℕ) → ((k : ℕ) → has k xs ≡ true → has k ys ≡ false) → Outside (last_or None xs) ys
last-outside [] ys g = tt
last-outside (x ∷ xs) ys g = on (last_or (Some x) xs) (λ k e. g k (last-has x xs k e))
  where
    on : (o : Option ℕ) → ((k : ℕ) → o ≡ Some k → has k ys ≡ false) → Outside o ys
    on None m = tt
    on (Some k) m = m k refl

pub has-first : (x : ℕ) (xs : List ℕ) → has x (x ∷ xs) ≡ true
has-first x xs = grind (arith, common_steps)

pub head-outside : (xs ys : List ℕ) → ((k : ℕ) → has k xs ≡ true → has k ys ≡ false) → Outside (head_or None xs) ys
head-outside [] ys g = tt
head-outside (x ∷ xs) ys g = g x (has-first x xs)

-- no used slot is free
pub used-not_free : (ns : List Node) (us fs : List ℕ) (k : ℕ) → Chain ns None us None → Vacant ns fs → has k us ≡ true → has k fs ≡ false
used-not_free ns us fs k c v h = on (has k fs) refl
  where
    on : (b : Bool) → has k fs ≡ b → has k fs ≡ false
    on false e = e
    on true e =
        let m : (node_at ns k).used ≡ true = (chain-member ns None us None k c h).1 in
        let n : (node_at ns k).used ≡ false = vacant-member ns fs k v e in
        cc

pub free-not_used : (ns : List Node) (us fs : List ℕ) (k : ℕ) → Chain ns None us None → Vacant ns fs → has k fs ≡ true → has k us ≡ false
free-not_used ns us fs k c v h = on (has k us) refl
  where
    on : (b : Bool) → has k us ≡ b → has k us ≡ false
    on false e = e
    on true e = let m : has k fs ≡ false = used-not_free ns us fs k c v e in cc
