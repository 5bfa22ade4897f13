-- A slot is given back, and slots are added.
use Rattle.std.proofs.Common.{◌≡◌, ℕ, ◌+◌, ◌-◌, ◌^◌, ◌<◌, ◌==◌, if◌then◌else◌, Bool, true, false, Option, Some, None, IfSome, List, [], ◌∷◌, ◌++◌, length, refl, sym, ◌∙◌, ap, subst, arith, set, get_or-set_same, length-set, length-append}
use Rattle.std.proofs.lemmas.Grind.{common_steps}
use Rattle.mdb_slots.specs.declared.node.Node.{Node}
use Rattle.mdb_slots.specs.Lists.{has, apart, head_or, last_or, without, next, previous}
use Rattle.mdb_slots.specs.Chain.{node, node_at, Chain, Vacant, lead_to, lead_back}
use Rattle.mdb_slots.specs.Links.{IsLaid, where_none}
use Rattle.mdb_slots.proofs.Lists.{last_or-append, Apart, apart-parts, apart-across, parts, without-at, has-append}
use Rattle.mdb_slots.proofs.Chains.{chain-set, vacant-set, chain-join, chain-front, chain-back, chain-member, last-has, used-set, used-lead_to, used-lead_back}
use Rattle.mdb_slots.proofs.Layouts.{length-lead_to, length-lead_back, Outside, chain-lead_to, chain-lead_back, vacant-lead_to, vacant-lead_back, last-outside, head-outside, used-not_free}
use Rattle.mdb_slots.proofs.Moves.{chain-on, chain-from, where_none-last}

-- the links past s
abbrev pub past : List Node → ℕ → List ℕ → List ℕ → Option ℕ → List Node
past ns s xs ys fr = set (lead_back (head_or None ys) (last_or None xs) (lead_to (last_or None xs) (head_or None ys) ns)) s (node None fr false)

first-remove : (xs : List ℕ) (s : ℕ) (ys : List ℕ) → where_none (last_or None xs) (head_or None ys) (head_or None (xs ++ s ∷ ys)) ≡ head_or None (xs ++ ys)
first-remove [] s ys = refl
first-remove (x ∷ xs) s ys = where_none-last x xs (head_or None ys) (Some x)

last-remove : (xs : List ℕ) (s : ℕ) (ys : List ℕ) → where_none (head_or None ys) (last_or None xs) (last_or None (xs ++ s ∷ ys)) ≡ last_or None (xs ++ ys)
last-remove xs s [] = sym (last_or-append None xs [])
last-remove xs s (y ∷ ys) = last_or-append None xs (s ∷ y ∷ ys) ∙ sym (last_or-append None xs (y ∷ ys))

not-both : (a b : Bool) → (b ≡ true → a ≡ false) → a ≡ true → b ≡ false
not-both a true g e = let h : a ≡ false = g refl in cc
not-both a false g e = refl

-- the members of the second part do not stand in the first
across-back : (xs ys : List ℕ) (k : ℕ) → apart (xs ++ ys) ≡ true → has k ys ≡ true → has k xs ≡ false
across-back xs ys k e h = not-both (has k ys) (has k xs) (λ m. apart-across k xs ys e m) h

has-part : (k s : ℕ) (xs ys : List ℕ) → has k xs ≡ true → has k (xs ++ s ∷ ys) ≡ true
has-part k s xs ys h = grind (arith, common_steps, h, has-append k xs (s ∷ ys))

has-later : (k s : ℕ) (xs ys : List ℕ) → has k ys ≡ true → has k (xs ++ s ∷ ys) ≡ true
has-later k s xs ys h = grind (arith, common_steps, h, has-append k xs (s ∷ ys))

has-middle : (s : ℕ) (xs ys : List ℕ) → has s (xs ++ s ∷ ys) ≡ true
has-middle s xs ys = grind (arith, common_steps, has-append s xs (s ∷ ys))

pub node-removed : (ns : List Node) (xs : List ℕ) (s : ℕ) (ys : List ℕ) → Chain ns None (xs ++ s ∷ ys) None → node_at ns s ≡ node (last_or None xs) (head_or None ys) true
node-removed ns xs s ys c = (chain-back ns None xs (s ∷ ys) None c).1

cover-remove : (xs : List ℕ) (s : ℕ) (ys : List ℕ) (u : Bool) (k : ℕ) → has s xs ≡ false → has s ys ≡ false → u ≡ has k (xs ++ s ∷ ys) → (if s == k then false else u) ≡ has k (xs ++ ys)
cover-remove xs s ys u k a b e = grind (arith, common_steps, e, has-append k xs (s ∷ ys), has-append k xs ys)

pub laid-remove : (ns : List Node) (f l fr : Option ℕ) (len sp : ℕ) (xs : List ℕ) (s : ℕ) (ys fs : List ℕ) → IsLaid ns f l fr len sp (xs ++ s ∷ ys) fs → IsLaid (past ns s xs ys fr) (where_none (last_or None xs) (head_or None ys) f) (where_none (head_or None ys) (last_or None xs) l) (Some s) (len - 1) (sp + 1) (xs ++ ys) (s ∷ fs)
laid-remove ns f l fr len sp xs s ys fs h =
    rw (h.last_is, h.first_is) (record {
      chain = chain-join _ None xs ys None (chain-set _ s _ None xs (head_or None ys) apt.k_before front2) (chain-set _ s _ (last_or None xs) ys None apt.k_after back2);
      first_is = first-remove xs s ys;
      last_is = last-remove xs s ys;
      once = apt.both;
      len_is = omega (arith, h.len_is, length-append xs (s ∷ ys), length-append xs ys);
      vacant = (within, get_or-set_same _ s (node None fr false) (node None None false) inside ∙ ap (λ o. node None o false) h.free_is, vacant-set _ s _ fs s_free vacant2);
      free_is = refl;
      free_once = free_apart;
      spare_is = omega (arith, h.spare_is);
      all = long ∙ omega (arith, h.all, h.len_is, length-append xs (s ∷ ys));
      cover = λ k. used-set ns2 s (node None fr false) k inside ∙ cover-remove xs s ys (node_at ns2 k).used k apt.k_before apt.k_after (used-lead_back (head_or None ys) (last_or None xs) ns1 k ∙ used-lead_to (last_or None xs) (head_or None ys) ns k ∙ h.cover k);
      few = rw long h.few;
    })
  where
    ns1 : List Node
    ns1 = lead_to (last_or None xs) (head_or None ys) ns

    ns2 : List Node
    ns2 = lead_back (head_or None ys) (last_or None xs) ns1

    apt : Apart s xs ys
    apt = apart-parts s xs ys h.once

    front : Chain ns None xs (Some s)
    front = chain-front ns None xs (s ∷ ys) None h.chain

    back : Chain ns (Some s) ys None
    back = (chain-back ns None xs (s ∷ ys) None h.chain).2

    front1 : Chain ns1 None xs (head_or None ys)
    front1 = chain-on ns xs (Some s) (head_or None ys) apt.before front

    last_out : Outside (last_or None xs) ys
    last_out = last-outside xs ys (λ k m. apart-across k xs ys apt.both m)

    head_out : Outside (head_or None ys) xs
    head_out = head-outside ys xs (λ k m. across-back xs ys k apt.both m)

    back1 : Chain ns1 (Some s) ys None
    back1 = chain-lead_to ns (last_or None xs) (head_or None ys) (Some s) ys None last_out back

    back2 : Chain ns2 (last_or None xs) ys None
    back2 = chain-from ns1 ys (Some s) (last_or None xs) None apt.after back1

    front2 : Chain ns2 None xs (head_or None ys)
    front2 = chain-lead_back ns1 (head_or None ys) (last_or None xs) None xs (head_or None ys) head_out front1

    last_free : Outside (last_or None xs) fs
    last_free = last-outside xs fs (λ k m. used-not_free ns (xs ++ s ∷ ys) fs k h.chain h.vacant (has-part k s xs ys m))

    head_free : Outside (head_or None ys) fs
    head_free = head-outside ys fs (λ k m. used-not_free ns (xs ++ s ∷ ys) fs k h.chain h.vacant (has-later k s xs ys m))

    s_free : has s fs ≡ false
    s_free = used-not_free ns (xs ++ s ∷ ys) fs s h.chain h.vacant (has-middle s xs ys)

    free_apart : apart (s ∷ fs) ≡ true
    free_apart = grind (arith, common_steps, s_free, h.free_once)

    vacant2 : Vacant ns2 fs
    vacant2 = vacant-lead_back ns1 (head_or None ys) (last_or None xs) fs head_free (vacant-lead_to ns (last_or None xs) (head_or None ys) fs last_free h.vacant)

    long2 : length ns2 ≡ length ns
    long2 = length-lead_back (head_or None ys) (last_or None xs) ns1 ∙ length-lead_to (last_or None xs) (head_or None ys) ns

    long : length (past ns s xs ys fr) ≡ length ns
    long = length-set ns2 s (node None fr false) ∙ long2

    inside : s < length ns2
    inside = rw long2 (chain-back ns None xs (s ∷ ys) None h.chain).0

    within : s < length (past ns s xs ys fr)
    within = rw long (chain-back ns None xs (s ∷ ys) None h.chain).0

ends : (ns : List Node) (xs : List ℕ) (q : Option ℕ) → Chain ns None xs q → IfSome (last_or None xs) (λ j. j < length ns)
ends ns [] q c = tt
ends ns (x ∷ xs) q c = found (last_or (Some x) xs) (last-has x xs)
  where
    found : (o : Option ℕ) → ((k : ℕ) → o ≡ Some k → has k (x ∷ xs) ≡ true) → IfSome o (λ j. j < length ns)
    found None g = tt
    found (Some k) g = (chain-member ns None (x ∷ xs) q k c (g k refl)).0

-- what is known of a member of the list
pub record Stands (ns : List Node) (k : ℕ) (us : List ℕ) : Type 0 where
  pub xs : List ℕ
  pub ys : List ℕ
  pub is : us ≡ xs ++ k ∷ ys
  pub within : k < length ns
  pub node_is : node_at ns k ≡ node (last_or None xs) (head_or None ys) true

pub stands : (ns : List Node) (k : ℕ) (us : List ℕ) → Chain ns None us None → has k us ≡ true → Stands ns k us
stands ns k us c h =
    let p = parts k us h in
    let d : Chain ns None (p.front ++ k ∷ p.back) None = subst (λ (zs : List ℕ). Chain ns None zs None) p.is c in
    record { xs = p.front; ys = p.back; is = p.is; within = (chain-back ns None p.front (k ∷ p.back) None d).0; node_is = node-removed ns p.front k p.back d }

pub next-at : (k : ℕ) (xs ys : List ℕ) → has k xs ≡ false → next k (xs ++ k ∷ ys) ≡ head_or None ys
next-at k [] ys e = grind (arith, common_steps)
next-at k (x ∷ xs) ys e = grind (arith, common_steps, next-at k xs ys)

pub previous-at : (p : Option ℕ) (k : ℕ) (xs ys : List ℕ) → has k xs ≡ false → previous p k (xs ++ k ∷ ys) ≡ last_or p xs
previous-at p k [] ys e = grind (arith, common_steps)
previous-at p k (x ∷ xs) ys e = grind (arith, common_steps, previous-at (Some x) k xs ys)

-- what a node of a laid list says
pub after-is : {ns : List Node} {f l fr : Option ℕ} {len sp : ℕ} {us fs : List ℕ} → (k : ℕ) → IsLaid ns f l fr len sp us fs → has k us ≡ true → (node_at ns k).after ≡ next k us
after-is {ns = ns} {us = us} k h e =
    let s = stands ns k us h.chain e in
    let a = apart-parts k s.xs s.ys (subst (λ (zs : List ℕ). apart zs ≡ true) s.is h.once) in
    ap (λ (n : Node). n.after) s.node_is ∙ sym (next-at k s.xs s.ys a.k_before) ∙ ap (λ (zs : List ℕ). next k zs) (sym s.is)

pub before-is : {ns : List Node} {f l fr : Option ℕ} {len sp : ℕ} {us fs : List ℕ} → (k : ℕ) → IsLaid ns f l fr len sp us fs → has k us ≡ true → (node_at ns k).before ≡ previous None k us
before-is {ns = ns} {us = us} k h e =
    let s = stands ns k us h.chain e in
    let a = apart-parts k s.xs s.ys (subst (λ (zs : List ℕ). apart zs ≡ true) s.is h.once) in
    ap (λ (n : Node). n.before) s.node_is ∙ sym (previous-at None k s.xs s.ys a.k_before) ∙ ap (λ (zs : List ℕ). previous None k zs) (sym s.is)

-- so few slots that one stands for none
pub few-slots : {ns : List Node} {f l fr : Option ℕ} {len sp : ℕ} {us fs : List ℕ} → (k : ℕ) → IsLaid ns f l fr len sp us fs → has k us ≡ true → k < 2 ^ 32 - 1
few-slots {ns = ns} {us = us} k h e = omega (arith, h.few, (stands ns k us h.chain e).within)

-- the neighbours are in range
pub before-within : {ns : List Node} {f l fr : Option ℕ} {len sp : ℕ} {us fs : List ℕ} → (k : ℕ) → IsLaid ns f l fr len sp us fs → has k us ≡ true → IfSome (node_at ns k).before (λ j. j < length ns)
before-within {ns = ns} {us = us} k h e =
    let s = stands ns k us h.chain e in
    let d : Chain ns None (s.xs ++ k ∷ s.ys) None = subst (λ (zs : List ℕ). Chain ns None zs None) s.is h.chain in
    rw s.node_is (ends ns s.xs (Some k) (chain-front ns None s.xs (k ∷ s.ys) None d))

pub after-within : {ns : List Node} {f l fr : Option ℕ} {len sp : ℕ} {us fs : List ℕ} → (k : ℕ) → IsLaid ns f l fr len sp us fs → has k us ≡ true → IfSome (node_at ns k).after (λ j. j < length ns)
after-within {ns = ns} {us = us} k h e =
    let s = stands ns k us h.chain e in
    let d : Chain ns None (s.xs ++ k ∷ s.ys) None = subst (λ (zs : List ℕ). Chain ns None zs None) s.is h.chain in
    rw s.node_is (begins ns (Some k) s.ys (chain-back ns None s.xs (k ∷ s.ys) None d).2)
  where
    begins : (ns : List Node) (p : Option ℕ) (ys : List ℕ) → Chain ns p ys None → IfSome (head_or None ys) (λ j. j < length ns)
    begins ns p [] c = tt
    begins ns p (y ∷ ys) c = c.0

-- the state after a removal, as the code computes it
pub remove-laid : {ns : List Node} {f l fr : Option ℕ} {len sp : ℕ} {us fs : List ℕ} → (k : ℕ) (n : Node) → IsLaid ns f l fr len sp us fs → has k us ≡ true → n ≡ node_at ns k → IsLaid (set (lead_back n.after n.before (lead_to n.before n.after ns)) k (node None fr false)) (where_none n.before n.after f) (where_none n.after n.before l) (Some k) (len - 1) (sp + 1) (without k us) (k ∷ fs)
remove-laid {ns = ns} {f = f} {l = l} {fr = fr} {len = len} {sp = sp} {us = us} {fs = fs} k n h e w =
    let s = stands ns k us h.chain e in
    on s.xs s.ys s.is s.node_is
  where
    on : (xs ys : List ℕ) → us ≡ xs ++ k ∷ ys → node_at ns k ≡ node (last_or None xs) (head_or None ys) true → IsLaid (set (lead_back n.after n.before (lead_to n.before n.after ns)) k (node None fr false)) (where_none n.before n.after f) (where_none n.after n.before l) (Some k) (len - 1) (sp + 1) (without k us) (k ∷ fs)
    on xs ys i v =
        let g : IsLaid ns f l fr len sp (xs ++ k ∷ ys) fs = subst (λ (zs : List ℕ). IsLaid ns f l fr len sp zs fs) i h in
        let a = apart-parts k xs ys g.once in
        rw (w, v, i, without-at k xs ys a.k_before a.k_after) (laid-remove ns f l fr len sp xs k ys fs g)
