-- A slot is taken as the newest, or given back.
use Rattle.std.proofs.Common.{◌≡◌, ℕ, ◌+◌, ◌-◌, ◌^◌, ◌<◌, ◌==◌, if◌then◌else◌, Bool, true, false, Option, Some, None, IsSome, IfSome, List, [], ◌∷◌, ◌++◌, length, refl, sym, ◌∙◌, ap, subst, arith, set, get_or-set_same, length-set, length-append}
use Rattle.std.proofs.lemmas.Grind.{common_steps}
use Rattle.mdb_slots.specs.declared.node.Node.{Node}
use Rattle.mdb_slots.specs.Lists.{has, apart, head_or, last_or}
use Rattle.mdb_slots.specs.Chain.{node, node_at, Chain, Vacant, lead_to, lead_back}
use Rattle.mdb_slots.specs.Links.{IsLaid, where_none}
use Rattle.mdb_slots.proofs.Lists.{apart-first, apart-rest, apart-append, last_or-append, has-append}
use Rattle.mdb_slots.proofs.Chains.{chain-set, vacant-set, chain-join, chain-end, chain-start, chain-member, last-has, used-set, used-lead_to}
use Rattle.mdb_slots.proofs.Layouts.{length-lead_to, Outside, vacant-lead_to, last-outside, has-first, used-not_free, free-not_used}

pub where_none-last : (x : ℕ) (xs : List ℕ) (a b : Option ℕ) → where_none (last_or (Some x) xs) a b ≡ b
where_none-last x [] a b = refl
where_none-last x (y ∷ ys) a b = where_none-last y ys a b

pub last-after : (x : ℕ) (p : Option ℕ) (xs : List ℕ) → last_or (Some x) xs ≡ last_or p (x ∷ xs)
last-after x p xs = refl

-- the last of a list is followed by another slot
pub chain-on : (ns : List Node) (xs : List ℕ) (q q' : Option ℕ) → apart xs ≡ true → Chain ns None xs q → Chain (lead_to (last_or None xs) q' ns) None xs q'
chain-on ns [] q q' e c = tt
chain-on ns (x ∷ xs) q q' e c = chain-end ns x None xs q q' e c

-- the first of a list is preceded by another slot
pub chain-from : (ns : List Node) (xs : List ℕ) (p p' q : Option ℕ) → apart xs ≡ true → Chain ns p xs q → Chain (lead_back (head_or None xs) p' ns) p' xs q
chain-from ns [] p p' q e c = tt
chain-from ns (x ∷ xs) p p' q e c = chain-start ns x p p' xs q (apart-first x xs e) c

first-push : (us : List ℕ) (s : ℕ) → where_none (last_or None us) (Some s) (head_or None us) ≡ head_or None (us ++ s ∷ [])
first-push [] s = refl
first-push (x ∷ xs) s = where_none-last x xs (Some s) (Some x)

cover-push : (us : List ℕ) (s : ℕ) (u : Bool) (k : ℕ) → u ≡ has k us → (if s == k then true else u) ≡ has k (us ++ s ∷ [])
cover-push us s u k e = grind (arith, common_steps, e, has-append k us (s ∷ []))

pub laid-push : (ns : List Node) (f l fr : Option ℕ) (len sp : ℕ) (us : List ℕ) (s : ℕ) (fs : List ℕ) → IsLaid ns f l fr len sp us (s ∷ fs) → IsLaid (set (lead_to l (Some s) ns) s (node l None true)) (where_none l (Some s) f) (Some s) (node_at ns s).after (len + 1) (sp - 1) (us ++ s ∷ []) fs
laid-push ns f l fr len sp us s fs h =
    rw (h.last_is, h.first_is) (record {
      chain = chain-join _ None us (s ∷ []) None (chain-set _ s _ None us (Some s) new (chain-on ns us None (Some s) h.once h.chain)) (within, get_or-set_same _ s (node (last_or None us) None true) (node None None false) inside, tt);
      first_is = first-push us s;
      last_is = sym (last_or-append None us (s ∷ []));
      once = apart-append us s h.once new;
      len_is = omega (arith, h.len_is, length-append us (s ∷ []));
      vacant = vacant-set _ s _ fs (apart-first s fs h.free_once) (vacant-lead_to ns (last_or None us) (Some s) fs ends h.vacant.2);
      free_is = ap (λ (n : Node). n.after) h.vacant.1;
      free_once = apart-rest s fs h.free_once;
      spare_is = omega (arith, h.spare_is);
      all = long ∙ omega (arith, h.spare_is, h.all);
      cover = λ k. used-set _ s _ k inside ∙ cover-push us s (node_at (lead_to (last_or None us) (Some s) ns) k).used k (used-lead_to (last_or None us) (Some s) ns k ∙ h.cover k);
      few = rw long h.few;
    })
  where
    new : has s us ≡ false
    new = free-not_used ns us (s ∷ fs) s h.chain h.vacant (has-first s fs)

    inside : s < length (lead_to (last_or None us) (Some s) ns)
    inside = rw (length-lead_to (last_or None us) (Some s) ns) h.vacant.0

    long : length (set (lead_to (last_or None us) (Some s) ns) s (node (last_or None us) None true)) ≡ length ns
    long = length-set _ s _ ∙ length-lead_to (last_or None us) (Some s) ns

    within : s < length (set (lead_to (last_or None us) (Some s) ns) s (node (last_or None us) None true))
    within = rw long h.vacant.0

    ends : Outside (last_or None us) fs
    ends = last-outside us fs (λ k m. used-not_free ns us fs k h.chain h.vacant.2 m)

-- the first free slot stands before the others
pub record Led (s : ℕ) (fs : List ℕ) : Type 0 where
  pub rest : List ℕ
  pub is : fs ≡ s ∷ rest

pub led : (s : ℕ) (fr : Option ℕ) (fs : List ℕ) → fr ≡ head_or None fs → fr ≡ Some s → Led s fs
led s fr [] h e = cc
led s fr (x ∷ xs) h e = record { rest = xs; is = cc }

pub some-free : (fr : Option ℕ) (sp : ℕ) (fs : List ℕ) → fr ≡ head_or None fs → sp ≡ length fs → 0 < sp → IsSome fr
some-free fr sp [] h e p = let w : 0 < 0 = omega (arith, e, p) in absurd (omega (arith, w))
some-free fr sp (x ∷ xs) h e p = rw h refl

pub push-laid : {ns : List Node} {f l fr : Option ℕ} {len sp : ℕ} {us fs : List ℕ} → (s : ℕ) (h : IsLaid ns f l fr len sp us fs) → (e : fr ≡ Some s) → IsLaid (set (lead_to l (Some s) ns) s (node l None true)) (where_none l (Some s) f) (Some s) (node_at ns s).after (len + 1) (sp - 1) (us ++ s ∷ []) (led s fr fs h.free_is e).rest
push-laid {ns = ns} {f = f} {l = l} {fr = fr} {len = len} {sp = sp} {us = us} {fs = fs} s h e =
    let t = led s fr fs h.free_is e in
    laid-push ns f l fr len sp us s t.rest (subst (λ (xs : List ℕ). IsLaid ns f l fr len sp us xs) t.is h)

pub free-within : {ns : List Node} {f l fr : Option ℕ} {len sp : ℕ} {us fs : List ℕ} → (s : ℕ) (h : IsLaid ns f l fr len sp us fs) → (e : fr ≡ Some s) → s < length ns
free-within {ns = ns} {fr = fr} {fs = fs} s h e =
    let t = led s fr fs h.free_is e in
    (subst (λ (xs : List ℕ). Vacant ns xs) t.is h.vacant).0

-- so few slots that one stands for none
pub free-few : {ns : List Node} {f l fr : Option ℕ} {len sp : ℕ} {us fs : List ℕ} → (s : ℕ) (h : IsLaid ns f l fr len sp us fs) → (e : fr ≡ Some s) → s < 2 ^ 32 - 1
free-few s h e = omega (arith, h.few, free-within s h e)

pub free-new : {ns : List Node} {f l fr : Option ℕ} {len sp : ℕ} {us fs : List ℕ} → (s : ℕ) (h : IsLaid ns f l fr len sp us fs) → (e : fr ≡ Some s) → has s us ≡ false
free-new {ns = ns} {fr = fr} {us = us} {fs = fs} s h e =
    let t = led s fr fs h.free_is e in
    free-not_used ns us fs s h.chain h.vacant (rw t.is (has-first s t.rest))

pub last-within : {ns : List Node} {f l fr : Option ℕ} {len sp : ℕ} {us fs : List ℕ} → (h : IsLaid ns f l fr len sp us fs) → IfSome l (λ k. k < length ns)
last-within {ns = ns} {l = l} {us = us} h = rw h.last_is (on us h.chain)
  where
    found : (xs : List ℕ) → Chain ns None xs None → (o : Option ℕ) → ((k : ℕ) → o ≡ Some k → has k xs ≡ true) → IfSome o (λ k. k < length ns)
    found xs c None g = tt
    found xs c (Some k) g = (chain-member ns None xs None k c (g k refl)).0

    on : (xs : List ℕ) → Chain ns None xs None → IfSome (last_or None xs) (λ k. k < length ns)
    on [] c = tt
    on (x ∷ xs) c = found (x ∷ xs) c (last_or (Some x) xs) (last-has x xs)
