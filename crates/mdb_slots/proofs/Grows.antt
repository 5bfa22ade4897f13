-- A slot is added.
use Rattle.std.proofs.Common.{◌≡◌, ℕ, ◌+◌, ◌-◌, ◌<◌, ◌^◌, false, Option, Some, None, List, [], ◌∷◌, ◌++◌, length, refl, ◌∙◌, ap, arith, length-append}
use Rattle.std.proofs.lemmas.Grind.{common_steps}
use Rattle.mdb_slots.specs.declared.node.Node.{Node}
use Rattle.mdb_slots.specs.Lists.{has}
use Rattle.mdb_slots.specs.Chain.{node, node_at, Chain, Vacant}
use Rattle.mdb_slots.specs.Links.{IsLaid}
use Rattle.mdb_slots.proofs.Chains.{used-grow}

at-more : (ns : List Node) (m : Node) (k : ℕ) → k < length ns → node_at (ns ++ m ∷ []) k ≡ node_at ns k
at-more ns m k h = grind (arith, common_steps)

at-last : (ns : List Node) (m : Node) → node_at (ns ++ m ∷ []) (length ns) ≡ m
at-last ns m = grind (arith, common_steps)

below-more : (ns : List Node) (m : Node) (k : ℕ) → k < length ns → k < length (ns ++ m ∷ [])
below-more ns m k h = omega (arith, length-append ns (m ∷ []))

chain-grow : (ns : List Node) (m : Node) (p : Option ℕ) (xs : List ℕ) (q : Option ℕ) → Chain ns p xs q → Chain (ns ++ m ∷ []) p xs q
chain-grow ns m p [] q c = tt
chain-grow ns m p (x ∷ xs) q c = (below-more ns m x c.0, at-more ns m x c.0 ∙ c.1, chain-grow ns m (Some x) xs q c.2)

vacant-grow : (ns : List Node) (m : Node) (xs : List ℕ) → Vacant ns xs → Vacant (ns ++ m ∷ []) xs
vacant-grow ns m [] c = tt
vacant-grow ns m (x ∷ xs) c = (below-more ns m x c.0, at-more ns m x c.0 ∙ c.1, vacant-grow ns m xs c.2)

-- no slot of a list is past the nodes
vacant-below : (ns : List Node) (xs : List ℕ) → Vacant ns xs → has (length ns) xs ≡ false
vacant-below ns [] c = refl
vacant-below ns (x ∷ xs) c = grind (arith, common_steps, c.0, vacant-below ns xs c.2)

pub laid-grow : (ns : List Node) (f l fr : Option ℕ) (len sp : ℕ) (us fs : List ℕ) → length ns < 2 ^ 32 - 1 → IsLaid ns f l fr len sp us fs → IsLaid (ns ++ node None fr false ∷ []) f l (Some (length ns)) len (sp + 1) us (length ns ∷ fs)
laid-grow ns f l fr len sp us fs r h =
    record {
      chain = chain-grow ns (node None fr false) None us None h.chain;
      first_is = h.first_is;
      last_is = h.last_is;
      once = h.once;
      len_is = h.len_is;
      vacant = (omega (arith, length-append ns (node None fr false ∷ [])), at-last ns (node None fr false) ∙ ap (λ o. node None o false) h.free_is, vacant-grow ns (node None fr false) fs h.vacant);
      free_is = refl;
      free_once = grind (arith, common_steps, vacant-below ns fs h.vacant, h.free_once);
      spare_is = omega (arith, h.spare_is);
      all = length-append ns (node None fr false ∷ []) ∙ omega (arith, h.all);
      cover = λ k. used-grow ns (node None fr false) k refl ∙ h.cover k;
      few = omega (arith, length-append ns (node None fr false ∷ []), r);
    }
