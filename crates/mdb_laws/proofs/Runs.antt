-- Parts that are each of one address, one after another: each finds the pool of its address as it was.
use Rattle.std.proofs.Common.{ℕ, ◌≡◌, ◌==◌, Bool, true, false, not, List, [], ◌∷◌, ◌++◌, map, Some, refl, sym, ◌∙◌, ap, arith}
use Rattle.std.specs.Prelude.{flat_map}
use Rattle.std.specs.List.{list_any}
use Rattle.std.proofs.lemmas.Bool.{or_left, or_right, not-true}
use Rattle.mdb_base.specs.Equality.{same_address}
use Rattle.mdb_base.specs.OptionRules.{all_different}
use Rattle.mdb_base.specs.declared.address.ServerAddress.{ServerAddress}
use Rattle.mdb_describe.specs.Servers.{is_listed}
use Rattle.mdb_events.specs.declared.fact.Fact.{Fact}
use Rattle.mdb_log.specs.declared.options.PoolOptions.{PoolOptions}
use Rattle.mdb_log.specs.History.{Item, open_pool, with_facts}
use Rattle.mdb_describe.proofs.Addresses.{own-address, same-address}
use Rattle.mdb_log.proofs.Bools.{both-true}
use Rattle.mdb_driver_rules.specs.Turns.{in_turn}
use Rattle.mdb_driver_rules.proofs.LeavesAsItIs.{with-append}
use Rattle.mdb_laws.specs.Causes.{Mark, marks_of}
use Rattle.mdb_laws.proofs.Marks.{any-append, any-head, marks-append, is_opened, touches, Seen, spared, Below, below-facts}

-- no address has two open pools, and no pool two addresses
abbrev pub IsAlone : List Item → Type 0
IsAlone h = (a b : ServerAddress) (p : ℕ) → open_pool h a ≡ Some p → open_pool h b ≡ Some p → a ≡ b

abbrev pub Part : Type 0
Part = ServerAddress → List Item → List Fact

-- a part opens no pool, and touches none but the one that is open at its address
pub record IsOfAddress (part : Part) : Type 0 where
  pub quiet : (a : ServerAddress) (k : List Item) → list_any is_opened (part a k) ≡ false
  pub apart : (a : ServerAddress) (k : List Item) (p : ℕ) → ((q : ℕ) → open_pool k a ≡ Some q → (q == p) ≡ false) → list_any (touches p) (part a k) ≡ false

module _ (m : ℕ) (part : Part) (test : Fact → Bool) (none : (a : ServerAddress) (k : List Item) → list_any test (part a k) ≡ false) where
  -- what no part makes is not made
  pub none-made : (xs : List ServerAddress) (k : List Item) → list_any test (in_turn m (map part xs) k) ≡ false
  none-made [] k = refl
  none-made (a ∷ xs) k = any-append test (part a k) (in_turn m (map part xs) (with_facts m (part a k) k)) (none a k) (none-made xs (with_facts m (part a k) k))

module _ (o : PoolOptions) (m : ℕ) (h : List Item) (alone : IsAlone h) (part : Part) (is : IsOfAddress part) where
  pub runs-below : (xs : List ServerAddress) (k : List Item) → Below h k → Below h (with_facts m (in_turn m (map part xs) k) k)
  runs-below xs k below = below-facts m h (in_turn m (map part xs) k) k (none-made m part is_opened is.quiet xs k) below

  -- the pool of another address is another one
  differs : (a b : ServerAddress) (p : ℕ) (k : List Item) → Below h k → open_pool h b ≡ Some p → same_address a b ≡ false → (q : ℕ) → open_pool k a ≡ Some q → (q == p) ≡ false
  differs a b p k below there other q e = on (q == p) refl
    where
      on : (c : Bool) → (q == p) ≡ c → (q == p) ≡ false
      on false f = f
      on true f =
          let n : q ≡ p = grind arith in
          let one : a ≡ b = alone a b p (below a q e ∙ ap Some n) there in
          let w : same_address a b ≡ true = ap (λ x. same_address x b) one ∙ own-address b in
          let t : true ≡ false = sym w ∙ other in
          cc

  -- one part leaves the pools of other addresses
  one-keeps : (a b : ServerAddress) (p : ℕ) (k : List Item) → Below h k → open_pool h b ≡ Some p → same_address a b ≡ false → Seen o h k b p → Seen o h (with_facts m (part a k) k) b p
  one-keeps a b p k below there other z = spared o m h b p (part a k) k (is.apart a k p (differs a b p k below there other)) z

  -- all parts leave those of addresses that are not among theirs
  pub runs-keep : (xs : List ServerAddress) (b : ServerAddress) (p : ℕ) (k : List Item) → Below h k → open_pool h b ≡ Some p → is_listed xs b ≡ false → Seen o h k b p
      → Seen o h (with_facts m (in_turn m (map part xs) k) k) b p
  runs-keep [] b p k below there other z = z
  runs-keep (a ∷ xs) b p k below there other z =
      let d : (same_address a b ≡ false) × (is_listed xs b ≡ false) = any-head (λ x. same_address x b) a xs other in
      let j : List Item = with_facts m (part a k) k in
      let first : Seen o h j b p = one-keeps a b p k below there d.0 z in
      let rest : Seen o h (with_facts m (in_turn m (map part xs) j) j) b p = runs-keep xs b p j (below-facts m h (part a k) k (is.quiet a k) below) there d.1 first in
      let same : with_facts m (part a k ++ in_turn m (map part xs) j) k ≡ with_facts m (in_turn m (map part xs) j) j = with-append m (part a k) (in_turn m (map part xs) j) k in
      rw same rest

  -- they touch the pool of an address no more than the part of that address does
  pub runs-spare : (xs : List ServerAddress) (b : ServerAddress) (p : ℕ) (k : List Item) → Below h k → open_pool h b ≡ Some p
      → ((a : ServerAddress) (j : List Item) → is_listed xs a ≡ true → same_address a b ≡ true → list_any (touches p) (part a j) ≡ false) → list_any (touches p) (in_turn m (map part xs) k) ≡ false
  runs-spare [] b p k below there own = refl
  runs-spare (a ∷ xs) b p k below there own =
      let mine : is_listed (a ∷ xs) a ≡ true = or_left (same_address a a) (is_listed xs a) (own-address a) in
      let rest : list_any (touches p) (in_turn m (map part xs) (with_facts m (part a k) k)) ≡ false =
      runs-spare xs b p (with_facts m (part a k) k) (below-facts m h (part a k) k (is.quiet a k) below) there (λ c j e. own c j (or_right (same_address a c) (is_listed xs c) e)) in
      any-append (touches p) (part a k) (in_turn m (map part xs) (with_facts m (part a k) k)) (on (same_address a b) (own a k mine) refl) rest
    where
      on : (c : Bool) → (same_address a b ≡ true → list_any (touches p) (part a k) ≡ false) → same_address a b ≡ c → list_any (touches p) (part a k) ≡ false
      on true same f = same f
      on false same f = is.apart a k p (differs a b p k below there f)

  module _ (value : ServerAddress → List Mark) where
    -- each part says what it would say right after the history
    pub runs-say : (xs : List ServerAddress) → all_different xs ≡ true → (k : List Item) → Below h k
        → ((a : ServerAddress) → is_listed xs a ≡ true → (p : ℕ) × (open_pool h a ≡ Some p))
        → ((a : ServerAddress) (p : ℕ) → is_listed xs a ≡ true → open_pool h a ≡ Some p → Seen o h k a p)
        → ((a : ServerAddress) (p : ℕ) (j : List Item) → is_listed xs a ≡ true → open_pool h a ≡ Some p → Seen o h j a p → marks_of (part a j) ≡ value a)
        → marks_of (in_turn m (map part xs) k) ≡ flat_map value xs
    runs-say [] e k below pools seen says = refl
    runs-say (a ∷ xs) e k below pools seen says =
        let both : (not (list_any (λ b. same_address b a) xs) ≡ true) × (all_different xs ≡ true) = both-true (not (list_any (λ b. same_address b a) xs)) (all_different xs) e in
        let fresh : is_listed xs a ≡ false = not-true (list_any (λ b. same_address b a) xs) both.0 in
        let mine : is_listed (a ∷ xs) a ≡ true = or_left (same_address a a) (is_listed xs a) (own-address a) in
        let j : List Item = with_facts m (part a k) k in
        let x : (p : ℕ) × (open_pool h a ≡ Some p) = pools a mine in
        let first : marks_of (part a k) ≡ value a = says a x.0 k mine x.1 (seen a x.0 mine x.1) in
        let later : (b : ServerAddress) → is_listed xs b ≡ true → is_listed (a ∷ xs) b ≡ true = λ b g. or_right (same_address a b) (is_listed xs b) g in
        let rest : marks_of (in_turn m (map part xs) j) ≡ flat_map value xs = runs-say xs both.1 j (below-facts m h (part a k) k (is.quiet a k) below)
        (λ b g. pools b (later b g))
        (λ b p g there. one-keeps a b p k below there (other b fresh g) (seen b p (later b g) there))
        (λ b p i g there z. says b p i (later b g) there z) in
        marks-append (part a k) (in_turn m (map part xs) j) ∙ rw (first, rest) refl
      where
        other : (b : ServerAddress) → is_listed xs a ≡ false → is_listed xs b ≡ true → same_address a b ≡ false
        other b none some = on (same_address a b) refl
          where
            on : (c : Bool) → same_address a b ≡ c → same_address a b ≡ false
            on false f = f
            on true f =
                let w : a ≡ b = same-address a b f in
                let t : true ≡ false = sym some ∙ (ap (is_listed xs) (sym w) ∙ none) in
                cc
