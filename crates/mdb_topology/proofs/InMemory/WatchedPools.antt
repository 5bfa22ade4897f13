-- The monitors that memory keeps, whatever is done to them.
use Rattle.std.proofs.Common.{ℕ, suc, ◌≡◌, ◌≢◌, ◌+◌, ◌<◌, ◌≤◌, ◌==◌, ◌&&◌, ◌||◌, Bool, true, false, not, if◌then◌else◌, List, [], ◌∷◌, ◌++◌, length, filter, find, nat_lt, set, position, Option, Some, None, refl, sym, ◌∙◌, ap, subst, arith}
use Rattle.std.specs.Prelude.{nat_le, option_map, slice_get}
use Rattle.std.proofs.lemmas.Bool.Decides.{nat_tests}
use Rattle.std.proofs.lemmas.Option.{slice_get_within}
use Rattle.mdb_log.specs.Connections.{has}
use Rattle.mdb_monitor.specs.declared.monitor.MonitorCore.{MonitorCore}
use Rattle.mdb_topology.specs.declared.monitors.watched.Watched.{Watched}
use Rattle.mdb_topology.specs.Watching.{are_apart, places, AreOf, IsWatched}
use Rattle.mdb_driver_rules.proofs.General.OneElement.{get-set_same, get-set_other}
use Rattle.mdb_driver_pools.proofs.InMemory.LivingPools.{position-hit, position-miss}
use Rattle.mdb_driver_pools.proofs.InMemory.StillLives.{get-before, get-last}

abbrev watched : ℕ → MonitorCore → Watched
watched p m = record { place = p; monitor = m }

equal : (a b : ℕ) → (a == b) ≡ true → a ≡ b
equal a b e = grind (arith, nat_tests)

differ : (a b : ℕ) → (a == b) ≡ false → a ≢ b
differ a b e = grind (arith, nat_tests)

-- what is read
pub watched-is : (all : List MonitorCore) (kept : List Watched) (p : ℕ) → AreOf all kept → option_map (λ (x : Watched). x.monitor) (find (λ (x : Watched). x.place == p) kept) ≡ (if has p (places kept) then slice_get all p else None)
watched-is all [] p z = refl
watched-is all (x ∷ xs) p z = on (x.place == p) refl (watched-is all xs p z.1)
  where
    on : (b : Bool) → (x.place == p) ≡ b → option_map (λ (y : Watched). y.monitor) (find (λ (y : Watched). y.place == p) xs) ≡ (if has p (places xs) then slice_get all p else None)
        → option_map (λ (y : Watched). y.monitor) (find (λ (y : Watched). y.place == p) (x ∷ xs)) ≡ (if has p (places (x ∷ xs)) then slice_get all p else None)
    on true e r = rw e (sym (subst (λ j. slice_get all j ≡ Some x.monitor) (equal x.place p e) z.0))
    on false e r = rw e r

-- what is not found is not kept
pub none-kept : (kept : List Watched) (p : ℕ) → find (λ (x : Watched). x.place == p) kept ≡ None → has p (places kept) ≡ false
none-kept [] p e = refl
none-kept (x ∷ xs) p e = on (x.place == p) refl (λ d. none-kept xs p d)
  where
    on : (b : Bool) → (x.place == p) ≡ b → (find (λ (y : Watched). y.place == p) xs ≡ None → has p (places xs) ≡ false) → has p (places (x ∷ xs)) ≡ false
    on true f deeper =
        let k : find (λ (y : Watched). y.place == p) (x ∷ xs) ≡ Some x = rw f refl in
        let w : ◌≡◌ {A = Option Watched} None (Some x) = sym e ∙ k in
        cc
    on false f deeper =
        let same : find (λ (y : Watched). y.place == p) (x ∷ xs) ≡ find (λ (y : Watched). y.place == p) xs = rw f refl in
        rw f (deeper (sym same ∙ e))

-- one that memory keeps is there
pub there-kept : (all : List MonitorCore) (kept : List ℕ) (p : ℕ) (m : MonitorCore) → has p kept ≡ true → Some m ≡ (if has p kept then slice_get all p else None) → slice_get all p ≡ Some m
there-kept all kept p m e f = sym (f ∙ rw e refl)

-- a monitor takes the place of another
module _ (all : List MonitorCore) (p : ℕ) (m : MonitorCore) where
  others-of : (kept : List Watched) → AreOf all kept → has p (places kept) ≡ false → AreOf (set all p m) kept
  others-of [] z e = tt
  others-of (x ∷ xs) z e = on (x.place == p) refl (λ rest. others-of xs z.1 rest)
    where
      on : (b : Bool) → (x.place == p) ≡ b → (has p (places xs) ≡ false → AreOf (set all p m) xs) → AreOf (set all p m) (x ∷ xs)
      on true f deeper = let k : has p (places (x ∷ xs)) ≡ true = rw f refl in cc
      on false f deeper =
          let ne : p ≢ x.place = λ q. differ x.place p f (sym q) in
          let rest : has p (places xs) ≡ false = let same : has p (places (x ∷ xs)) ≡ has p (places xs) = rw f refl in sym same ∙ e in
          (get-set_other all p x.place m ne ∙ z.0, deeper rest)

  pub put-of : (kept : List Watched) (i : ℕ) → AreOf all kept → are_apart (places kept) ≡ true → position (λ (x : Watched). x.place == p) kept ≡ Some i
      → AreOf (set all p m) (set kept i (watched p m)) × (places (set kept i (watched p m)) ≡ places kept)
  put-of [] i z a e = cc
  put-of (x ∷ xs) i z a e = on (x.place == p) refl (λ j g. put-of xs j z.1 apart.1 g)
    where
      left : (b c : Bool) → (not b && c) ≡ true → (b ≡ false) × (c ≡ true)
      left false true h = (refl, refl)
      left false false h = cc
      left true c h = cc

      apart : (has x.place (places xs) ≡ false) × (are_apart (places xs) ≡ true)
      apart = left (has x.place (places xs)) (are_apart (places xs)) a

      on : (b : Bool) → (x.place == p) ≡ b
          → ((j : ℕ) → position (λ (y : Watched). y.place == p) xs ≡ Some j → AreOf (set all p m) (set xs j (watched p m)) × (places (set xs j (watched p m)) ≡ places xs))
          → AreOf (set all p m) (set (x ∷ xs) i (watched p m)) × (places (set (x ∷ xs) i (watched p m)) ≡ places (x ∷ xs))
      on true f deeper =
          let own : x.place ≡ p = equal x.place p f in
          let first : Some 0 ≡ Some i = sym (position-hit (λ (y : Watched). y.place == p) x xs f) ∙ e in
          let index : 0 ≡ i = cc in
          let was : slice_get all p ≡ Some x.monitor = subst (λ j. slice_get all j ≡ Some x.monitor) own z.0 in
          subst (λ j. AreOf (set all p m) (set (x ∷ xs) j (watched p m)) × (places (set (x ∷ xs) j (watched p m)) ≡ places (x ∷ xs))) index
          ((get-set_same all p x.monitor m was, others-of xs z.1 (subst (λ j. has j (places xs) ≡ false) own apart.0)), ap (λ j. j ∷ places xs) (sym own))
      on false f deeper = in-rest (position (λ (y : Watched). y.place == p) xs) refl
        where
          in-rest : (o : Option ℕ) → position (λ (y : Watched). y.place == p) xs ≡ o → AreOf (set all p m) (set (x ∷ xs) i (watched p m)) × (places (set (x ∷ xs) i (watched p m)) ≡ places (x ∷ xs))
          in-rest None g = let k : ◌≡◌ {A = Option ℕ} None (Some i) = sym (position-miss (λ (y : Watched). y.place == p) x xs f ∙ ap (option_map suc) g) ∙ e in cc
          in-rest (Some j) g =
              let k : Some (suc j) ≡ Some i = sym (position-miss (λ (y : Watched). y.place == p) x xs f ∙ ap (option_map suc) g) ∙ e in
              let index : suc j ≡ i = cc in
              let r = deeper j g in
              let ne : p ≢ x.place = λ q. differ x.place p f (sym q) in
              subst (λ n. AreOf (set all p m) (set (x ∷ xs) n (watched p m)) × (places (set (x ∷ xs) n (watched p m)) ≡ places (x ∷ xs))) index
              ((get-set_other all p x.place m ne ∙ z.0, r.0), ap (λ ps. x.place ∷ ps) r.1)

  pub put-watched : (kept : List Watched) (i : ℕ) → IsWatched all kept → position (λ (x : Watched). x.place == p) kept ≡ Some i → IsWatched (set all p m) (set kept i (watched p m))
  put-watched kept i z e = let r = put-of kept i z.each z.apart e in record { each = r.0; apart = ap are_apart r.1 ∙ z.apart }

pub put-found : (kept : List Watched) (p : ℕ) → has p (places kept) ≡ true → position (λ (x : Watched). x.place == p) kept ≡ None → ⊥
put-found [] p e f = cc
put-found (x ∷ xs) p e f = on (x.place == p) refl (λ d h. put-found xs p d h)
  where
    on : (b : Bool) → (x.place == p) ≡ b → (has p (places xs) ≡ true → position (λ (y : Watched). y.place == p) xs ≡ None → ⊥) → ⊥
    on true g deeper = let k : ◌≡◌ {A = Option ℕ} (Some 0) None = sym (position-hit (λ (y : Watched). y.place == p) x xs g) ∙ f in cc
    on false g deeper = in-rest (position (λ (y : Watched). y.place == p) xs) refl
      where
        in-rest : (o : Option ℕ) → position (λ (y : Watched). y.place == p) xs ≡ o → ⊥
        in-rest None h = let same : has p (places (x ∷ xs)) ≡ has p (places xs) = rw g refl in deeper (sym same ∙ e) h
        in-rest (Some j) h = let k : ◌≡◌ {A = Option ℕ} (Some (suc j)) None = sym (position-miss (λ (y : Watched). y.place == p) x xs g ∙ ap (option_map suc) h) ∙ f in cc

pub has-more : (ps : List ℕ) (q p : ℕ) → has q (ps ++ p ∷ []) ≡ has q ps || (p == q)
has-more [] q p = on (p == q)
  where
    on : (b : Bool) → (b || false) ≡ b
    on true = refl
    on false = refl
has-more (x ∷ ps) q p = on (x == q) (has-more ps q p)
  where
    on : (b : Bool) → has q (ps ++ p ∷ []) ≡ has q ps || (p == q) → (b || has q (ps ++ p ∷ [])) ≡ (b || has q ps) || (p == q)
    on true r = refl
    on false r = r

-- those that were kept, and all that came since
pub more-kept : (old now : List ℕ) (from count p : ℕ) → ((q : ℕ) → has q old || (nat_le from q && nat_lt q count) ≡ true → has q now ≡ true) → has p old || (nat_le from p && nat_lt p (count + 1)) ≡ true → has p (now ++ count ∷ []) ≡ true
more-kept old now from count p f e = has-more now p count ∙ on (has p old) (nat_lt p count) refl refl
  where
    or-true : (b : Bool) → (b || true) ≡ true
    or-true true = refl
    or-true false = refl

    both : (a b : Bool) → a && b ≡ true → (a ≡ true) × (b ≡ true)
    both true true g = (refl, refl)
    both true false g = cc
    both false b g = cc

    on : (b d : Bool) → has p old ≡ b → nat_lt p count ≡ d → has p now || (count == p) ≡ true
    on true d g h = let k : has p now ≡ true = f p (rw g refl) in rw k refl
    on false true g h =
        let r = both (nat_le from p) (nat_lt p (count + 1)) (sym (ap (λ b. b || (nat_le from p && nat_lt p (count + 1))) g) ∙ e) in
        let k : has p now ≡ true = f p (rw (g, r.0, h) refl) in
        rw k refl
    on false false g h =
        let r = both (nat_le from p) (nat_lt p (count + 1)) (sym (ap (λ b. b || (nat_le from p && nat_lt p (count + 1))) g) ∙ e) in
        let here : (count == p) ≡ true = grind (arith, nat_tests, r.1, h) in
        rw here (or-true (has p now))

-- one more comes last
module _ (all : List MonitorCore) (m : MonitorCore) where
  more-of : (kept : List Watched) → AreOf all kept → AreOf (all ++ m ∷ []) (kept ++ watched (length all) m ∷ [])
  more-of [] z = (get-last all m, tt)
  more-of (x ∷ xs) z = (get-before all m x.place (slice_get_within all x.place x.monitor z.0) ∙ z.0, more-of xs z.1)

  none-last : (kept : List Watched) → AreOf all kept → has (length all) (places kept) ≡ false
  none-last [] z = refl
  none-last (x ∷ xs) z =
      let l : x.place < length all = slice_get_within all x.place x.monitor z.0 in
      let off : (x.place == length all) ≡ false = grind (arith, nat_tests) in
      rw off (none-last xs z.1)

  pub places-last : (kept : List Watched) (p : ℕ) → places (kept ++ watched p m ∷ []) ≡ places kept ++ p ∷ []
  places-last [] p = refl
  places-last (x ∷ xs) p = ap (λ ps. x.place ∷ ps) (places-last xs p)

  apart-more : (ps : List ℕ) (p : ℕ) → are_apart ps ≡ true → has p ps ≡ false → are_apart (ps ++ p ∷ []) ≡ true
  apart-more [] p a e = refl
  apart-more (x ∷ ps) p a e = on (x == p) (has x ps) refl refl a e (λ others rest. apart-more ps p others rest)
    where
      flip : (x == p) ≡ false → (p == x) ≡ false
      flip f = grind (arith, nat_tests)

      on : (b d : Bool) → (x == p) ≡ b → has x ps ≡ d → (not (has x ps) && are_apart ps) ≡ true → ((x == p) || has p ps) ≡ false → (are_apart ps ≡ true → has p ps ≡ false → are_apart (ps ++ p ∷ []) ≡ true) → (not (has x (ps ++ p ∷ [])) && are_apart (ps ++ p ∷ [])) ≡ true
      on true d f g h k deeper = let w : ((x == p) || has p ps) ≡ true = rw f refl in cc
      on false true f g h k deeper = let w : (not (has x ps) && are_apart ps) ≡ false = rw g refl in cc
      on false false f g h k deeper =
          let others : are_apart ps ≡ true = let w : (not (has x ps) && are_apart ps) ≡ are_apart ps = rw g refl in sym w ∙ h in
          let rest : has p ps ≡ false = let w : ((x == p) || has p ps) ≡ has p ps = rw f refl in sym w ∙ k in
          let off : has x (ps ++ p ∷ []) ≡ false = has-more ps x p ∙ rw (g, flip f) refl in
          rw off (deeper others rest)

  pub more-watched : (kept : List Watched) → IsWatched all kept → IsWatched (all ++ m ∷ []) (kept ++ watched (length all) m ∷ [])
  more-watched kept z = record { each = more-of kept z.each; apart = ap are_apart (places-last kept (length all)) ∙ apart-more (places kept) (length all) z.apart (none-last kept z.each) }

-- those that pass a test of their places stay
module _ (test : ℕ → Bool) where
  pub kept-has : (kept : List Watched) (p : ℕ) → test p ≡ true → has p (places (filter (λ (x : Watched). test x.place) kept)) ≡ has p (places kept)
  kept-has [] p e = refl
  kept-has (x ∷ xs) p e = on (test x.place) (x.place == p) refl refl (kept-has xs p e)
    where
      on : (b d : Bool) → test x.place ≡ b → (x.place == p) ≡ d → has p (places (filter (λ (y : Watched). test y.place) xs)) ≡ has p (places xs) → has p (places (filter (λ (y : Watched). test y.place) (x ∷ xs))) ≡ has p (places (x ∷ xs))
      on true true f g r = rw (f, g) refl
      on true false f g r = rw (f, g) r
      on false true f g r = let k : test x.place ≡ true = ap test (equal x.place p g) ∙ e in cc
      on false false f g r = rw (f, g) r

  pub gone-has : (kept : List Watched) (p : ℕ) → test p ≡ false → has p (places (filter (λ (x : Watched). test x.place) kept)) ≡ false
  gone-has [] p e = refl
  gone-has (x ∷ xs) p e = on (test x.place) (x.place == p) refl refl (gone-has xs p e)
    where
      on : (b d : Bool) → test x.place ≡ b → (x.place == p) ≡ d → has p (places (filter (λ (y : Watched). test y.place) xs)) ≡ false → has p (places (filter (λ (y : Watched). test y.place) (x ∷ xs))) ≡ false
      on true true f g r = let k : test x.place ≡ false = ap test (equal x.place p g) ∙ e in cc
      on true false f g r = rw (f, g) r
      on false d f g r = rw f r

  fewer-of : (all : List MonitorCore) (kept : List Watched) → AreOf all kept → AreOf all (filter (λ (x : Watched). test x.place) kept)
  fewer-of all [] z = tt
  fewer-of all (x ∷ xs) z = on (test x.place) refl (fewer-of all xs z.1)
    where
      on : (b : Bool) → test x.place ≡ b → AreOf all (filter (λ (y : Watched). test y.place) xs) → AreOf all (filter (λ (y : Watched). test y.place) (x ∷ xs))
      on true f r = rw f (z.0, r)
      on false f r = rw f r

  fewer-has : (kept : List Watched) (p : ℕ) → has p (places kept) ≡ false → has p (places (filter (λ (x : Watched). test x.place) kept)) ≡ false
  fewer-has kept p e = on (test p) refl
    where
      on : (b : Bool) → test p ≡ b → has p (places (filter (λ (x : Watched). test x.place) kept)) ≡ false
      on true f = kept-has kept p f ∙ e
      on false f = gone-has kept p f

  fewer-apart : (kept : List Watched) → are_apart (places kept) ≡ true → are_apart (places (filter (λ (x : Watched). test x.place) kept)) ≡ true
  fewer-apart [] a = refl
  fewer-apart (x ∷ xs) a = on (test x.place) refl (fewer-apart xs apart.1)
    where
      left : (b c : Bool) → (not b && c) ≡ true → (b ≡ false) × (c ≡ true)
      left false true h = (refl, refl)
      left false false h = cc
      left true c h = cc

      apart : (has x.place (places xs) ≡ false) × (are_apart (places xs) ≡ true)
      apart = left (has x.place (places xs)) (are_apart (places xs)) a

      on : (b : Bool) → test x.place ≡ b → are_apart (places (filter (λ (y : Watched). test y.place) xs)) ≡ true → are_apart (places (filter (λ (y : Watched). test y.place) (x ∷ xs))) ≡ true
      on true f r = rw (f, fewer-has xs x.place apart.0) r
      on false f r = rw f r

  pub fewer-watched : (all : List MonitorCore) (kept : List Watched) → IsWatched all kept → IsWatched all (filter (λ (x : Watched). test x.place) kept)
  fewer-watched all kept z = record { each = fewer-of all kept z.each; apart = fewer-apart kept z.apart }

  pub fewer-many : (kept : List Watched) → length (filter (λ (x : Watched). test x.place) kept) ≤ length kept
  fewer-many [] = omega arith
  fewer-many (x ∷ xs) = on (test x.place) refl (fewer-many xs)
    where
      on : (b : Bool) → test x.place ≡ b → length (filter (λ (y : Watched). test y.place) xs) ≤ length xs → length (filter (λ (y : Watched). test y.place) (x ∷ xs)) ≤ length (x ∷ xs)
      on true f r = rw f (omega (arith, r))
      on false f r = rw f (omega (arith, r))
