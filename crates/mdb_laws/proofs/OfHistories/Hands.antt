-- Who has a connection gives it back before another gets it.
use Rattle.std.proofs.Common.{ℕ, ◌≡◌, ◌==◌, ◌||◌, Bool, true, false, if◌then◌else◌, List, [], ◌∷◌, ◌++◌, refl, ◌∙◌, ap, subst, arith}
use Rattle.mdb_log.specs.History.{PoolItem, asked, warmed, gave_up, returned, pinned_by, established, failed, replicated, taken, unpinned, created, closed, checked_in, granted, ended, raised, pool_created, pool_ready, pool_closed, without}
use Rattle.mdb_log.specs.Connections.{has, parties}
use Rattle.mdb_log.proofs.Numbers.{has-without-is}
use Rattle.mdb_log.proofs.Bools.{both-true}
use Rattle.mdb_sound.specs.Sound.{Sound, MayGrant, MayTake}
use Rattle.mdb_sound.proofs.Earlier.{earlier-sound}
use Rattle.mdb_laws.specs.HistoryLaws.{hands, gives_back, HandsBack}

either-false : (a b : Bool) → a || b ≡ false → (a ≡ false) × (b ≡ false)
either-false true b e = cc
either-false false b e = (refl, e)

module _ (c r : ℕ) where
  -- who gets a connection is a party of it
  handed : (y : PoolItem) (before : List PoolItem) → hands y c r ≡ true → has r (parties (y ∷ before) c) ≡ true
  handed (granted q d) before e = let w : ((d == c) ≡ true) × ((q == r) ≡ true) = both-true (d == c) (q == r) e in rw (w.0, w.1) refl
  handed (taken q d) before e = let w : ((d == c) ≡ true) × ((q == r) ≡ true) = both-true (d == c) (q == r) e in rw (w.0, w.1) refl
  handed _ before e = cc

  added : (b : Bool) (q : ℕ) (rs : List ℕ) → has r rs ≡ true → has r (if b then (q ∷ rs) else rs) ≡ true
  added false q rs e = e
  added true q rs e = rw e (or-true (q == r))
    where
      or-true : (b : Bool) → b || true ≡ true
      or-true true = refl
      or-true false = refl

  left-out : (q : ℕ) (rs : List ℕ) → (q == r) ≡ false → has r rs ≡ true → has r (without q rs) ≡ true
  left-out q rs f e = has-without-is r q rs ∙ rw (e, f) refl

  -- and stays one until it gives it back
  stays : (between ys : List PoolItem) → has r (parties ys c) ≡ true → gives_back between r ≡ false → has r (parties (between ++ ys) c) ≡ true
  stays [] ys e g = e
  stays (asked q m ∷ xs) ys e g = stays xs ys e g
  stays (warmed q m ∷ xs) ys e g = stays xs ys e g
  stays (gave_up q ∷ xs) ys e g = stays xs ys e g
  stays (pinned_by q ∷ xs) ys e g = stays xs ys e g
  stays (established d how m ∷ xs) ys e g = stays xs ys e g
  stays (failed d service ∷ xs) ys e g = stays xs ys e g
  stays (replicated d ∷ xs) ys e g = stays xs ys e g
  stays (unpinned d ∷ xs) ys e g = stays xs ys e g
  stays (created d m ∷ xs) ys e g = stays xs ys e g
  stays (closed d ∷ xs) ys e g = stays xs ys e g
  stays (checked_in d m ∷ xs) ys e g = stays xs ys e g
  stays (raised service error ∷ xs) ys e g = stays xs ys e g
  stays (pool_created ∷ xs) ys e g = stays xs ys e g
  stays (pool_ready ∷ xs) ys e g = stays xs ys e g
  stays (pool_closed ∷ xs) ys e g = stays xs ys e g
  stays (granted q d ∷ xs) ys e g = added (d == c) q (parties (xs ++ ys) c) (stays xs ys e g)
  stays (taken q d ∷ xs) ys e g = added (d == c) q (parties (xs ++ ys) c) (stays xs ys e g)
  stays (returned q used ∷ xs) ys e g =
      let w : ((q == r) ≡ false) × (gives_back xs r ≡ false) = either-false (q == r) (gives_back xs r) g in
      left-out q (parties (xs ++ ys) c) w.0 (stays xs ys e w.1)
  stays (ended q end ∷ xs) ys e g =
      let w : ((q == r) ≡ false) × (gives_back xs r ≡ false) = either-false (q == r) (gives_back xs r) g in
      left-out q (parties (xs ++ ys) c) w.0 (stays xs ys e w.1)

-- a connection is handed out where nobody has it
free-then : (x : PoolItem) (ys : List PoolItem) (c q : ℕ) → Sound (x ∷ ys) → hands x c q ≡ true → parties ys c ≡ []
free-then (granted k d) ys c q s e = let w : ((d == c) ≡ true) × ((k == q) ≡ true) = both-true (d == c) (k == q) e in let same : d ≡ c = grind (arith, w.0) in let may : MayGrant ys k d = s.0 in subst (λ n. parties ys n ≡ []) same may.free
free-then (taken k d) ys c q s e = let w : ((d == c) ≡ true) × ((k == q) ≡ true) = both-true (d == c) (k == q) e in let same : d ≡ c = grind (arith, w.0) in let may : MayTake ys k d = s.0 in subst (λ n. parties ys n ≡ []) same may.free
free-then _ ys c q s e = cc

pub hands-back : (xs : List PoolItem) → Sound xs → HandsBack xs
hands-back xs s later between before x y c q r e f g = on (gives_back between r) refl
  where
    sound : Sound (x ∷ (between ++ (y ∷ before)))
    sound = earlier-sound later (x ∷ (between ++ (y ∷ before))) (subst Sound e s)

    on : (b : Bool) → gives_back between r ≡ b → gives_back between r ≡ true
    on true k = k
    on false k =
        let some : has r (parties (between ++ (y ∷ before)) c) ≡ true = stays c r between (y ∷ before) (handed c r y before g) k in
        let none : has r (parties (between ++ (y ∷ before)) c) ≡ false = ap (has r) (free-then x (between ++ (y ∷ before)) c q sound f) in
        cc
