-- The laws of each connection, and of the items that name it.
use Rattle.std.proofs.Common.{ℕ, ◌≡◌, ◌+◌, ◌<◌, ◌≤◌, ◌==◌, Bool, true, false, ◌&&◌, ◌||◌, List, [], ◌∷◌, refl, sym, ◌∙◌, subst, arith, nat_lt, nat_le}
use Rattle.std.proofs.lemmas.Grind.{common_steps}
use Rattle.mdb_log.specs.History.{PoolItem, asked, warmed, gave_up, returned, pinned_by, established, failed, replicated, taken, unpinned, created, closed, checked_in, granted, ended, raised, pool_created, pool_ready, pool_closed}
use Rattle.mdb_log.specs.Connections.{one_if, has, live, is_live, created_total, available_list}
use Rattle.mdb_sound.specs.Sound.{Sound, MayTake, MayCreate, MayClose, MayCheckIn, MayGrant, just_created}
use Rattle.mdb_sound.specs.Counts.{creations, closings, names, creates}
use Rattle.mdb_sound.specs.Laws.{ConnectionLaws, NamingLaws}
use Rattle.mdb_sound.proofs.Steady.{AsItIs, steady, above}

module _ (xs : List PoolItem) (s : Sound xs) (c : ℕ) where
  at-most-one : creations xs c ≤ 1
  at-most-one =
      let i : AsItIs xs c = steady xs s c in
      let n : creations xs c ≡ one_if (nat_lt 0 c && nat_le c (created_total xs)) = i.numbered in
      grind (arith, common_steps)

  pub connection-laws : ConnectionLaws xs c
  connection-laws =
      let i : AsItIs xs c = steady xs s c in
      let b : live xs c + closings xs c ≡ creations xs c = i.balanced in
      let m : creations xs c ≤ 1 = at-most-one in
      record {
        created_in_order = i.numbered;
        created_once = m;
        lives_till_closed = b;
        lives_once = omega arith;
        closed_once = omega arith;
        decided_once = i.decided;
        pending_lives = i.pending_lives;
        pending_is_undecided = i.undecided;
        available_lives = i.available_lives;
        pinned_lives = i.pinned_lives;
      }

  living : is_live xs c ≡ true → live xs c ≡ 1
  living e =
      let l : ConnectionLaws xs c = connection-laws in
      let k : live xs c ≤ 1 = l.lives_once in
      let p : 0 < live xs c = above (live xs c) e in
      omega arith

  -- the connection that an item names is the one
  here : (d : ℕ) → (d == c) ≡ true → live xs d ≡ 1 → live xs c ≡ 1
  here d e l = let f : d ≡ c = grind arith in subst (λ k. live xs k ≡ 1) f l

just-lives : (xs : List PoolItem) → Sound xs → (c : ℕ) → just_created xs c ≡ true → live xs c ≡ 1
just-lives (created d m ∷ xs) s c e =
    let l : ConnectionLaws (created d m ∷ xs) c = connection-laws (created d m ∷ xs) s c in
    let k : live xs c + one_if (d == c) ≤ 1 = l.lives_once in
    grind (arith, common_steps)
just-lives (asked r m ∷ xs) s c e = cc
just-lives (warmed r m ∷ xs) s c e = cc
just-lives (gave_up r ∷ xs) s c e = cc
just-lives (returned r used ∷ xs) s c e = cc
just-lives (pinned_by r ∷ xs) s c e = cc
just-lives (established d how m ∷ xs) s c e = cc
just-lives (failed d service ∷ xs) s c e = cc
just-lives (replicated d ∷ xs) s c e = cc
just-lives (taken r d ∷ xs) s c e = cc
just-lives (unpinned d ∷ xs) s c e = cc
just-lives (closed d ∷ xs) s c e = cc
just-lives (checked_in d m ∷ xs) s c e = cc
just-lives (granted r d ∷ xs) s c e = cc
just-lives (ended r end ∷ xs) s c e = cc
just-lives (raised service error ∷ xs) s c e = cc
just-lives (pool_created ∷ xs) s c e = cc
just-lives (pool_ready ∷ xs) s c e = cc
just-lives (pool_closed ∷ xs) s c e = cc
just-lives [] s c e = cc

pub named-lives : (xs : List PoolItem) (x : PoolItem) → Sound (x ∷ xs) → (c : ℕ) → names x c ≡ true → creates x c ≡ false → live xs c ≡ 1
named-lives xs (established d how m) s c e f = here xs s.1 c d e ((connection-laws xs s.1 d).pending_lives s.0)
named-lives xs (failed d service) s c e f = here xs s.1 c d e ((connection-laws xs s.1 d).pending_lives s.0)
named-lives xs (replicated d) s c e f = here xs s.1 c d e ((connection-laws xs s.1 d).pinned_lives s.0)
named-lives xs (unpinned d) s c e f = here xs s.1 c d e ((connection-laws xs s.1 d).pinned_lives s.0)
named-lives xs (taken r d) s c e f = let w : MayTake xs r d = s.0 in here xs s.1 c d e (living xs s.1 d w.lives)
named-lives xs (closed d) s c e f = let w : MayClose xs d = s.0 in here xs s.1 c d e (living xs s.1 d w.lives)
named-lives xs (checked_in d m) s c e f = let w : MayCheckIn xs d = s.0 in here xs s.1 c d e (living xs s.1 d w.lives)
named-lives xs (granted r d) s c e f = let w : MayGrant xs r d = s.0 in here xs s.1 c d e (on (just_created xs d) refl w.there)
  where
    on : (b : Bool) → just_created xs d ≡ b → b || has d (available_list xs) ≡ true → live xs d ≡ 1
    on true g h = just-lives xs s.1 d g
    on false g h = (connection-laws xs s.1 d).available_lives h
named-lives xs (created d m) s c e f = cc
named-lives xs (asked r m) s c e f = cc
named-lives xs (warmed r m) s c e f = cc
named-lives xs (gave_up r) s c e f = cc
named-lives xs (returned r used) s c e f = cc
named-lives xs (pinned_by r) s c e f = cc
named-lives xs (ended r end) s c e f = cc
named-lives xs (raised service error) s c e f = cc
named-lives xs (pool_created) s c e f = cc
named-lives xs (pool_ready) s c e f = cc
named-lives xs (pool_closed) s c e f = cc

-- what is created has the next id
created-next : (xs : List PoolItem) (x : PoolItem) → Sound (x ∷ xs) → (c : ℕ) → creates x c ≡ true → c ≡ created_total xs + 1
created-next xs (created d m) s c e = let w : MayCreate xs d = s.0 in let n : d ≡ created_total xs + 1 = w.next in let f : d ≡ c = grind arith in sym f ∙ n
created-next xs (asked r m) s c e = cc
created-next xs (warmed r m) s c e = cc
created-next xs (gave_up r) s c e = cc
created-next xs (returned r used) s c e = cc
created-next xs (pinned_by r) s c e = cc
created-next xs (established d how m) s c e = cc
created-next xs (failed d service) s c e = cc
created-next xs (replicated d) s c e = cc
created-next xs (taken r d) s c e = cc
created-next xs (unpinned d) s c e = cc
created-next xs (closed d) s c e = cc
created-next xs (checked_in d m) s c e = cc
created-next xs (granted r d) s c e = cc
created-next xs (ended r end) s c e = cc
created-next xs (raised service error) s c e = cc
created-next xs (pool_created) s c e = cc
created-next xs (pool_ready) s c e = cc
created-next xs (pool_closed) s c e = cc

pub naming-laws : (xs : List PoolItem) (x : PoolItem) → Sound (x ∷ xs) → (c : ℕ) → NamingLaws xs x c
naming-laws xs x s c = record { named_lives = lives; silent_after_close = λ l. closed_silent (names x c) (creates x c) refl refl l; silent_before_creation = λ l f. early_silent (names x c) refl l f }
  where
    lives : names x c ≡ true → creates x c ≡ false → live xs c ≡ 1
    lives = named-lives xs x s c

    i : ConnectionLaws xs c
    i = connection-laws xs s.1 c

    closed_silent : (b d : Bool) → names x c ≡ b → creates x c ≡ d → 0 < closings xs c → names x c ≡ false
    closed_silent false d e f l = e
    closed_silent true false e f l =
        let k : live xs c ≡ 1 = lives e f in
        let b : live xs c + closings xs c ≡ creations xs c = i.lives_till_closed in
        let m : creations xs c ≤ 1 = i.created_once in
        absurd (omega arith)
    closed_silent true true e f l =
        let b : live xs c + closings xs c ≡ creations xs c = i.lives_till_closed in
        let n : creations xs c ≡ one_if (nat_lt 0 c && nat_le c (created_total xs)) = i.created_in_order in
        let k : c ≡ created_total xs + 1 = created-next xs x s c f in
        absurd (grind (arith, common_steps))

    early_silent : (b : Bool) → names x c ≡ b → created_total xs < c → creates x c ≡ false → names x c ≡ false
    early_silent false e l f = e
    early_silent true e l f =
        let k : live xs c ≡ 1 = lives e f in
        let b : live xs c + closings xs c ≡ creations xs c = i.lives_till_closed in
        let n : creations xs c ≡ one_if (nat_lt 0 c && nat_le c (created_total xs)) = i.created_in_order in
        absurd (grind (arith, common_steps))
