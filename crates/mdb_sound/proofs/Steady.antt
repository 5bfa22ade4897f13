-- What always holds of a connection, item by item.
use Rattle.std.proofs.Common.{ℕ, ◌≡◌, ◌+◌, ◌-◌, ◌<◌, ◌≤◌, ◌==◌, Bool, true, false, not, ◌&&◌, ◌||◌, List, [], ◌∷◌, ◌++◌, Option, Some, None, is_some, refl, sym, ◌∙◌, subst, arith, if◌then◌else◌, nat_lt, nat_le}
use Rattle.std.proofs.lemmas.Bool.Decides.{nat_tests}
use Rattle.std.proofs.lemmas.Grind.{common_steps}
use Rattle.mdb_log.specs.History.{PoolItem, asked, warmed, gave_up, returned, pinned_by, established, failed, replicated, taken, unpinned, created, closed, checked_in, granted, ended, raised, pool_created, pool_ready, pool_closed, is_number, given, without}
use Rattle.mdb_log.specs.Connections.{one_if, has, live, is_live, created_total, pending_list, available_list, holding, pins, granted_to}
use Rattle.mdb_log.proofs.Numbers.{has-append, has-without, has-without-is}
use Rattle.mdb_sound.specs.Sound.{Sound, Holds, MayCreate, MayClose, MayCheckIn}
use Rattle.mdb_sound.specs.Counts.{creations, closings, establishings, failures}
use Rattle.mdb_sound.specs.Steady.{Steady}

abbrev pub AsItIs : List PoolItem → ℕ → Type 0
AsItIs xs c = Steady c (created_total xs) (creations xs c) (closings xs c) (establishings xs c) (failures xs c) (live xs c) (pins xs c) (has c (pending_list xs)) (has c (available_list xs))

-- the one that a party holds was given to it
pub held-given : (xs : List PoolItem) (r c : ℕ) → holding xs r ≡ Some c → given xs r ≡ Some c
held-given xs r c e = on (given xs r) refl
  where
    at : (d : ℕ) (b : Bool) → given xs r ≡ Some d → has d (pending_list xs) ≡ b → given xs r ≡ Some c
    at d true f g = let h : holding xs r ≡ None = rw (f, g) refl in cc
    at d false f g = let h : holding xs r ≡ Some d = rw (f, g) refl in cc

    on : (o : Option ℕ) → given xs r ≡ o → given xs r ≡ Some c
    on None f = let h : holding xs r ≡ None = rw f refl in cc
    on (Some d) f = at d (has d (pending_list xs)) f refl

after_create : (c d made cr cl es fa lv pn : ℕ) (pe av : Bool) → Steady c made cr cl es fa lv pn pe av → d ≡ made + 1 → Steady c (made + 1) (cr + one_if (d == c)) cl es fa (lv + one_if (d == c)) pn (pe || (d == c)) av
after_create c d made cr cl es fa lv pn pe av i next =
    let n : cr ≡ one_if (nat_lt 0 c && nat_le c made) = i.numbered in
    let b : lv + cl ≡ cr = i.balanced in
    let k : es + fa ≤ cr = i.decided in
    let u : pe ≡ true → es + fa ≡ 0 = i.undecided in
    let p : pe ≡ true → lv ≡ 1 = i.pending_lives in
    let a : av ≡ true → lv ≡ 1 = i.available_lives in
    let q : 0 < pn → lv ≡ 1 = i.pinned_lives in
    record {
      numbered = grind (arith, common_steps);
      balanced = grind (arith, common_steps);
      decided = grind (arith, common_steps);
      undecided = λ e. grind (arith, common_steps);
      pending_lives = λ e. grind (arith, common_steps);
      available_lives = λ e. grind (arith, common_steps);
      pinned_lives = λ e. grind (arith, common_steps);
    }

after_close : (c d made cr cl es fa lv pn : ℕ) (pe av : Bool) → Steady c made cr cl es fa lv pn pe av → (d ≡ c → 0 < lv) → (d ≡ c → pn ≡ 0) → Steady c made cr (cl + one_if (d == c)) es fa (lv - one_if (d == c)) pn (pe && not (d == c)) (av && not (d == c))
after_close c d made cr cl es fa lv pn pe av i lives loose =
    let n : cr ≡ one_if (nat_lt 0 c && nat_le c made) = i.numbered in
    let b : lv + cl ≡ cr = i.balanced in
    let k : es + fa ≤ cr = i.decided in
    let u : pe ≡ true → es + fa ≡ 0 = i.undecided in
    let p : pe ≡ true → lv ≡ 1 = i.pending_lives in
    let a : av ≡ true → lv ≡ 1 = i.available_lives in
    let q : 0 < pn → lv ≡ 1 = i.pinned_lives in
    record {
      numbered = n;
      balanced = grind (arith, common_steps);
      decided = k;
      undecided = λ e. grind (arith, common_steps);
      pending_lives = λ e. grind (arith, common_steps);
      available_lives = λ e. grind (arith, common_steps);
      pinned_lives = λ e. grind (arith, common_steps);
    }

after_decide : (c d made cr cl es fa lv pn : ℕ) (pe av more : Bool) → Steady c made cr cl es fa lv pn pe av → (d ≡ c → pe ≡ true) → (more ≡ true → d ≡ c) → Steady c made cr cl (es + one_if (d == c)) fa lv pn (pe && not (d == c)) (if more then true else av)
after_decide c d made cr cl es fa lv pn pe av more i waits so =
    let n : cr ≡ one_if (nat_lt 0 c && nat_le c made) = i.numbered in
    let b : lv + cl ≡ cr = i.balanced in
    let k : es + fa ≤ cr = i.decided in
    let u : pe ≡ true → es + fa ≡ 0 = i.undecided in
    let p : pe ≡ true → lv ≡ 1 = i.pending_lives in
    let a : av ≡ true → lv ≡ 1 = i.available_lives in
    let q : 0 < pn → lv ≡ 1 = i.pinned_lives in
    record {
      numbered = n;
      balanced = b;
      decided = grind (arith, common_steps);
      undecided = λ e. grind (arith, common_steps);
      pending_lives = λ e. grind (arith, common_steps);
      available_lives = λ e. grind (arith, common_steps);
      pinned_lives = q;
    }

after_fail : (c d made cr cl es fa lv pn : ℕ) (pe av : Bool) → Steady c made cr cl es fa lv pn pe av → (d ≡ c → pe ≡ true) → Steady c made cr cl es (fa + one_if (d == c)) lv pn (pe && not (d == c)) av
after_fail c d made cr cl es fa lv pn pe av i waits =
    let n : cr ≡ one_if (nat_lt 0 c && nat_le c made) = i.numbered in
    let b : lv + cl ≡ cr = i.balanced in
    let k : es + fa ≤ cr = i.decided in
    let u : pe ≡ true → es + fa ≡ 0 = i.undecided in
    let p : pe ≡ true → lv ≡ 1 = i.pending_lives in
    let a : av ≡ true → lv ≡ 1 = i.available_lives in
    let q : 0 < pn → lv ≡ 1 = i.pinned_lives in
    record {
      numbered = n;
      balanced = b;
      decided = grind (arith, common_steps);
      undecided = λ e. grind (arith, common_steps);
      pending_lives = λ e. grind (arith, common_steps);
      available_lives = a;
      pinned_lives = q;
    }

-- a list with the number at its end, once
pub has-again : (k j : ℕ) (ks : List ℕ) → has k (without j ks ++ j ∷ []) ≡ has k ks || (j == k)
has-again k j ks = grind (arith, common_steps, has-append k j (without j ks), has-without-is k j ks)

pub available-then : (b : Bool) (k j : ℕ) (ks : List ℕ) → has k (if b then ks else (without j ks ++ j ∷ [])) ≡ if not b && (j == k) then true else has k ks
available-then true k j ks = refl
available-then false k j ks = grind (arith, has-again k j ks)

pub above : (n : ℕ) → nat_lt 0 n ≡ true → 0 < n
above n e = grind (arith, nat_tests)

number_of : (o : Option ℕ) (d c : ℕ) → o ≡ Some d → is_number o c ≡ true → d ≡ c
number_of None d c e f = cc
number_of (Some k) d c e f = let g : k ≡ d = cc in grind arith

held_lives : (c d lv cl cr pn : ℕ) (made his : Bool) → lv + cl ≡ cr → cr ≡ one_if made → (his ≡ true → nat_lt 0 lv ≡ true) → (0 < pn → lv ≡ 1) → 0 < pn + one_if his → lv ≡ 1
held_lives c d lv cl cr pn true true b n l q e = let k : 0 < lv = above lv (l refl) in omega arith
held_lives c d lv cl cr pn false true b n l q e = let k : 0 < lv = above lv (l refl) in absurd (omega arith)
held_lives c d lv cl cr pn made false b n l q e = q (omega arith)

comes : (c d lv cl cr : ℕ) (made av : Bool) → lv + cl ≡ cr → cr ≡ one_if made → (av ≡ true → lv ≡ 1) → (d ≡ c → 0 < lv) → av || (d == c) ≡ true → lv ≡ 1
comes c d lv cl cr made true b n a l e = a refl
comes c d lv cl cr true false b n a l e = let f : d ≡ c = grind arith in let k : 0 < lv = l f in omega arith
comes c d lv cl cr false false b n a l e = let f : d ≡ c = grind arith in let k : 0 < lv = l f in absurd (omega arith)

pub steady : (xs : List PoolItem) → Sound xs → (c : ℕ) → AsItIs xs c
steady [] s c = record { numbered = grind (arith, common_steps); balanced = refl; decided = omega arith; undecided = λ e. refl; pending_lives = λ e. cc; available_lives = λ e. cc; pinned_lives = λ e. absurd (omega arith) }
steady (asked r m ∷ xs) s c = steady xs s.1 c
steady (warmed r m ∷ xs) s c = steady xs s.1 c
steady (gave_up r ∷ xs) s c = steady xs s.1 c
steady (returned r used ∷ xs) s c = steady xs s.1 c
steady (ended r end ∷ xs) s c = steady xs s.1 c
steady (raised service error ∷ xs) s c = steady xs s.1 c
steady (pool_created ∷ xs) s c = steady xs s.1 c
steady (pool_ready ∷ xs) s c = steady xs s.1 c
steady (pool_closed ∷ xs) s c = steady xs s.1 c
steady (taken r d ∷ xs) s c = steady xs s.1 c
steady (pinned_by r ∷ xs) s c =
    let i : AsItIs xs c = steady xs s.1 c in
    let h : Holds xs r = s.0 in
    let g : given xs r ≡ Some h.connection = held-given xs r h.connection h.holds in
    let l : is_live xs h.connection ≡ true = h.lives in
    let b : live xs c + closings xs c ≡ creations xs c = i.balanced in
    let n : creations xs c ≡ one_if (nat_lt 0 c && nat_le c (created_total xs)) = i.numbered in
    let q : 0 < pins xs c → live xs c ≡ 1 = i.pinned_lives in
    record { numbered = i.numbered; balanced = i.balanced; decided = i.decided; undecided = i.undecided; pending_lives = i.pending_lives; available_lives = i.available_lives; pinned_lives = λ e. held_lives c h.connection (live xs c) (closings xs c) (creations xs c) (pins xs c) (nat_lt 0 c && nat_le c (created_total xs)) (is_number (given xs r) c) b n (λ f. subst (λ k. nat_lt 0 (live xs k) ≡ true) (number_of (given xs r) h.connection c g f) l) q e }
steady (replicated d ∷ xs) s c =
    let i : AsItIs xs c = steady xs s.1 c in
    let w : 0 < pins xs d = s.0 in
    record { numbered = i.numbered; balanced = i.balanced; decided = i.decided; undecided = i.undecided; pending_lives = i.pending_lives; available_lives = i.available_lives; pinned_lives = λ e. i.pinned_lives (on (d == c) refl w e) }
  where
    on : (b : Bool) → (d == c) ≡ b → 0 < pins xs d → 0 < pins xs c + one_if b → 0 < pins xs c
    on true f w e = let g : d ≡ c = grind arith in subst (λ k. 0 < pins xs k) g w
    on false f w e = omega arith
steady (unpinned d ∷ xs) s c =
    let i : AsItIs xs c = steady xs s.1 c in
    record { numbered = i.numbered; balanced = i.balanced; decided = i.decided; undecided = i.undecided; pending_lives = i.pending_lives; available_lives = i.available_lives; pinned_lives = λ e. i.pinned_lives (omega arith) }
steady (established d how m ∷ xs) s c =
    let w : has d (pending_list xs) ≡ true = s.0 in
    let k : Steady c (created_total xs) (creations xs c) (closings xs c) (establishings xs c + one_if (d == c)) (failures xs c) (live xs c) (pins xs c) (has c (pending_list xs) && not (d == c)) (if not (is_some (granted_to xs d)) && (d == c) then true else has c (available_list xs)) = after_decide c d (created_total xs) (creations xs c) (closings xs c) (establishings xs c) (failures xs c) (live xs c) (pins xs c) (has c (pending_list xs)) (has c (available_list xs)) (not (is_some (granted_to xs d)) && (d == c)) (steady xs s.1 c) (λ e. subst (λ k. has k (pending_list xs) ≡ true) e w) (λ e. grind (arith, common_steps)) in
    subst (λ b. Steady c (created_total xs) (creations xs c) (closings xs c) (establishings xs c + one_if (d == c)) (failures xs c) (live xs c) (pins xs c) (has c (without d (pending_list xs))) b) (sym (available-then (is_some (granted_to xs d)) c d (available_list xs))) (subst (λ b. Steady c (created_total xs) (creations xs c) (closings xs c) (establishings xs c + one_if (d == c)) (failures xs c) (live xs c) (pins xs c) b (if not (is_some (granted_to xs d)) && (d == c) then true else has c (available_list xs))) (sym (has-without-is c d (pending_list xs))) k)
steady (failed d service ∷ xs) s c =
    let w : has d (pending_list xs) ≡ true = s.0 in
    rw (has-without-is c d (pending_list xs)) (after_fail c d (created_total xs) (creations xs c) (closings xs c) (establishings xs c) (failures xs c) (live xs c) (pins xs c) (has c (pending_list xs)) (has c (available_list xs)) (steady xs s.1 c) (λ e. subst (λ k. has k (pending_list xs) ≡ true) e w))
steady (created d m ∷ xs) s c =
    let w : MayCreate xs d = s.0 in
    rw (has-append c d (pending_list xs)) (after_create c d (created_total xs) (creations xs c) (closings xs c) (establishings xs c) (failures xs c) (live xs c) (pins xs c) (has c (pending_list xs)) (has c (available_list xs)) (steady xs s.1 c) w.next)
steady (closed d ∷ xs) s c =
    let w : MayClose xs d = s.0 in
    rw (has-without-is c d (pending_list xs), has-without-is c d (available_list xs)) (after_close c d (created_total xs) (creations xs c) (closings xs c) (establishings xs c) (failures xs c) (live xs c) (pins xs c) (has c (pending_list xs)) (has c (available_list xs)) (steady xs s.1 c) (λ e. subst (λ k. 0 < live xs k) e (above (live xs d) w.lives)) (λ e. subst (λ k. pins xs k ≡ 0) e w.unpinned))
steady (checked_in d m ∷ xs) s c =
    let i : AsItIs xs c = steady xs s.1 c in
    let w : MayCheckIn xs d = s.0 in
    record { numbered = i.numbered; balanced = i.balanced; decided = i.decided; undecided = i.undecided; pending_lives = i.pending_lives; available_lives = λ e. comes c d (live xs c) (closings xs c) (creations xs c) (nat_lt 0 c && nat_le c (created_total xs)) (has c (available_list xs)) i.balanced i.numbered i.available_lives (λ e. subst (λ k. 0 < live xs k) e (above (live xs d) w.lives)) (sym (has-again c d (available_list xs)) ∙ e); pinned_lives = i.pinned_lives }
steady (granted r d ∷ xs) s c =
    let i : AsItIs xs c = steady xs s.1 c in
    record { numbered = i.numbered; balanced = i.balanced; decided = i.decided; undecided = i.undecided; pending_lives = i.pending_lives; available_lives = λ e. i.available_lives (has-without c d (available_list xs) e); pinned_lives = i.pinned_lives }
