-- Which connection a party of a pool holds, read off all items of a sound history at once.
use Rattle.std.proofs.Common.{ℕ, ◌≡◌, ◌+◌, ◌<◌, ◌≤◌, ◌==◌, Bool, true, false, not, ◌&&◌, ◌||◌, List, [], ◌∷◌, Option, Some, None, is_some, refl, sym, ◌∙◌, ap, subst, arith, if◌then◌else◌, nat_lt}
use Rattle.mdb_log.specs.History.{PoolItem, pinned_by, established, failed, replicated, taken, unpinned, is_number, given, has_asked, has_taken}
use Rattle.mdb_log.specs.Connections.{one_if, has, live, is_live, pending_list, holding, pins, is_pinned}
use Rattle.mdb_log.specs.Requests.{end_of}
use Rattle.mdb_log.specs.PlainConnections.{closings, is_created, is_closed, is_tried, is_pending}
use Rattle.mdb_log.specs.PlainHolders.{is_granted_to, is_taken_by}
use Rattle.mdb_log.proofs.Bools.{both-right}
use Rattle.mdb_log.proofs.Pins.{pinned-again}
use Rattle.mdb_sound.specs.Sound.{Sound, Holds, MayTake}
use Rattle.mdb_sound.specs.Counts.{creations as made, closings as shut}
use Rattle.mdb_sound.specs.Laws.{ConnectionLaws}
use Rattle.mdb_sound.proofs.Steady.{above, held-given}
use Rattle.mdb_sound.proofs.Connections.{connection-laws}
use Rattle.mdb_sound.proofs.Once.{OnceEach, once}
use Rattle.mdb_histories.proofs.OfPlain.Lists.{same-if}
use Rattle.mdb_histories.proofs.OfPlain.Connections.{pending-alike}
use Rattle.mdb_histories.proofs.OfPlain.Totals.{lives-created}
use Rattle.mdb_histories.proofs.OfPlain.Given.{was_returned, taken-one, given-means}

-- one that lives and is not pending was tried
pub live-tried : (xs : List PoolItem) → Sound xs → (c : ℕ) → has c (pending_list xs) ≡ false → is_live xs c ≡ true → is_tried xs c ≡ true
live-tried xs s c e l =
    let law : ConnectionLaws xs c = connection-laws xs s c in
    let b : live xs c + shut xs c ≡ made xs c = law.lives_till_closed in
    let m : made xs c ≤ 1 = law.created_once in
    let a : 0 < live xs c = above (live xs c) l in
    let there : is_created xs c ≡ true = lives-created xs s c a in
    let z : closings xs c ≡ 0 = let k : shut xs c ≡ 0 = omega arith in k in
    let p : is_created xs c && (not (is_tried xs c) && not (is_closed xs c)) ≡ false = sym (pending-alike xs s c) ∙ e in
    let still : is_closed xs c ≡ false = ap (nat_lt 0) z in
    grind arith

-- who holds a connection holds none that is pending
pub held-ready : (xs : List PoolItem) (r c : ℕ) → holding xs r ≡ Some c → has c (pending_list xs) ≡ false
held-ready xs r c e = on (given xs r) refl
  where
    at : (d : ℕ) (b : Bool) → given xs r ≡ Some d → has d (pending_list xs) ≡ b → has c (pending_list xs) ≡ false
    at d true f g = let h : holding xs r ≡ None = rw (f, g) refl in cc
    at d false f g = let h : holding xs r ≡ Some d = rw (f, g) refl in let k : d ≡ c = cc in subst (λ n. has n (pending_list xs) ≡ false) k g

    on : (o : Option ℕ) → given xs r ≡ o → has c (pending_list xs) ≡ false
    on None f = let h : holding xs r ≡ None = rw f refl in cc
    on (Some d) f = at d (has d (pending_list xs)) f refl

number-of : (o : Option ℕ) (d c : ℕ) → o ≡ Some d → is_number o c ≡ true → d ≡ c
number-of None d c e f = cc
number-of (Some k) d c e f = let g : k ≡ d = cc in grind arith

pub pins-tried : (xs : List PoolItem) → Sound xs → (c : ℕ) → 0 < pins xs c → is_tried xs c ≡ true
pins-tried [] s c l = absurd (omega arith)
pins-tried (pinned_by r ∷ xs) s c l = on (is_number (given xs r) c) refl l (pins-tried xs s.1 c)
  where
    h : Holds xs r
    h = s.0

    on : (b : Bool) → is_number (given xs r) c ≡ b → 0 < pins xs c + one_if b → (0 < pins xs c → is_tried xs c ≡ true) → is_tried xs c ≡ true
    on true e l deeper =
        let t : is_tried xs h.connection ≡ true = live-tried xs s.1 h.connection (held-ready xs r h.connection h.holds) h.lives in
        subst (λ k. is_tried xs k ≡ true) (number-of (given xs r) h.connection c (held-given xs r h.connection h.holds) e) t
    on false e l deeper = deeper (omega arith)
pins-tried (replicated d ∷ xs) s c l = on (d == c) refl l (pins-tried xs s.1 c)
  where
    on : (b : Bool) → (d == c) ≡ b → 0 < pins xs c + one_if b → (0 < pins xs c → is_tried xs c ≡ true) → is_tried xs c ≡ true
    on true e l deeper = let w : 0 < pins xs d = s.0 in deeper (subst (λ k. 0 < pins xs k) (same-if d c e) w)
    on false e l deeper = deeper (omega arith)
pins-tried (unpinned d ∷ xs) s c l = pins-tried xs s.1 c (omega arith)
pins-tried (established d how m ∷ xs) s c l = let i : is_tried xs c ≡ true = pins-tried xs s.1 c l in grind arith
pins-tried (failed d service ∷ xs) s c l = let i : is_tried xs c ≡ true = pins-tried xs s.1 c l in grind arith
pins-tried (_ ∷ xs) s c l = pins-tried xs s.1 c l

pub pinned-pins : (xs : List PoolItem) (c : ℕ) → is_pinned xs c ≡ true → nat_lt 0 (pins xs c) ≡ true
pinned-pins xs c e = both-right (is_pinned xs c) (nat_lt 0 (pins xs c)) (pinned-again xs c ∙ e)

pub taken-tried : (xs : List PoolItem) → Sound xs → (r c : ℕ) → is_taken_by xs r c ≡ true → is_tried xs c ≡ true
taken-tried [] s r c e = cc
taken-tried (taken q d ∷ xs) s r c e = on (q == r) (d == c) refl refl (taken-tried xs s.1 r c) e
  where
    w : MayTake xs q d
    w = s.0

    on : (a b : Bool) → (q == r) ≡ a → (d == c) ≡ b → (is_taken_by xs r c ≡ true → is_tried xs c ≡ true) → (a && b) || is_taken_by xs r c ≡ true → is_tried xs c ≡ true
    on a true f g deeper e = subst (λ k. is_tried xs k ≡ true) (same-if d c g) (pins-tried xs s.1 d (above (pins xs d) (pinned-pins xs d w.pinned)))
    on true false f g deeper e = deeper e
    on false false f g deeper e = deeper e
taken-tried (established d how m ∷ xs) s r c e = let i : is_tried xs c ≡ true = taken-tried xs s.1 r c e in grind arith
taken-tried (failed d service ∷ xs) s r c e = let i : is_tried xs c ≡ true = taken-tried xs s.1 r c e in grind arith
taken-tried (_ ∷ xs) s r c e = taken-tried xs s.1 r c e

pub held-number : (xs : List PoolItem) (r c : ℕ) → is_number (holding xs r) c ≡ is_number (given xs r) c && not (has c (pending_list xs))
held-number xs r c = on (given xs r) refl
  where
    at : (d : ℕ) (b : Bool) → has d (pending_list xs) ≡ b → is_number (if b then None else Some d) c ≡ (d == c) && not (has c (pending_list xs))
    at d b e = same (d == c) b refl e
      where
        same : (a b : Bool) → (d == c) ≡ a → has d (pending_list xs) ≡ b → is_number (if b then None else Some d) c ≡ a && not (has c (pending_list xs))
        same true true f g = let k : has c (pending_list xs) ≡ true = subst (λ n. has n (pending_list xs) ≡ true) (same-if d c f) g in rw k refl
        same true false f g = let k : has c (pending_list xs) ≡ false = subst (λ n. has n (pending_list xs) ≡ false) (same-if d c f) g in rw k f
        same false true f g = refl
        same false false f g = f

    on : (o : Option ℕ) → given xs r ≡ o → is_number (holding xs r) c ≡ is_number (given xs r) c && not (has c (pending_list xs))
    on None f = rw f refl
    on (Some d) f = rw f (at d (has d (pending_list xs)) refl)

-- A party holds the connection that it took, or that it was granted and that is not pending, until it returns it or its request ends.
pub holding-means : (xs : List PoolItem) → Sound xs → (r c : ℕ) → is_number (holding xs r) c ≡ (is_taken_by xs r c || (is_granted_to xs r c && (not (is_pending xs c) && not (is_some (end_of xs r))))) && not (was_returned xs r)
holding-means xs s r c =
    held-number xs r c ∙ (rw (given-means xs s r c, pending-alike xs s c) (on (is_taken_by xs r c) (is_granted_to xs r c) (was_returned xs r) (is_some (end_of xs r)) (is_pending xs c) calm steady_end))
  where
    calm : is_taken_by xs r c ≡ true → is_pending xs c ≡ false
    calm e = let t : is_tried xs c ≡ true = taken-tried xs s r c e in grind arith

    steady_end : is_taken_by xs r c ≡ true → is_some (end_of xs r) ≡ false
    steady_end e =
        let i : OnceEach xs r = once xs s r in
        let t : has_taken xs r ≡ true = taken-one xs r c e in
        let w : has_asked xs r && has_taken xs r ≡ false = i.one_way in
        let ea : is_some (end_of xs r) ≡ true → has_asked xs r ≡ true = i.ended_asked in
        grind arith

    on : (t g w e p : Bool) → (t ≡ true → p ≡ false) → (t ≡ true → e ≡ false) → ((t || g) && (not w && not e)) && not p ≡ (t || (g && (not p && not e))) && not w
    on true g w e p a b = let f : p ≡ false = a refl in let k : e ≡ false = b refl in grind arith
    on false g w e p a b = grind arith
