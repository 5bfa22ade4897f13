-- Which connection a party of a pool has, read off all items of a sound history at once.
use Rattle.std.proofs.Common.{ℕ, ◌≡◌, ◌==◌, Bool, true, false, not, ◌&&◌, ◌||◌, List, [], ◌∷◌, Option, Some, None, is_some, refl, ap, subst, arith, if◌then◌else◌}
use Rattle.mdb_events.specs.declared.end.End.{End}
use Rattle.mdb_log.specs.History.{PoolItem, returned, taken, granted, ended, is_number, given, has_asked, has_taken, has_party}
use Rattle.mdb_log.specs.Connections.{has}
use Rattle.mdb_log.specs.Requests.{queued, end_of}
use Rattle.mdb_log.specs.PlainHolders.{is_granted_to, is_taken_by}
use Rattle.mdb_sound.specs.Sound.{Sound, Holds, MayTake, MayGrant}
use Rattle.mdb_sound.specs.Counts.{was_granted}
use Rattle.mdb_sound.proofs.Steady.{held-given}
use Rattle.mdb_sound.proofs.Once.{OnceEach, once, next-queued}
use Rattle.mdb_histories.proofs.OfPlain.Lists.{same-if}

-- the party returned what it had
abbrev pub was_returned : List PoolItem → ℕ → Bool
was_returned [] r = false
was_returned (returned q used ∷ xs) r = (q == r) || was_returned xs r
was_returned (_ ∷ xs) r = was_returned xs r

pub granted-one : (xs : List PoolItem) (r c : ℕ) → is_granted_to xs r c ≡ true → was_granted xs r ≡ true
granted-one [] r c e = cc
granted-one (granted q d ∷ xs) r c e = on (q == r) (granted-one xs r c) e
  where
    on : (b : Bool) → (is_granted_to xs r c ≡ true → was_granted xs r ≡ true) → (b && (d == c)) || is_granted_to xs r c ≡ true → b || was_granted xs r ≡ true
    on true deeper f = refl
    on false deeper f = deeper f
granted-one (_ ∷ xs) r c e = granted-one xs r c e

pub taken-one : (xs : List PoolItem) (r c : ℕ) → is_taken_by xs r c ≡ true → has_taken xs r ≡ true
taken-one [] r c e = cc
taken-one (taken q d ∷ xs) r c e = on (q == r) (taken-one xs r c) e
  where
    on : (b : Bool) → (is_taken_by xs r c ≡ true → has_taken xs r ≡ true) → (b && (d == c)) || is_taken_by xs r c ≡ true → b || has_taken xs r ≡ true
    on true deeper f = refl
    on false deeper f = deeper f
taken-one (_ ∷ xs) r c e = taken-one xs r c e

holder-given : (xs : List PoolItem) (r : ℕ) → Holds xs r → is_some (given xs r) ≡ true
holder-given xs r h = ap is_some (held-given xs r h.connection h.holds)

-- who returned a connection was given one
pub returned-had : (xs : List PoolItem) → Sound xs → (r : ℕ) → was_returned xs r ≡ true → was_granted xs r || has_taken xs r ≡ true
returned-had [] s r e = cc
returned-had (returned q used ∷ xs) s r e = on (q == r) refl (returned-had xs s.1 r) e
  where
    on : (b : Bool) → (q == r) ≡ b → (was_returned xs r ≡ true → was_granted xs r || has_taken xs r ≡ true) → b || was_returned xs r ≡ true → was_granted xs r || has_taken xs r ≡ true
    on true f deeper e = let i : OnceEach xs r = once xs s.1 r in i.had (subst (λ k. is_some (given xs k) ≡ true) (same-if q r f) (holder-given xs q s.0))
    on false f deeper e = deeper e
returned-had (granted q d ∷ xs) s r e = on (q == r) (has_taken xs r) (was_granted xs r) (returned-had xs s.1 r e)
  where
    on : (a t g : Bool) → g || t ≡ true → (a || g) || t ≡ true
    on true t g f = refl
    on false t g f = f
returned-had (taken q d ∷ xs) s r e = on (q == r) (has_taken xs r) (was_granted xs r) (returned-had xs s.1 r e)
  where
    on : (a t g : Bool) → g || t ≡ true → g || (a || t) ≡ true
    on a t true f = refl
    on true t false f = refl
    on false t false f = f
returned-had (_ ∷ xs) s r e = returned-had xs s.1 r e

-- who was given no connection yet was neither granted nor took one, and returned none
pub record Without (xs : List PoolItem) (r c : ℕ) : Type 0 where
  pub ungranted : is_granted_to xs r c ≡ false
  pub untaken : is_taken_by xs r c ≡ false
  pub unreturned : was_returned xs r ≡ false
  pub unended : is_some (end_of xs r) ≡ false

false-unless : (a b : Bool) → (a ≡ true → b ≡ true) → b ≡ false → a ≡ false
false-unless true b f e = let g : b ≡ true = f refl in cc
false-unless false b f e = refl

pub without-any : (xs : List PoolItem) → Sound xs → (r c : ℕ) → was_granted xs r ≡ false → has_taken xs r ≡ false → is_some (end_of xs r) ≡ false → Without xs r c
without-any xs s r c g t e = record {
  ungranted = false-unless (is_granted_to xs r c) (was_granted xs r) (granted-one xs r c) g;
  untaken = false-unless (is_taken_by xs r c) (has_taken xs r) (taken-one xs r c) t;
  unreturned = false-unless (was_returned xs r) (was_granted xs r || has_taken xs r) (returned-had xs s r) (rw (g, t) refl);
  unended = e;
}

pub newly : (xs : List PoolItem) → Sound xs → (r c : ℕ) → has_party xs r ≡ false → Without xs r c
newly xs s r c n =
    let i : OnceEach xs r = once xs s r in
    let ga : was_granted xs r ≡ true → has_asked xs r ≡ true = i.granted_asked in
    let ea : is_some (end_of xs r) ≡ true → has_asked xs r ≡ true = i.ended_asked in
    without-any xs s r c (grind arith) (grind arith) (grind arith)

pub queued-without : (xs : List PoolItem) → Sound xs → (r c : ℕ) → has r (queued xs) ≡ true → Without xs r c
queued-without xs s r c q =
    let i : OnceEach xs r = once xs s r in
    let m : has r (queued xs) ≡ has_asked xs r && (not (was_granted xs r) && not (is_some (end_of xs r))) = i.queued_means in
    let w : has_asked xs r && has_taken xs r ≡ false = i.one_way in
    without-any xs s r c (grind arith) (grind arith) (grind arith)

-- A party has the connection that it was granted or took, until it returns it or its request ends.
pub given-means : (xs : List PoolItem) → Sound xs → (r c : ℕ) → is_number (given xs r) c ≡ (is_taken_by xs r c || is_granted_to xs r c) && (not (was_returned xs r) && not (is_some (end_of xs r)))
given-means [] s r c = refl
given-means (granted q d ∷ xs) s r c = on (q == r) refl (given-means xs s.1 r c)
  where
    on : (b : Bool) → (q == r) ≡ b → is_number (given xs r) c ≡ (is_taken_by xs r c || is_granted_to xs r c) && (not (was_returned xs r) && not (is_some (end_of xs r))) → is_number (if b then Some d else given xs r) c ≡ (is_taken_by xs r c || ((b && (d == c)) || is_granted_to xs r c)) && (not (was_returned xs r) && not (is_some (end_of xs r)))
    on true e i =
        let m : MayGrant xs q d = s.0 in
        let w : Without xs r c = queued-without xs s.1 r c (subst (λ k. has k (queued xs) ≡ true) (same-if q r e) (next-queued xs q m.next)) in
        rw (w.ungranted, w.untaken, w.unreturned, w.unended) (alone (d == c))
      where
        alone : (b : Bool) → b ≡ (b || false) && true
        alone true = refl
        alone false = refl
    on false e i = i
given-means (taken q d ∷ xs) s r c = on (q == r) refl (given-means xs s.1 r c)
  where
    on : (b : Bool) → (q == r) ≡ b → is_number (given xs r) c ≡ (is_taken_by xs r c || is_granted_to xs r c) && (not (was_returned xs r) && not (is_some (end_of xs r))) → is_number (if b then Some d else given xs r) c ≡ (((b && (d == c)) || is_taken_by xs r c) || is_granted_to xs r c) && (not (was_returned xs r) && not (is_some (end_of xs r)))
    on true e i =
        let m : MayTake xs q d = s.0 in
        let w : Without xs r c = newly xs s.1 r c (subst (λ k. has_party xs k ≡ false) (same-if q r e) m.fresh) in
        rw (w.ungranted, w.untaken, w.unreturned, w.unended) (alone (d == c))
      where
        alone : (b : Bool) → b ≡ ((b || false) || false) && true
        alone true = refl
        alone false = refl
    on false e i = i
given-means (returned q used ∷ xs) s r c = on (q == r) (is_taken_by xs r c || is_granted_to xs r c) (was_returned xs r) (not (is_some (end_of xs r))) (given xs r) (given-means xs s.1 r c)
  where
    on : (b x w e : Bool) (o : Option ℕ) → is_number o c ≡ x && (not w && e) → is_number (if b then None else o) c ≡ x && (not (b || w) && e)
    on true true w e o i = refl
    on true false w e o i = refl
    on false x w e o i = i
given-means (ended q end ∷ xs) s r c = on (q == r) (is_taken_by xs r c || is_granted_to xs r c) (not (was_returned xs r)) (end_of xs r) (given xs r) (given-means xs s.1 r c)
  where
    on : (b x w : Bool) (e : Option End) (o : Option ℕ) → is_number o c ≡ x && (w && not (is_some e)) → is_number (if b then None else o) c ≡ x && (w && not (is_some (if b then Some end else e)))
    on true true true e o i = refl
    on true true false e o i = refl
    on true false w e o i = refl
    on false x w e o i = i
given-means (_ ∷ xs) s r c = given-means xs s.1 r c
