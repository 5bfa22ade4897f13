-- Who holds which connection, by the plain sentences and by the items of its pool.
use Rattle.std.proofs.Common.{ℕ, ◌≡◌, ◌+◌, ◌≤◌, ◌==◌, Bool, true, false, not, ◌&&◌, ◌||◌, List, [], ◌∷◌, length, is_some, refl, sym, ◌∙◌, ap, arith, if◌then◌else◌, filter}
use Rattle.std.proofs.lemmas.Grind.{common_steps}
use Rattle.mdb_log.specs.History.{Item, PoolItem, granted, taken, of_pool, given, has_asked, has_taken, has_party, is_number, without}
use Rattle.mdb_log.specs.Connections.{one_if, has, pending_list, holding, parties, held}
use Rattle.mdb_log.specs.Requests.{end_of}
use Rattle.mdb_log.specs.PlainConnections.{is_pending}
use Rattle.mdb_log.specs.PlainRequests.{is_ended}
use Rattle.mdb_log.specs.PlainHolders.{is_granted_to, is_taken_by, has_returned, holds, parties as given_to, held as held_by}
use Rattle.mdb_sound.specs.Sound.{Sound}
use Rattle.mdb_sound.proofs.Once.{OnceEach, once}
use Rattle.mdb_sound.proofs.Order.{times}
use Rattle.mdb_sound.proofs.Parties.{one-connection, one-party}
use Rattle.mdb_histories.specs.SoundHistory.{SoundHistory}
use Rattle.mdb_histories.proofs.OfPlain.Lists.{times-filter-is, times-without, same-length}
use Rattle.mdb_histories.proofs.OfPlain.Given.{was_returned, granted-one, taken-one}
use Rattle.mdb_histories.proofs.OfPlain.Holding.{holding-means, held-number}
use Rattle.mdb_histories.proofs.OfPlain.Parties.{sound-pool}
use Rattle.mdb_histories.proofs.OfPlain.Alike.{ended-alike, returned-alike}

-- A party holds a connection by the plain sentence exactly where its pool's items say so.
pub holds-alike : (h : List Item) → SoundHistory h → (p r c : ℕ) → holds p h r c ≡ is_number (holding (of_pool p h) r) c
holds-alike h s p r c = on (has_party xs r) refl ∙ sym (holding-means xs sound r c)
  where
    xs : List PoolItem
    xs = of_pool p h

    sound : Sound xs
    sound = sound-pool h s p

    granted-asks : is_granted_to xs r c ≡ true → has_asked xs r ≡ true
    granted-asks e = let i : OnceEach xs r = once xs sound r in i.granted_asked (granted-one xs r c e)

    by-grant : (g : Bool) → is_granted_to xs r c ≡ g → g && (not (is_pending xs c) && not (is_ended h r)) ≡ g && (not (is_pending xs c) && not (is_some (end_of xs r)))
    by-grant true e = rw (ended-alike h s p r (granted-asks e)) refl
    by-grant false e = refl

    outside : has_party xs r ≡ false → (is_granted_to xs r c ≡ false) × (is_taken_by xs r c ≡ false)
    outside n =
        let ga : is_granted_to xs r c ≡ true → has_asked xs r ≡ true = granted-asks in
        let ta : is_taken_by xs r c ≡ true → has_taken xs r ≡ true = taken-one xs r c in
        (grind arith, grind arith)

    on : (b : Bool) → has_party xs r ≡ b → holds p h r c ≡ (is_taken_by xs r c || (is_granted_to xs r c && (not (is_pending xs c) && not (is_some (end_of xs r))))) && not (was_returned xs r)
    on true e = rw (by-grant (is_granted_to xs r c) refl, returned-alike h s p r e) refl
    on false e = let n : (is_granted_to xs r c ≡ false) × (is_taken_by xs r c ≡ false) = outside e in rw (n.0, n.1) refl

-- the parties to which a connection was given, each once
times-given : (xs : List PoolItem) (c k : ℕ) → times k (given_to xs c) ≡ one_if (is_granted_to xs k c || is_taken_by xs k c)
times-given [] c k = refl
times-given (granted r d ∷ xs) c k = more (times-given xs c k) (d == c)
  where
    more : times k (given_to xs c) ≡ one_if (is_granted_to xs k c || is_taken_by xs k c) → (b : Bool) → times k (if b then (r ∷ without r (given_to xs c)) else given_to xs c) ≡ one_if ((((r == k) && b) || is_granted_to xs k c) || is_taken_by xs k c)
    more i true = once-more (r == k) (is_granted_to xs k c) (is_taken_by xs k c) (times k (given_to xs c)) (times k (without r (given_to xs c))) i (times-without r k (given_to xs c))
      where
        once-more : (a g t : Bool) (n w : ℕ) → n ≡ one_if (g || t) → w ≡ (if a then 0 else n) → w + one_if a ≡ one_if (((a && true) || g) || t)
        once-more true g t n w e f = grind (arith, common_steps)
        once-more false g t n w e f = grind (arith, common_steps)
    more i false = none (r == k) (is_granted_to xs k c) (is_taken_by xs k c) (times k (given_to xs c)) i
      where
        none : (a g t : Bool) (n : ℕ) → n ≡ one_if (g || t) → n ≡ one_if (((a && false) || g) || t)
        none true g t n e = e
        none false g t n e = e
times-given (taken r d ∷ xs) c k = more (times-given xs c k) (d == c)
  where
    more : times k (given_to xs c) ≡ one_if (is_granted_to xs k c || is_taken_by xs k c) → (b : Bool) → times k (if b then (r ∷ without r (given_to xs c)) else given_to xs c) ≡ one_if (is_granted_to xs k c || (((r == k) && b) || is_taken_by xs k c))
    more i true = once-more (r == k) (is_granted_to xs k c) (is_taken_by xs k c) (times k (given_to xs c)) (times k (without r (given_to xs c))) i (times-without r k (given_to xs c))
      where
        once-more : (a g t : Bool) (n w : ℕ) → n ≡ one_if (g || t) → w ≡ (if a then 0 else n) → w + one_if a ≡ one_if (g || ((a && true) || t))
        once-more true true t n w e f = grind (arith, common_steps)
        once-more true false t n w e f = grind (arith, common_steps)
        once-more false g t n w e f = grind (arith, common_steps)
    more i false = none (r == k) (is_granted_to xs k c) (is_taken_by xs k c) (times k (given_to xs c)) i
      where
        none : (a g t : Bool) (n : ℕ) → n ≡ one_if (g || t) → n ≡ one_if (g || ((a && false) || t))
        none true g t n e = e
        none false g t n e = e
times-given (_ ∷ xs) c k = times-given xs c k

one-holder : (h : List Item) → SoundHistory h → (p c k : ℕ) → times k (filter (λ r. holds p h r c) (given_to (of_pool p h) c)) ≡ one_if (holds p h k c)
one-holder h s p c k = times-filter-is (λ r. holds p h r c) k (given_to xs c) ∙ (rw (times-given xs c k) (on (is_taken_by xs k c) (is_granted_to xs k c) (not (is_pending xs c) && not (is_ended h k)) (not (has_returned h k))))
  where
    xs : List PoolItem
    xs = of_pool p h

    on : (t g e r : Bool) → (if (t || (g && e)) && r then one_if (g || t) else 0) ≡ one_if ((t || (g && e)) && r)
    on true true e true = refl
    on true false e true = refl
    on true g e false = refl
    on false true true true = refl
    on false true true false = refl
    on false true false r = refl
    on false false e r = refl

-- in a list of one at most, how often a number stands tells whether it is there
few-times : (k : ℕ) (ks : List ℕ) → length ks ≤ 1 → times k ks ≡ one_if (has k ks)
few-times k [] l = refl
few-times k (j ∷ []) l = on (j == k)
  where
    on : (b : Bool) → 0 + one_if b ≡ one_if (b || false)
    on true = refl
    on false = refl
few-times k (j ∷ i ∷ ks) l = absurd (grind (arith, common_steps))

-- A connection is held by as many parties.
pub held-alike : (h : List Item) → SoundHistory h → (p c : ℕ) → held_by p h c ≡ held (of_pool p h) c
held-alike h s p c = on (has c (pending_list xs)) refl
  where
    xs : List PoolItem
    xs = of_pool p h

    sound : Sound xs
    sound = sound-pool h s p

    holders : List ℕ
    holders = filter (λ r. holds p h r c) (given_to xs c)

    few : (b : Bool) → one_if b ≤ 1
    few true = omega arith
    few false = omega arith

    once-each : (k : ℕ) → times k holders ≤ 1
    once-each k = rw (one-holder h s p c k) (few (holds p h k c))

    number : (k : ℕ) → holds p h k c ≡ is_number (given xs k) c && not (has c (pending_list xs))
    number k = holds-alike h s p k c ∙ held-number xs k c

    off : (b : Bool) → b && false ≡ false
    off true = refl
    off false = refl

    all : (b : Bool) → b && true ≡ b
    all true = refl
    all false = refl

    nobody : has c (pending_list xs) ≡ true → (k : ℕ) → times k holders ≡ 0
    nobody e k = let z : holds p h k c ≡ false = number k ∙ rw e (off (is_number (given xs k) c)) in one-holder h s p c k ∙ ap one_if z

    same : has c (pending_list xs) ≡ false → (k : ℕ) → times k holders ≡ times k (parties xs c)
    same e k =
        let z : holds p h k c ≡ is_number (given xs k) c = number k ∙ rw e (all (is_number (given xs k) c)) in
        one-holder h s p c k ∙ (ap one_if (z ∙ sym (one-connection xs sound k c)) ∙ sym (few-times k (parties xs c) (one-party xs sound c)))

    on : (b : Bool) → has c (pending_list xs) ≡ b → length holders ≡ if b then 0 else length (parties xs c)
    on true e = same-length holders [] (nobody e) once-each
    on false e = same-length holders (parties xs c) (same e) once-each
