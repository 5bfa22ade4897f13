-- The laws of each request, and of who has which connection.
use Rattle.std.proofs.Common.{ℕ, ◌≡◌, ◌≤◌, ◌==◌, Bool, true, false, not, ◌&&◌, ◌||◌, List, [], ◌∷◌, length, Option, Some, None, is_some, refl, sym, ◌∙◌, ap, subst, arith, if◌then◌else◌}
use Rattle.std.proofs.lemmas.Grind.{common_steps}
use Rattle.mdb_log.specs.History.{PoolItem, asked, warmed, gave_up, returned, pinned_by, established, failed, replicated, taken, unpinned, created, closed, checked_in, granted, ended, raised, pool_created, pool_ready, pool_closed, given, has_asked, has_taken, without, is_number}
use Rattle.mdb_log.specs.Connections.{one_if, has, parties}
use Rattle.mdb_log.specs.Requests.{queued, end_of}
use Rattle.mdb_log.proofs.Numbers.{has-without-is}
use Rattle.mdb_pool_rules.proofs.Listed.Values.{length-without}
use Rattle.mdb_sound.specs.Sound.{Sound, MayTake, MayGrant}
use Rattle.mdb_sound.specs.Counts.{askings, grantings, endings, was_granted}
use Rattle.mdb_sound.specs.Once.{Once}
use Rattle.mdb_sound.specs.Laws.{RequestLaws, PartyLaws}
use Rattle.mdb_sound.proofs.Once.{OnceEach, once, next-queued}

pub request-laws : (xs : List PoolItem) → Sound xs → (r : ℕ) → RequestLaws xs r
request-laws xs s r =
    let i : OnceEach xs r = once xs s r in
    let one : askings xs r ≡ one_if (has_asked xs r) = i.asked_once in
    let two : grantings xs r ≡ one_if (was_granted xs r) = i.granted_once in
    let three : endings xs r ≡ one_if (is_some (end_of xs r)) = i.ended_once in
    let ga : was_granted xs r ≡ true → has_asked xs r ≡ true = i.granted_asked in
    let ea : is_some (end_of xs r) ≡ true → has_asked xs r ≡ true = i.ended_asked in
    record { asked_once = grind (arith, common_steps); granted_once = grind (arith, common_steps); ended_once = grind (arith, common_steps); queued_till_then = i.queued_means }

-- a party that may be given a connection has none
free : (a t g e q h : Bool) (ka kg ke : ℕ) → Once a t g e q h ka kg ke → (q ≡ true) → h ≡ false
free a t g e q h ka kg ke i w =
    let q_is : q ≡ a && (not g && not e) = i.queued_means in
    let way : a && t ≡ false = i.one_way in
    let had : h ≡ true → g || t ≡ true = i.had in
    grind arith

new : (a t g e q h : Bool) (ka kg ke : ℕ) → Once a t g e q h ka kg ke → (a || t ≡ false) → h ≡ false
new a t g e q h ka kg ke i w =
    let ga : g ≡ true → a ≡ true = i.granted_asked in
    let had : h ≡ true → g || t ≡ true = i.had in
    grind arith

none-given : (o : Option ℕ) (c : ℕ) → is_some o ≡ false → is_number o c ≡ false
none-given None c e = refl
none-given (Some d) c e = cc

number-if : (b : Bool) (d c : ℕ) (o : Option ℕ) → is_number (if b then Some d else o) c ≡ (if b then (d == c) else is_number o c)
number-if true d c o = refl
number-if false d c o = refl

number-none : (b : Bool) (c : ℕ) (o : Option ℕ) → is_number (if b then None else o) c ≡ is_number o c && not b
number-none true c None = refl
number-none true c (Some d) = grind arith
number-none false c None = refl
number-none false c (Some d) = grind arith

-- one party more
gets : (q r d c : ℕ) (ps : List ℕ) (o : Option ℕ) → has r ps ≡ is_number o c → (q ≡ r → is_number o c ≡ false) → has r (if d == c then (q ∷ ps) else ps) ≡ is_number (if q == r then Some d else o) c
gets q r d c ps o same none = on (q == r) (d == c) refl refl
  where
    on : (a b : Bool) → (q == r) ≡ a → (d == c) ≡ b → has r (if d == c then (q ∷ ps) else ps) ≡ is_number (if q == r then Some d else o) c
    on true true e f = rw f (rw e (rw f refl))
    on true false e f = let k : is_number o c ≡ false = none (grind arith) in rw f (rw e (rw f (same ∙ k)))
    on false true e f = rw f (rw e same)
    on false false e f = rw f (rw e same)

pub one-connection : (xs : List PoolItem) → Sound xs → (r c : ℕ) → has r (parties xs c) ≡ is_number (given xs r) c
one-connection [] s r c = refl
one-connection (asked q m ∷ xs) s r c = one-connection xs s.1 r c
one-connection (warmed q m ∷ xs) s r c = one-connection xs s.1 r c
one-connection (gave_up q ∷ xs) s r c = one-connection xs s.1 r c
one-connection (pinned_by q ∷ xs) s r c = one-connection xs s.1 r c
one-connection (established d how m ∷ xs) s r c = one-connection xs s.1 r c
one-connection (failed d service ∷ xs) s r c = one-connection xs s.1 r c
one-connection (replicated d ∷ xs) s r c = one-connection xs s.1 r c
one-connection (unpinned d ∷ xs) s r c = one-connection xs s.1 r c
one-connection (created d m ∷ xs) s r c = one-connection xs s.1 r c
one-connection (closed d ∷ xs) s r c = one-connection xs s.1 r c
one-connection (checked_in d m ∷ xs) s r c = one-connection xs s.1 r c
one-connection (raised service error ∷ xs) s r c = one-connection xs s.1 r c
one-connection (pool_created ∷ xs) s r c = one-connection xs s.1 r c
one-connection (pool_ready ∷ xs) s r c = one-connection xs s.1 r c
one-connection (pool_closed ∷ xs) s r c = one-connection xs s.1 r c
one-connection (taken q d ∷ xs) s r c =
    let w : MayTake xs q d = s.0 in
    let n : is_some (given xs q) ≡ false = new (has_asked xs q) (has_taken xs q) (was_granted xs q) (is_some (end_of xs q)) (has q (queued xs)) (is_some (given xs q)) (askings xs q) (grantings xs q) (endings xs q) (once xs s.1 q) w.fresh in
    gets q r d c (parties xs c) (given xs r) (one-connection xs s.1 r c) (λ e. subst (λ k. is_number (given xs k) c ≡ false) e (none-given (given xs q) c n))
one-connection (granted q d ∷ xs) s r c =
    let w : MayGrant xs q d = s.0 in
    let n : is_some (given xs q) ≡ false = free (has_asked xs q) (has_taken xs q) (was_granted xs q) (is_some (end_of xs q)) (has q (queued xs)) (is_some (given xs q)) (askings xs q) (grantings xs q) (endings xs q) (once xs s.1 q) (next-queued xs q w.next) in
    gets q r d c (parties xs c) (given xs r) (one-connection xs s.1 r c) (λ e. subst (λ k. is_number (given xs k) c ≡ false) e (none-given (given xs q) c n))
one-connection (returned q used ∷ xs) s r c = has-without-is r q (parties xs c) ∙ (ap (λ b. b && not (q == r)) (one-connection xs s.1 r c) ∙ sym (number-none (q == r) c (given xs r)))
one-connection (ended q end ∷ xs) s r c = has-without-is r q (parties xs c) ∙ (ap (λ b. b && not (q == r)) (one-connection xs s.1 r c) ∙ sym (number-none (q == r) c (given xs r)))

joins : (q d c : ℕ) (ps : List ℕ) → (d ≡ c → ps ≡ []) → length ps ≤ 1 → length (if d == c then (q ∷ ps) else ps) ≤ 1
joins q d c ps none l = on (d == c) refl
  where
    on : (b : Bool) → (d == c) ≡ b → length (if d == c then (q ∷ ps) else ps) ≤ 1
    on true e = let k : ps ≡ [] = none (grind arith) in rw (e, k) (omega arith)
    on false e = rw e l

fewer : (q : ℕ) (ps : List ℕ) → length ps ≤ 1 → length (without q ps) ≤ 1
fewer q ps l = let k : length (without q ps) ≤ length ps = length-without q ps in omega arith

pub one-party : (xs : List PoolItem) → Sound xs → (c : ℕ) → length (parties xs c) ≤ 1
one-party [] s c = omega arith
one-party (asked q m ∷ xs) s c = one-party xs s.1 c
one-party (warmed q m ∷ xs) s c = one-party xs s.1 c
one-party (gave_up q ∷ xs) s c = one-party xs s.1 c
one-party (pinned_by q ∷ xs) s c = one-party xs s.1 c
one-party (established d how m ∷ xs) s c = one-party xs s.1 c
one-party (failed d service ∷ xs) s c = one-party xs s.1 c
one-party (replicated d ∷ xs) s c = one-party xs s.1 c
one-party (unpinned d ∷ xs) s c = one-party xs s.1 c
one-party (created d m ∷ xs) s c = one-party xs s.1 c
one-party (closed d ∷ xs) s c = one-party xs s.1 c
one-party (checked_in d m ∷ xs) s c = one-party xs s.1 c
one-party (raised service error ∷ xs) s c = one-party xs s.1 c
one-party (pool_created ∷ xs) s c = one-party xs s.1 c
one-party (pool_ready ∷ xs) s c = one-party xs s.1 c
one-party (pool_closed ∷ xs) s c = one-party xs s.1 c
one-party (taken q d ∷ xs) s c = let w : MayTake xs q d = s.0 in joins q d c (parties xs c) (λ e. subst (λ k. parties xs k ≡ []) e w.free) (one-party xs s.1 c)
one-party (granted q d ∷ xs) s c = let w : MayGrant xs q d = s.0 in joins q d c (parties xs c) (λ e. subst (λ k. parties xs k ≡ []) e w.free) (one-party xs s.1 c)
one-party (returned q used ∷ xs) s c = fewer q (parties xs c) (one-party xs s.1 c)
one-party (ended q end ∷ xs) s c = fewer q (parties xs c) (one-party xs s.1 c)

pub party-laws : (xs : List PoolItem) → Sound xs → (r c : ℕ) → PartyLaws xs r c
party-laws xs s r c = record { one_connection = one-connection xs s r c; one_party = one-party xs s c }
