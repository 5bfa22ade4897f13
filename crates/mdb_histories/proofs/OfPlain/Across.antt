-- Ends, grants and returns of the whole history are those of the party's pool.
use Rattle.std.proofs.Common.{ℕ, ◌≡◌, ◌==◌, Bool, true, false, ◌||◌, List, [], ◌∷◌, is_some, refl, ◌∙◌, subst, arith}
use Rattle.mdb_events.specs.declared.fact.Fact.TheVariants.{Granted, Ended}
use Rattle.mdb_log.specs.declared.step.Act.{Act}
use Rattle.mdb_log.specs.declared.step.Act.TheVariants.{Return}
use Rattle.mdb_log.specs.History.{Item, did, made, granted, of_pool, open_pool, given, has_asked, has_taken, has_party, if_so}
use Rattle.mdb_log.specs.PlainRequests.{is_granted, is_ended}
use Rattle.mdb_log.specs.PlainHolders.{returns, has_returned}
use Rattle.mdb_log.proofs.Frame.{asked-fact, party-fact, asked-party}
use Rattle.mdb_log.proofs.Numbers.{same-number}
use Rattle.mdb_log.proofs.Pins.{queued-asked}
use Rattle.mdb_sound.specs.Sound.{Sound, MayGrant}
use Rattle.mdb_sound.specs.Counts.{was_granted}
use Rattle.mdb_sound.proofs.Once.{OnceEach, once, next-queued}
use Rattle.mdb_histories.specs.SoundHistory.{SoundHistory, MayCome, StepNames, IsRequest, HasOne, is_party}
use Rattle.mdb_histories.proofs.OfPlain.Lists.{same-if}
use Rattle.mdb_histories.proofs.OfPlain.Frames.{asks, asked-act}
use Rattle.mdb_histories.proofs.OfPlain.Parties.{party-known, sound-pool, party-act, joins}

-- who asked has asked after one more item
pub still-asked : (h : List Item) (x : Item) (r : ℕ) → IsRequest h r → IsRequest (x ∷ h) r
still-asked h (did step reply) r i = record { pool = i.pool; asked = asked-act i.pool (open_pool h) step.moment (of_pool i.pool h) r step.act ∙ on (asks i.pool (open_pool h) step.act r) i.asked }
  where
    on : (a : Bool) {b : Bool} → b ≡ true → a || b ≡ true
    on true e = refl
    on false e = e
still-asked h (made m fact) r i = record { pool = i.pool; asked = asked-fact i.pool m r fact (of_pool i.pool h) ∙ i.asked }

-- the party is one of some pool
pub record IsMember (h : List Item) (r : ℕ) : Type 0 where
  pub pool : ℕ
  pub member : has_party (of_pool pool h) r ≡ true

still-member : (h : List Item) (x : Item) (r : ℕ) → IsMember h r → IsMember (x ∷ h) r
still-member h (did step reply) r i = record { pool = i.pool; member = party-act i.pool (open_pool h) step.moment (of_pool i.pool h) r step.act ∙ on (joins i.pool (open_pool h) step.act r) i.member }
  where
    on : (a : Bool) {b : Bool} → b ≡ true → a || b ≡ true
    on true e = refl
    on false e = e
still-member h (made m fact) r i = record { pool = i.pool; member = party-fact i.pool m r fact (of_pool i.pool h) ∙ i.member }

pub member-known : (h : List Item) (r : ℕ) → IsMember h r → is_party h r ≡ true
member-known h r i = party-known h i.pool r i.member

-- a grant is of a request of the pool, next in its line
pub may-grant : (h : List Item) (m r p c : ℕ) → SoundHistory (made m (Granted r p c) ∷ h) → MayGrant (of_pool p h) r c
may-grant h m r p c s = on (p == p) (same-number p) (sound-pool (made m (Granted r p c) ∷ h) s p)
  where
    on : (b : Bool) → b ≡ true → Sound (if_so b (granted r c) (of_pool p h)) → MayGrant (of_pool p h) r c
    on true e t = t.0
    on false e t = cc

pub grant-asked : (h : List Item) (m r p c : ℕ) → SoundHistory (made m (Granted r p c) ∷ h) → has_asked (of_pool p h) r ≡ true
grant-asked h m r p c s = let w : MayGrant (of_pool p h) r c = may-grant h m r p c s in queued-asked (of_pool p h) r (next-queued (of_pool p h) r w.next)

-- who ended asked
pub ended-asked : (h : List Item) → SoundHistory h → (r : ℕ) → is_ended h r ≡ true → IsRequest h r
ended-asked [] s r e = cc
ended-asked (did step reply ∷ h) s r e = still-asked h (did step reply) r (ended-asked h s.1 r e)
ended-asked (made m (Ended q end) ∷ h) s r e = on (q == r) refl e (ended-asked h s.1 r)
  where
    c : MayCome h (made m (Ended q end))
    c = s.0

    on : (b : Bool) → (q == r) ≡ b → b || is_ended h r ≡ true → (is_ended h r ≡ true → IsRequest h r) → IsRequest (made m (Ended q end) ∷ h) r
    on true f e deeper = still-asked h (made m (Ended q end)) r (subst (λ k. IsRequest h k) (same-if q r f) c.names)
    on false f e deeper = still-asked h (made m (Ended q end)) r (deeper e)
ended-asked (made m f ∷ h) s r e = still-asked h (made m f) r (ended-asked h s.1 r e)

-- who was granted a connection asked
pub granted-asked : (h : List Item) → SoundHistory h → (r : ℕ) → is_granted h r ≡ true → IsRequest h r
granted-asked [] s r e = cc
granted-asked (did step reply ∷ h) s r e = still-asked h (did step reply) r (granted-asked h s.1 r e)
granted-asked (made m (Granted q p c) ∷ h) s r e = on (q == r) refl e (granted-asked h s.1 r)
  where
    on : (b : Bool) → (q == r) ≡ b → b || is_granted h r ≡ true → (is_granted h r ≡ true → IsRequest h r) → IsRequest (made m (Granted q p c) ∷ h) r
    on true f e deeper = still-asked h (made m (Granted q p c)) r (record { pool = p; asked = subst (λ k. has_asked (of_pool p h) k ≡ true) (same-if q r f) (grant-asked h m q p c s) })
    on false f e deeper = still-asked h (made m (Granted q p c)) r (deeper e)
granted-asked (made m f ∷ h) s r e = still-asked h (made m f) r (granted-asked h s.1 r e)

-- who has a connection is a party of that pool
pub party-of : (h : List Item) → SoundHistory h → (p r : ℕ) → is_some (given (of_pool p h) r) ≡ true → has_party (of_pool p h) r ≡ true
party-of h s p r e =
    let i : OnceEach (of_pool p h) r = once (of_pool p h) (sound-pool h s p) r in
    let had : was_granted (of_pool p h) r || has_taken (of_pool p h) r ≡ true = i.had e in
    let ga : was_granted (of_pool p h) r ≡ true → has_asked (of_pool p h) r ≡ true = i.granted_asked in
    grind arith

one-member : (h : List Item) → SoundHistory h → (r : ℕ) → HasOne h r → IsMember h r
one-member h s r w = record { pool = w.pool; member = party-of h s w.pool r w.has }

-- a party that returns has a connection
pub returns-one : (h : List Item) (a : Act) (r : ℕ) → StepNames h a → returns a r ≡ true → HasOne h r
returns-one h (Return k used) r n e = subst (λ i. HasOne h i) (same-if k r e) n
returns-one h _ r n e = cc

-- who returned was a party
pub returned-member : (h : List Item) → SoundHistory h → (r : ℕ) → has_returned h r ≡ true → IsMember h r
returned-member [] s r e = cc
returned-member (made m f ∷ h) s r e = still-member h (made m f) r (returned-member h s.1 r e)
returned-member (did step reply ∷ h) s r e = on (returns step.act r) refl e (returned-member h s.1 r)
  where
    c : MayCome h (did step reply)
    c = s.0

    on : (b : Bool) → returns step.act r ≡ b → b || has_returned h r ≡ true → (has_returned h r ≡ true → IsMember h r) → IsMember (did step reply ∷ h) r
    on true f e deeper = still-member h (did step reply) r (one-member h s.1 r (returns-one h step.act r c.names f))
    on false f e deeper = still-member h (did step reply) r (deeper e)

-- a new party neither ended, nor was granted a connection, nor returned one
pub record IsNew (h : List Item) (r : ℕ) : Type 0 where
  pub unended : is_ended h r ≡ false
  pub ungranted : is_granted h r ≡ false
  pub unreturned : has_returned h r ≡ false

refute : (b c : Bool) → (b ≡ true → c ≡ true) → c ≡ false → b ≡ false
refute true c f e = let g : c ≡ true = f refl in cc
refute false c f e = refl

request-known : (h : List Item) (r : ℕ) → IsRequest h r → is_party h r ≡ true
request-known h r i = member-known h r (record { pool = i.pool; member = asked-party (of_pool i.pool h) r i.asked })

pub new-party : (h : List Item) → SoundHistory h → (r : ℕ) → is_party h r ≡ false → IsNew h r
new-party h s r n = record {
  unended = refute (is_ended h r) (is_party h r) (λ e. request-known h r (ended-asked h s r e)) n;
  ungranted = refute (is_granted h r) (is_party h r) (λ e. request-known h r (granted-asked h s r e)) n;
  unreturned = refute (has_returned h r) (is_party h r) (λ e. member-known h r (returned-member h s r e)) n;
}
