-- An accepted step names those that are there, or new ones, and leaves each pool sound.
use Rattle.std.proofs.Common.{ℕ, ◌≡◌, ◌==◌, ◌||◌, Bool, true, false, List, [], ◌∷◌, Option, Some, None, is_some, refl, sym, ◌∙◌, ap, subst}
use Rattle.std.specs.Prelude.{find}
use Rattle.mdb_base.specs.declared.address.ServerAddress.{ServerAddress}
use Rattle.mdb_log.specs.declared.step.Act.{Act}
use Rattle.mdb_log.specs.declared.step.Act.TheVariants as Do
use Rattle.mdb_log.specs.declared.step.FailedAt.TheVariants.{Pre, Post}
use Rattle.mdb_log.specs.declared.reply.Reply.{Reply}
use Rattle.mdb_log.specs.History.{Item, did, made, PoolItem, if_so, is_number, of_pool, open_pool, after_act, given, has_asked, has_party}
use Rattle.mdb_log.specs.Connections.{has}
use Rattle.mdb_log.specs.Requests.{some_act, was_asked, queued, end_of}
use Rattle.mdb_log.specs.Homes.{Home, homes}
use Rattle.mdb_log.proofs.Frame.{asked-fact}
use Rattle.mdb_log.proofs.Numbers.{same-number}
use Rattle.mdb_sound.specs.Sound.{Sound}
use Rattle.mdb_sound.specs.Once.{Once}
use Rattle.mdb_sound.specs.Counts.{askings, grantings, endings, was_granted}
use Rattle.mdb_sound.proofs.Once.{once}
use Rattle.mdb_driver_rules.specs.Homes.{concerns, home_of}
use Rattle.mdb_histories.specs.SoundHistory.{SoundHistory, MayCome, StepNames, IsRequest}

-- what is found passes the test
pub find-passes : (test : Home → Bool) (hs : List Home) (x : Home) → find test hs ≡ Some x → test x ≡ true
find-passes test [] x e = cc
find-passes test (y ∷ hs) x e = on (test y) refl e (find-passes test hs x)
  where
    on : (b : Bool) → test y ≡ b → find test (y ∷ hs) ≡ Some x → (find test hs ≡ Some x → test x ≡ true) → test x ≡ true
    on true f g deeper = let w : Some y ≡ Some x = sym (rw f refl) ∙ g in let v : y ≡ x = cc in subst (λ z. test z ≡ true) v f
    on false f g deeper = deeper (sym (rw f refl) ∙ g)

pub home-concerned : (h : List Item) (act : Act) (x : Home) → home_of h act ≡ Some x → concerns h act x.number ≡ true
home-concerned h act x e = find-passes (λ y. concerns h act y.number) (homes h) x e

-- who has a connection is a party
given-known : (a t g e q i : Bool) (ka kg ke : ℕ) → Once a t g e q i ka kg ke → i ≡ true → a || t ≡ true
given-known a t g e q i ka kg ke w f = let h : i ≡ true → g || t ≡ true = w.had in let k : g ≡ true → a ≡ true = w.granted_asked in on a t g (h f) k
  where
    on : (a t g : Bool) → g || t ≡ true → (g ≡ true → a ≡ true) → a || t ≡ true
    on a true g e k = or-true a
      where
        or-true : (b : Bool) → b || true ≡ true
        or-true true = refl
        or-true false = refl
    on a false true e k = rw (k refl) refl
    on a false false e k = cc

pub given-party : (xs : List PoolItem) → Sound xs → (r : ℕ) → is_some (given xs r) ≡ true → has_party xs r ≡ true
given-party xs s r e = given-known (has_asked xs r) _ (was_granted xs r) (is_some (end_of xs r)) (has r (queued xs)) (is_some (given xs r)) (askings xs r) (grantings xs r) (endings xs r) (once xs s r) e

-- what is added to a list keeps who asked
if-asked : (b : Bool) (x : PoolItem) (xs : List PoolItem) (r : ℕ) → has_asked (x ∷ xs) r ≡ has_asked xs r → has_asked xs r ≡ true → has_asked (if_so b x xs) r ≡ true
if-asked true x xs r e f = e ∙ f
if-asked false x xs r e f = f

if-asks : (b : Bool) (x : PoolItem) (xs : List PoolItem) (k r : ℕ) → has_asked (x ∷ xs) r ≡ (k == r) || has_asked xs r → has_asked xs r ≡ true → has_asked (if_so b x xs) r ≡ true
if-asks true x xs k r e f = e ∙ rw f (or-true (k == r))
  where
    or-true : (b : Bool) → b || true ≡ true
    or-true true = refl
    or-true false = refl
if-asks false x xs k r e f = f

still-asked : (p : ℕ) (here : ServerAddress → Option ℕ) (m r : ℕ) (act : Act) (xs : List PoolItem) → has_asked xs r ≡ true → has_asked (after_act p here m act xs) r ≡ true
still-asked p here m r (Do.Request k a) xs e = if-asks (is_number (here a) p) _ xs k r refl e
still-asked p here m r (Do.Warm k a) xs e = if-asks (is_number (here a) p) _ xs k r refl e
still-asked p here m r (Do.GiveUp k) xs e = if-asked (has_asked xs k) _ xs r refl e
still-asked p here m r (Do.Established q c how) xs e = if-asked (q == p) _ xs r refl e
still-asked p here m r (Do.Failed q c Pre error) xs e = if-asked (q == p) _ xs r refl e
still-asked p here m r (Do.Failed q c (Post service) error) xs e = if-asked (q == p) _ xs r refl e
still-asked p here m r (Do.Return k used) xs e = if-asked (is_some (given xs k)) _ xs r refl e
still-asked p here m r (Do.Pin k) xs e = if-asked (is_some (given xs k)) _ xs r refl e
still-asked p here m r (Do.Replicate q c) xs e = if-asked (q == p) _ xs r refl e
still-asked p here m r (Do.Take k q c) xs e = if-asked (q == p) _ xs r refl e
still-asked p here m r (Do.Unpin q c) xs e = if-asked (q == p) _ xs r refl e
still-asked p here m r _ xs e = e

-- a request that was made asked some pool
module _ (h : List Item) (m r : ℕ) where
  now-asked : (act : Act) (reply : Reply) → StepNames h act → was_asked act r ≡ true → IsRequest (did (record { moment = m; act = act }) reply ∷ h) r
  now-asked (Do.Request k a) reply w e = on (open_pool h a) refl w.there
    where
      on : (x : Option ℕ) → open_pool h a ≡ x → is_some (open_pool h a) ≡ true → IsRequest (did (record { moment = m; act = Do.Request k a }) reply ∷ h) r
      on None f g = let v : is_some (open_pool h a) ≡ false = ap is_some f in cc
      on (Some p) f g = let n : is_number (open_pool h a) p ≡ true = ap (λ y. is_number y p) f ∙ same-number p in record { pool = p; asked = rw (n, e) refl }
  now-asked (Do.Warm k a) reply w e = on (open_pool h a) refl w.there
    where
      on : (x : Option ℕ) → open_pool h a ≡ x → is_some (open_pool h a) ≡ true → IsRequest (did (record { moment = m; act = Do.Warm k a }) reply ∷ h) r
      on None f g = let v : is_some (open_pool h a) ≡ false = ap is_some f in cc
      on (Some p) f g = let n : is_number (open_pool h a) p ≡ true = ap (λ y. is_number y p) f ∙ same-number p in record { pool = p; asked = rw (n, e) refl }
  now-asked _ reply w e = cc

pub asked-some : (h : List Item) → SoundHistory h → (r : ℕ) → some_act was_asked h r ≡ true → IsRequest h r
asked-some [] s r e = cc
asked-some (made m f ∷ h) s r e = let w : IsRequest h r = asked-some h s.1 r e in record { pool = w.pool; asked = asked-fact w.pool m r f (of_pool w.pool h) ∙ w.asked }
asked-some (did step reply ∷ h) s r e = on (was_asked step.act r) refl (asked-some h s.1 r)
  where
    on : (b : Bool) → was_asked step.act r ≡ b → (some_act was_asked h r ≡ true → IsRequest h r) → IsRequest (did step reply ∷ h) r
    on true f deeper = let c : MayCome h (did step reply) = s.0 in now-asked h step.moment r step.act reply c.names f
    on false f deeper = let w : IsRequest h r = deeper (sym (rw f refl) ∙ e) in record { pool = w.pool; asked = still-asked w.pool (open_pool h) step.moment r step.act (of_pool w.pool h) w.asked }
