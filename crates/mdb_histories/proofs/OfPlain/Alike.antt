-- Ends, grants and returns by the whole history and by the items of the party's pool are alike.
use Rattle.std.proofs.Common.{ℕ, ◌≡◌, ◌==◌, Bool, true, false, ◌&&◌, ◌||◌, List, [], ◌∷◌, Option, is_some, refl, sym, ◌∙◌, ap, subst, arith}
use Rattle.mdb_base.specs.declared.address.ServerAddress.{ServerAddress}
use Rattle.mdb_events.specs.declared.fact.Fact.{Fact}
use Rattle.mdb_events.specs.declared.fact.Fact.TheVariants.{Granted}
use Rattle.mdb_log.specs.declared.step.Act.{Act}
use Rattle.mdb_log.specs.declared.step.Act.TheVariants.{Return}
use Rattle.mdb_log.specs.History.{Item, did, made, PoolItem, granted, ended, returned, of_pool, open_pool, given, has_asked, has_party, after_act}
use Rattle.mdb_log.specs.Requests.{names_party, end_of}
use Rattle.mdb_log.specs.PlainRequests.{is_granted, is_ended}
use Rattle.mdb_log.specs.PlainHolders.{returns, has_returned}
use Rattle.mdb_log.proofs.Frame.{asked-fact, party-fact, asked-party}
use Rattle.mdb_sound.specs.Counts.{was_granted}
use Rattle.mdb_sound.proofs.Once.{OnceEach, once}
use Rattle.mdb_histories.specs.SoundHistory.{StepNames, SoundHistory, MayCome, HasOne, is_party}
use Rattle.mdb_histories.proofs.OfPlain.Lists.{same-if}
use Rattle.mdb_histories.proofs.OfPlain.Given.{Without, newly, was_returned}
use Rattle.mdb_histories.proofs.OfPlain.Frames.{asks, from_fact, silent-fact, silent-act, asked-act, returned-act}
use Rattle.mdb_histories.proofs.OfPlain.FactFrames.{ends, grants, grants_at, ended-made, granted-made, end-fact, grant-fact}
use Rattle.mdb_histories.proofs.OfPlain.Parties.{sound-pool, party-act, joins, joins-party, fresh-party, stranger, one-pool, which}
use Rattle.mdb_histories.proofs.OfPlain.Across.{IsNew, new-party, party-of, returns-one, grant-asked}

ends-quiet : (r : ℕ) (x : PoolItem) (ys : List PoolItem) → from_fact x ≡ false → is_some (end_of (x ∷ ys) r) ≡ is_some (end_of ys r)
ends-quiet r (ended q end) ys e = cc
ends-quiet r _ ys e = refl

grants-quiet : (r : ℕ) (x : PoolItem) (ys : List PoolItem) → from_fact x ≡ false → was_granted (x ∷ ys) r ≡ was_granted ys r
grants-quiet r (granted q c) ys e = cc
grants-quiet r _ ys e = refl

returns-quiet : (r : ℕ) (x : PoolItem) (ys : List PoolItem) → from_fact x ≡ true → was_returned (x ∷ ys) r ≡ was_returned ys r
returns-quiet r (returned q used) ys e = cc
returns-quiet r _ ys e = refl

-- after a step that makes the party one of the pool
module _ (h : List Item) (s : SoundHistory h) (p r : ℕ) (a : Act) (c : StepNames h a) (new : has_party (of_pool p h) r ≡ false) (e : joins p (open_pool h) a r ≡ true) where
  new-number : is_party h r ≡ false
  new-number = fresh-party h a r c (joins-party p (open_pool h) a r e)

  pub new-there : IsNew h r
  new-there = new-party h s r new-number

  pub new-here : (c : ℕ) → Without (of_pool p h) r c
  new-here c = newly (of_pool p h) (sound-pool h s p) r c new

asks-joins : (p : ℕ) (here : ServerAddress → Option ℕ) (a : Act) (r : ℕ) → asks p here a r ≡ true → joins p here a r ≡ true
asks-joins p here a r e = rw e refl

alone : (a t : Bool) → a ≡ false → t ≡ false → a || t ≡ false
alone a t e f = rw (e, f) refl

-- who had not asked here, and asks now, was no party of this pool
no-party : (h : List Item) (s : SoundHistory h) (p r : ℕ) (a : Act) (c : StepNames h a) → asks p (open_pool h) a r ≡ true → has_party (of_pool p h) r ≡ false
no-party h s p r a c e = stranger h p r (fresh-party h a r c (joins-party p (open_pool h) a r (asks-joins p (open_pool h) a r e)))

pub ended-alike : (h : List Item) → SoundHistory h → (p r : ℕ) → has_asked (of_pool p h) r ≡ true → is_ended h r ≡ is_some (end_of (of_pool p h) r)
ended-alike [] s p r e = cc
ended-alike (made m f ∷ h) s p r e =
    let a : has_asked (of_pool p h) r ≡ true = sym (asked-fact p m r f (of_pool p h)) ∙ e in
    ended-made m f h r ∙ (ap (λ b. ends f r || b) (ended-alike h s.1 p r a) ∙ sym (end-fact p m (of_pool p h) r a f))
ended-alike (did step reply ∷ h) s p r e = on (has_asked (of_pool p h) r) refl (ended-alike h s.1 p r) ∙ sym still
  where
    c : MayCome h (did step reply)
    c = s.0

    still : is_some (end_of (after_act p (open_pool h) step.moment step.act (of_pool p h)) r) ≡ is_some (end_of (of_pool p h) r)
    still = silent-act (λ ys. is_some (end_of ys r)) (ends-quiet r) p (open_pool h) step.moment (of_pool p h) step.act

    on : (b : Bool) → has_asked (of_pool p h) r ≡ b → (has_asked (of_pool p h) r ≡ true → is_ended h r ≡ is_some (end_of (of_pool p h) r)) → is_ended h r ≡ is_some (end_of (of_pool p h) r)
    on true f deeper = deeper f
    on false f deeper =
        let a : asks p (open_pool h) step.act r ≡ true = which (asks p (open_pool h) step.act r) (has_asked (of_pool p h) r) (sym (asked-act p (open_pool h) step.moment (of_pool p h) r step.act) ∙ e) f in
        let j : joins p (open_pool h) step.act r ≡ true = asks-joins p (open_pool h) step.act r a in
        let n : has_party (of_pool p h) r ≡ false = no-party h s.1 p r step.act c.names a in
        let new : IsNew h r = new-there h s.1 p r step.act c.names n j in
        let w : Without (of_pool p h) r 0 = new-here h s.1 p r step.act c.names n j 0 in
        new.unended ∙ sym w.unended

grants-here : (p : ℕ) (f : Fact) (r : ℕ) → ((k n c : ℕ) → f ≡ Granted k n c → (k == r) ≡ true → n ≡ p) → grants f r ≡ grants_at p f r
grants-here p (Granted k n c) r same = on (k == r) refl
  where
    on : (b : Bool) → (k == r) ≡ b → b ≡ (n == p) && b
    on true e = let f : n ≡ p = same k n c refl e in grind arith
    on false e = grind arith
grants-here p _ r same = refl

pub granted-alike : (h : List Item) → SoundHistory h → (p r : ℕ) → has_asked (of_pool p h) r ≡ true → is_granted h r ≡ was_granted (of_pool p h) r
granted-alike [] s p r e = cc
granted-alike (made m f ∷ h) s p r e =
    let a : has_asked (of_pool p h) r ≡ true = sym (asked-fact p m r f (of_pool p h)) ∙ e in
    let same : (k n c : ℕ) → f ≡ Granted k n c → (k == r) ≡ true → n ≡ p = λ k n c g i.
    let t : SoundHistory (made m (Granted k n c) ∷ h) = subst (λ (x : Fact). SoundHistory (made m x ∷ h)) g s in
    one-pool h s.1 n p r (asked-party (of_pool n h) r (subst (λ j. has_asked (of_pool n h) j ≡ true) (same-if k r i) (grant-asked h m k n c t))) (asked-party (of_pool p h) r a) in
    granted-made m f h r ∙ (rw (grants-here p f r same) (ap (λ b. grants_at p f r || b) (granted-alike h s.1 p r a)) ∙ sym (grant-fact p m (of_pool p h) r f))
granted-alike (did step reply ∷ h) s p r e = on (has_asked (of_pool p h) r) refl (granted-alike h s.1 p r) ∙ sym still
  where
    c : MayCome h (did step reply)
    c = s.0

    still : was_granted (after_act p (open_pool h) step.moment step.act (of_pool p h)) r ≡ was_granted (of_pool p h) r
    still = silent-act (λ ys. was_granted ys r) (grants-quiet r) p (open_pool h) step.moment (of_pool p h) step.act

    ungranted : has_party (of_pool p h) r ≡ false → was_granted (of_pool p h) r ≡ false
    ungranted n = let i : OnceEach (of_pool p h) r = once (of_pool p h) (sound-pool h s.1 p) r in let ga : was_granted (of_pool p h) r ≡ true → has_asked (of_pool p h) r ≡ true = i.granted_asked in grind arith

    on : (b : Bool) → has_asked (of_pool p h) r ≡ b → (has_asked (of_pool p h) r ≡ true → is_granted h r ≡ was_granted (of_pool p h) r) → is_granted h r ≡ was_granted (of_pool p h) r
    on true f deeper = deeper f
    on false f deeper =
        let a : asks p (open_pool h) step.act r ≡ true = which (asks p (open_pool h) step.act r) (has_asked (of_pool p h) r) (sym (asked-act p (open_pool h) step.moment (of_pool p h) r step.act) ∙ e) f in
        let j : joins p (open_pool h) step.act r ≡ true = asks-joins p (open_pool h) step.act r a in
        let n : has_party (of_pool p h) r ≡ false = no-party h s.1 p r step.act c.names a in
        let new : IsNew h r = new-there h s.1 p r step.act c.names n j in
        new.ungranted ∙ sym (ungranted n)

makes-no-return : (a : Act) (r : ℕ) → names_party a r ≡ true → returns a r ≡ false
makes-no-return (Return k used) r e = cc
makes-no-return _ r e = refl

pub returned-alike : (h : List Item) → SoundHistory h → (p r : ℕ) → has_party (of_pool p h) r ≡ true → has_returned h r ≡ was_returned (of_pool p h) r
returned-alike [] s p r e = cc
returned-alike (made m f ∷ h) s p r e = returned-alike h s.1 p r (sym (party-fact p m r f (of_pool p h)) ∙ e) ∙ sym (silent-fact (λ ys. was_returned ys r) (returns-quiet r) p m (of_pool p h) f)
returned-alike (did step reply ∷ h) s p r e = on (has_party (of_pool p h) r) refl (returned-alike h s.1 p r) ∙ sym (returned-act p (open_pool h) step.moment (of_pool p h) r step.act)
  where
    c : MayCome h (did step reply)
    c = s.0

    has_one : has_party (of_pool p h) r ≡ true → returns step.act r ≡ true → is_some (given (of_pool p h) r) ≡ true
    has_one f g =
        let w : HasOne h r = returns-one h step.act r c.names g in
        subst (λ n. is_some (given (of_pool n h) r) ≡ true) (one-pool h s.1 w.pool p r (party-of h s.1 w.pool r w.has) f) w.has

    at : (b : Bool) → returns step.act r ≡ b → has_party (of_pool p h) r ≡ true → b ≡ b && is_some (given (of_pool p h) r)
    at true g f = sym (has_one f g)
    at false g f = refl

    on : (b : Bool) → has_party (of_pool p h) r ≡ b → (has_party (of_pool p h) r ≡ true → has_returned h r ≡ was_returned (of_pool p h) r) → returns step.act r || has_returned h r ≡ (returns step.act r && is_some (given (of_pool p h) r)) || was_returned (of_pool p h) r
    on true f deeper = let k : returns step.act r ≡ returns step.act r && is_some (given (of_pool p h) r) = at (returns step.act r) refl f in rw (deeper f) (ap (λ b. b || was_returned (of_pool p h) r) k)
    on false f deeper =
        let j : joins p (open_pool h) step.act r ≡ true = which (joins p (open_pool h) step.act r) (has_party (of_pool p h) r) (sym (party-act p (open_pool h) step.moment (of_pool p h) r step.act) ∙ e) f in
        let new : IsNew h r = new-there h s.1 p r step.act c.names f j in
        let w : Without (of_pool p h) r 0 = new-here h s.1 p r step.act c.names f j 0 in
        let none : returns step.act r ≡ false = makes-no-return step.act r (joins-party p (open_pool h) step.act r j) in
        rw (none, new.unreturned, w.unreturned) refl
