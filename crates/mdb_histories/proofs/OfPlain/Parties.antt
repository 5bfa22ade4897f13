-- Parties across the pools of a sound history: each is one of one pool.
use Rattle.std.proofs.Common.{ℕ, ◌≡◌, ◌==◌, Bool, true, false, ◌&&◌, ◌||◌, List, [], ◌∷◌, Option, Some, None, refl, sym, ◌∙◌, subst, arith}
use Rattle.mdb_base.specs.declared.address.ServerAddress.{ServerAddress}
use Rattle.mdb_log.specs.declared.step.Act.{Act}
use Rattle.mdb_log.specs.declared.step.Act.TheVariants.{Request, Warm, Take}
use Rattle.mdb_log.specs.History.{Item, did, made, PoolItem, of_pool, open_pool, has_asked, has_taken, has_party, is_number, after_act}
use Rattle.mdb_log.specs.Requests.{names_party}
use Rattle.mdb_log.proofs.Frame.{party-fact}
use Rattle.mdb_log.proofs.Bools.{both-left, both-right}
use Rattle.mdb_sound.specs.Sound.{Sound}
use Rattle.mdb_histories.specs.SoundHistory.{SoundHistory, MayCome, StepNames, is_party, AsksAnew, TakesAnew}
use Rattle.mdb_histories.proofs.OfPlain.Lists.{same-if}
use Rattle.mdb_histories.proofs.OfPlain.Frames.{asks, takes, asked-act, taken-act}

pub sound-pool : (h : List Item) → SoundHistory h → (p : ℕ) → Sound (of_pool p h)
sound-pool [] s p = tt
sound-pool (x ∷ h) s p = let c : MayCome h x = s.0 in c.in_each p

-- the act makes the party one of the pool
abbrev pub joins : ℕ → (ServerAddress → Option ℕ) → Act → ℕ → Bool
joins p here a r = asks p here a r || takes p a r

pub party-act : (p : ℕ) (here : ServerAddress → Option ℕ) (m : ℕ) (xs : List PoolItem) (r : ℕ) (a : Act) → has_party (after_act p here m a xs) r ≡ joins p here a r || has_party xs r
party-act p here m xs r a = rw (asked-act p here m xs r a, taken-act p here m xs r a) (on (asks p here a r) (takes p a r) (has_asked xs r) (has_taken xs r))
  where
    on : (a t x y : Bool) → (a || x) || (t || y) ≡ (a || t) || (x || y)
    on true t x y = refl
    on false t true y = grind arith
    on false t false y = refl

pub joins-party : (p : ℕ) (here : ServerAddress → Option ℕ) (a : Act) (r : ℕ) → joins p here a r ≡ true → names_party a r ≡ true
joins-party p here (Request k b) r e = both-right (is_number (here b) p) (k == r) (left (is_number (here b) p && (k == r)) e)
  where
    left : (b : Bool) → b || false ≡ true → b ≡ true
    left true e = refl
    left false e = e
joins-party p here (Warm k b) r e = both-right (is_number (here b) p) (k == r) (left (is_number (here b) p && (k == r)) e)
  where
    left : (b : Bool) → b || false ≡ true → b ≡ true
    left true e = refl
    left false e = e
joins-party p here (Take k q c) r e = both-right (q == p) (k == r) e
joins-party p here _ r e = cc

either : (a b n k : Bool) → (a ≡ true → n ≡ true) → (b ≡ true → k ≡ true) → a || b ≡ true → n || k ≡ true
either true b n k f g e = let h : n ≡ true = f refl in rw h refl
either false b n k f g e = let h : k ≡ true = g e in grind arith

-- the party of a pool was made by a step
pub party-known : (h : List Item) (p r : ℕ) → has_party (of_pool p h) r ≡ true → is_party h r ≡ true
party-known [] p r e = cc
party-known (did step reply ∷ h) p r e =
    either (joins p (open_pool h) step.act r) (has_party (of_pool p h) r) (names_party step.act r) (is_party h r) (joins-party p (open_pool h) step.act r) (party-known h p r) (sym (party-act p (open_pool h) step.moment (of_pool p h) r step.act) ∙ e)
party-known (made m fact ∷ h) p r e = party-known h p r (sym (party-fact p m r fact (of_pool p h)) ∙ e)

-- the number of a party that a step makes is new
pub fresh-party : (h : List Item) (a : Act) (r : ℕ) → StepNames h a → names_party a r ≡ true → is_party h r ≡ false
fresh-party h (Request k b) r n e = let w : AsksAnew h k b = n in subst (λ i. is_party h i ≡ false) (same-if k r e) w.fresh
fresh-party h (Warm k b) r n e = let w : AsksAnew h k b = n in subst (λ i. is_party h i ≡ false) (same-if k r e) w.fresh
fresh-party h (Take k q c) r n e = let w : TakesAnew h k q = n in subst (λ i. is_party h i ≡ false) (same-if k r e) w.fresh
fresh-party h _ r n e = cc

pub stranger : (h : List Item) (p r : ℕ) → is_party h r ≡ false → has_party (of_pool p h) r ≡ false
stranger h p r e = on (has_party (of_pool p h) r) refl
  where
    on : (b : Bool) → has_party (of_pool p h) r ≡ b → has_party (of_pool p h) r ≡ false
    on true f = let k : is_party h r ≡ true = party-known h p r f in cc
    on false f = f

one-number : (o : Option ℕ) (p q : ℕ) → is_number o p ≡ true → is_number o q ≡ true → p ≡ q
one-number None p q e f = cc
one-number (Some n) p q e f = sym (same-if n p e) ∙ same-if n q f

joins-one : (here : ServerAddress → Option ℕ) (a : Act) (p q r : ℕ) → joins p here a r ≡ true → joins q here a r ≡ true → p ≡ q
joins-one here (Request k b) p q r e f = one-number (here b) p q (first (is_number (here b) p) e) (first (is_number (here b) q) f)
  where
    first : (b : Bool) → (b && (k == r)) || false ≡ true → b ≡ true
    first true e = refl
    first false e = e
joins-one here (Warm k b) p q r e f = one-number (here b) p q (first (is_number (here b) p) e) (first (is_number (here b) q) f)
  where
    first : (b : Bool) → (b && (k == r)) || false ≡ true → b ≡ true
    first true e = refl
    first false e = e
joins-one here (Take k n c) p q r e f = sym (same-if n p (both-left (n == p) (k == r) e)) ∙ same-if n q (both-left (n == q) (k == r) f)
joins-one here _ p q r e f = cc

-- who joined a pool by this step, or was there
pub which : (a b : Bool) → a || b ≡ true → b ≡ false → a ≡ true
which true b e f = refl
which false b e f = sym f ∙ e

-- A party is one of one pool.
pub one-pool : (h : List Item) → SoundHistory h → (p q r : ℕ) → has_party (of_pool p h) r ≡ true → has_party (of_pool q h) r ≡ true → p ≡ q
one-pool [] s p q r e f = cc
one-pool (made m fact ∷ h) s p q r e f = one-pool h s.1 p q r (sym (party-fact p m r fact (of_pool p h)) ∙ e) (sym (party-fact q m r fact (of_pool q h)) ∙ f)
one-pool (did step reply ∷ h) s p q r e f = on (names_party step.act r) refl (one-pool h s.1 p q r)
  where
    here : ServerAddress → Option ℕ
    here = open_pool h

    c : MayCome h (did step reply)
    c = s.0

    at_p : joins p here step.act r || has_party (of_pool p h) r ≡ true
    at_p = sym (party-act p here step.moment (of_pool p h) r step.act) ∙ e

    at_q : joins q here step.act r || has_party (of_pool q h) r ≡ true
    at_q = sym (party-act q here step.moment (of_pool q h) r step.act) ∙ f

    before : (n : ℕ) → names_party step.act r ≡ false → joins n here step.act r || has_party (of_pool n h) r ≡ true → has_party (of_pool n h) r ≡ true
    before n g at = go (joins n here step.act r) refl at
      where
        go : (b : Bool) → joins n here step.act r ≡ b → b || has_party (of_pool n h) r ≡ true → has_party (of_pool n h) r ≡ true
        go true i j = let k : names_party step.act r ≡ true = joins-party n here step.act r i in cc
        go false i j = j

    on : (b : Bool) → names_party step.act r ≡ b → (has_party (of_pool p h) r ≡ true → has_party (of_pool q h) r ≡ true → p ≡ q) → p ≡ q
    on false g deeper = deeper (before p g at_p) (before q g at_q)
    on true g deeper =
        let new : is_party h r ≡ false = fresh-party h step.act r c.names g in
        joins-one here step.act p q r (which (joins p here step.act r) (has_party (of_pool p h) r) at_p (stranger h p r new)) (which (joins q here step.act r) (has_party (of_pool q h) r) at_q (stranger h q r new))
