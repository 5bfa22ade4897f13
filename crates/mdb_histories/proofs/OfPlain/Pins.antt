-- Pins, by the plain sentences and by the items of a pool.
use Rattle.std.proofs.Common.{ℕ, ◌≡◌, ◌+◌, ◌-◌, ◌<◌, ◌==◌, Bool, true, false, ◌&&◌, List, [], ◌∷◌, Option, Some, None, is_some, refl, ◌∙◌, ap, subst, arith, nat_lt}
use Rattle.std.proofs.lemmas.Grind.{common_steps}
use Rattle.std.proofs.lemmas.Bool.Decides.{nat_tests}
use Rattle.mdb_base.specs.declared.address.ServerAddress.{ServerAddress}
use Rattle.mdb_log.specs.declared.step.Act.{Act}
use Rattle.mdb_log.specs.declared.step.Act.TheVariants.{Request, Warm, GiveUp, Established, Failed, Return, Pin, Replicate, Take, Unpin}
use Rattle.mdb_log.specs.declared.step.FailedAt.TheVariants.{Pre, Post}
use Rattle.mdb_log.specs.History.{Item, did, made, PoolItem, pinned_by, replicated, unpinned, of_pool, open_pool, given, has_asked, is_number, if_so, after_act, after_fact}
use Rattle.mdb_log.specs.Connections.{one_if, holding, pins}
use Rattle.mdb_log.specs.PlainHolders.{holds, adds_pin, drops_pin, pins_made, pins_dropped, has_pin}
use Rattle.mdb_sound.specs.Sound.{Sound, Holds}
use Rattle.mdb_sound.proofs.Steady.{held-given}
use Rattle.mdb_histories.specs.SoundHistory.{SoundHistory, MayCome, StepNames, HasOne}
use Rattle.mdb_histories.proofs.OfPlain.Lists.{same-if}
use Rattle.mdb_histories.proofs.OfPlain.Frames.{from_fact, silent-fact}
use Rattle.mdb_histories.proofs.OfPlain.Holders.{holds-alike}

pins-quiet : (c : ℕ) (x : PoolItem) (ys : List PoolItem) → from_fact x ≡ true → pins (x ∷ ys) c ≡ pins ys c
pins-quiet c (pinned_by r) ys e = cc
pins-quiet c (replicated d) ys e = cc
pins-quiet c (unpinned d) ys e = cc
pins-quiet c _ ys e = refl

-- the party holds the connection that it was given
holding-given : (xs : List PoolItem) (r c : ℕ) → is_some (holding xs r) ≡ true → is_number (holding xs r) c ≡ is_number (given xs r) c
holding-given xs r c e = on (holding xs r) refl e
  where
    on : (o : Option ℕ) → holding xs r ≡ o → is_some o ≡ true → is_number (holding xs r) c ≡ is_number (given xs r) c
    on None f e = cc
    on (Some d) f e = rw (f, held-given xs r d f) refl

-- the party that pins holds its connection, in its pool
module _ (h : List Item) (s : SoundHistory h) (p r c : ℕ) (one : HasOne h r) where
  elsewhere : is_some (given (of_pool p h) r) ≡ false → holds p h r c ≡ is_number (given (of_pool p h) r) c
  elsewhere e = holds-alike h s p r c ∙ on (given (of_pool p h) r) refl e
    where
      on : (o : Option ℕ) → given (of_pool p h) r ≡ o → is_some o ≡ false → is_number (holding (of_pool p h) r) c ≡ is_number (given (of_pool p h) r) c
      on None f e = rw f refl
      on (Some d) f e = cc

  pub pins-own : (is_some (given (of_pool p h) r) ≡ true → is_some (holding (of_pool p h) r) ≡ true) → holds p h r c ≡ is_number (given (of_pool p h) r) c
  pins-own there = on (is_some (given (of_pool p h) r)) refl
    where
      on : (b : Bool) → is_some (given (of_pool p h) r) ≡ b → holds p h r c ≡ is_number (given (of_pool p h) r) c
      on true e = holds-alike h s p r c ∙ holding-given (of_pool p h) r c (there e)
      on false e = elsewhere e

none-number : (o : Option ℕ) (c : ℕ) → is_some o ≡ false → is_number o c ≡ false
none-number None c e = refl
none-number (Some d) c e = cc

-- how a step changes the pins: by those that it makes and drops
module _ (p : ℕ) (here : ServerAddress → Option ℕ) (m : ℕ) (h : List Item) (c : ℕ) where
  abbrev xs : List PoolItem
  xs = of_pool p h

  abbrev Turns : Act → Type 0
  Turns a = pins (after_act p here m a xs) c + one_if (drops_pin p a c) ≡ pins xs c + one_if (adds_pin p a h c)

  even : (b : Bool) (x : PoolItem) → pins (x ∷ xs) c ≡ pins xs c → pins (if_so b x xs) c + 0 ≡ pins xs c + 0
  even true x e = ap (λ n. n + 0) e
  even false x e = refl

  turn : (a : Act) → SoundHistory h → StepNames h a → Sound (after_act p here m a xs) → Turns a
  turn (Pin r) s one sound = on (is_some (given xs r)) refl sound
    where
      on : (b : Bool) → is_some (given xs r) ≡ b → Sound (if_so b (pinned_by r) xs) → pins (if_so b (pinned_by r) xs) c + 0 ≡ pins xs c + one_if (holds p h r c)
      on true e sound =
          let w : Holds xs r = sound.0 in
          let k : holds p h r c ≡ is_number (given xs r) c = pins-own h s p r c one (λ f. ap is_some w.holds) in
          rw k (grind (arith, common_steps))
      on false e sound =
          let k : holds p h r c ≡ is_number (given xs r) c = elsewhere h s p r c one e in
          rw (k, none-number (given xs r) c e) refl
  turn (Replicate q d) s w sound = on (q == p)
    where
      on : (b : Bool) → pins (if_so b (replicated d) xs) c + 0 ≡ pins xs c + one_if (b && (d == c))
      on true = grind (arith, common_steps)
      on false = refl
  turn (Unpin q d) s w sound = on (q == p) sound
    where
      on : (b : Bool) → Sound (if_so b (unpinned d) xs) → pins (if_so b (unpinned d) xs) c + one_if (b && (d == c)) ≡ pins xs c + 0
      on true sound = at (d == c) refl
        where
          at : (b : Bool) → (d == c) ≡ b → (pins xs c - one_if b) + one_if b ≡ pins xs c + 0
          at true e = let l : 0 < pins xs c = subst (λ k. 0 < pins xs k) (same-if d c e) sound.0 in omega arith
          at false e = omega arith
      on false sound = refl
  turn (Request r b) s w sound = even (is_number (here b) p) _ refl
  turn (Warm r b) s w sound = even (is_number (here b) p) _ refl
  turn (GiveUp r) s w sound = even (has_asked xs r) _ refl
  turn (Established q d how) s w sound = even (q == p) _ refl
  turn (Failed q d Pre error) s w sound = even (q == p) _ refl
  turn (Failed q d (Post service) error) s w sound = even (q == p) _ refl
  turn (Return r used) s w sound = even (is_some (given xs r)) _ refl
  turn (Take r q d) s w sound = even (q == p) _ refl
  turn _ s w sound = refl

-- Pins are those that were made without those that were dropped.
pub pins-alike : (h : List Item) → SoundHistory h → (p c : ℕ) → pins (of_pool p h) c + pins_dropped p h c ≡ pins_made p h c
pins-alike [] s p c = refl
pins-alike (made m f ∷ h) s p c = let k : pins (after_fact p m f (of_pool p h)) c ≡ pins (of_pool p h) c = silent-fact (λ ys. pins ys c) (pins-quiet c) p m (of_pool p h) f in rw k (pins-alike h s.1 p c)
pins-alike (did step reply ∷ h) s p c =
    let w : MayCome h (did step reply) = s.0 in
    let t : pins (after_act p (open_pool h) step.moment step.act (of_pool p h)) c + one_if (drops_pin p step.act c) ≡ pins (of_pool p h) c + one_if (adds_pin p step.act h c) = turn p (open_pool h) step.moment h c step.act s.1 w.names (w.in_each p) in
    let i : pins (of_pool p h) c + pins_dropped p h c ≡ pins_made p h c = pins-alike h s.1 p c in
    let goal : pins (after_act p (open_pool h) step.moment step.act (of_pool p h)) c + (pins_dropped p h c + one_if (drops_pin p step.act c)) ≡ pins_made p h c + one_if (adds_pin p step.act h c) = grind (arith, common_steps) in
    goal

more-made : (n d m : ℕ) → n + d ≡ m → nat_lt d m ≡ nat_lt 0 n
more-made n d m e = on (nat_lt d m) (nat_lt 0 n) refl refl
  where
    on : (a b : Bool) → nat_lt d m ≡ a → nat_lt 0 n ≡ b → a ≡ b
    on true true f g = refl
    on true false f g = absurd (grind (arith, nat_tests))
    on false true f g = absurd (grind (arith, nat_tests))
    on false false f g = refl

pub has-pin-alike : (h : List Item) → SoundHistory h → (p c : ℕ) → has_pin p h c ≡ nat_lt 0 (pins (of_pool p h) c)
has-pin-alike h s p c = more-made (pins (of_pool p h) c) (pins_dropped p h c) (pins_made p h c) (pins-alike h s p c)
