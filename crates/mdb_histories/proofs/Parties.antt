-- What a sound history says of parties and pools: no party is in two pools, and nothing is said of a pool before it was opened.
use Rattle.std.proofs.Common.{ℕ, ◌≡◌, ◌≢◌, ◌==◌, ◌||◌, Bool, true, false, List, [], ◌∷◌, Option, Some, None, is_some, refl, sym, ◌∙◌, subst, arith}
use Rattle.std.proofs.lemmas.Grind.{common_steps}
use Rattle.mdb_base.specs.declared.address.ServerAddress.{ServerAddress}
use Rattle.mdb_log.specs.declared.step.Act.{Act}
use Rattle.mdb_log.specs.declared.step.Act.TheVariants as Do
use Rattle.mdb_log.specs.declared.step.FailedAt.TheVariants.{Pre, Post}
use Rattle.mdb_log.specs.History.{Item, did, made, PoolItem, asked, warmed, gave_up, returned, pinned_by, established, failed, replicated, taken, unpinned, if_so, is_number, of_pool, open_pool, after_act, given, has_asked, has_taken, has_party}
use Rattle.mdb_log.specs.Requests.{names_party}
use Rattle.mdb_log.proofs.Frame.{party-fact}
use Rattle.mdb_sound.specs.Sound.{Sound}
use Rattle.mdb_histories.specs.SoundHistory.{SoundHistory, MayCome, StepNames, is_party}

-- each pool's items are sound
pub each-sound : (h : List Item) → SoundHistory h → (p : ℕ) → Sound (of_pool p h)
each-sound [] s p = tt
each-sound (x ∷ h) s p = let w : MayCome h x = s.0 in w.in_each p

-- who is in a pool after an act was in it before, or is named by the act
act-party : (p : ℕ) (here : ServerAddress → Option ℕ) (m r : ℕ) (act : Act) (xs : List PoolItem) → has_party (after_act p here m act xs) r ≡ true → names_party act r || has_party xs r ≡ true
act-party p here m r (Do.Request k a) xs e = grind (arith, common_steps)
act-party p here m r (Do.Warm k a) xs e = grind (arith, common_steps)
act-party p here m r (Do.GiveUp k) xs e = grind (arith, common_steps)
act-party p here m r (Do.Established q c how) xs e = grind (arith, common_steps)
act-party p here m r (Do.Failed q c Pre error) xs e = grind (arith, common_steps)
act-party p here m r (Do.Failed q c (Post service) error) xs e = grind (arith, common_steps)
act-party p here m r (Do.Return k used) xs e = grind (arith, common_steps)
act-party p here m r (Do.Pin k) xs e = grind (arith, common_steps)
act-party p here m r (Do.Replicate q c) xs e = grind (arith, common_steps)
act-party p here m r (Do.Take k q c) xs e = grind (arith, common_steps)
act-party p here m r (Do.Unpin q c) xs e = grind (arith, common_steps)
act-party p here m r _ xs e = e

-- who is in a pool was named by some step
pub party-named : (p r : ℕ) (h : List Item) → has_party (of_pool p h) r ≡ true → is_party h r ≡ true
party-named p r [] e = cc
party-named p r (made m f ∷ h) e = party-named p r h (sym (party-fact p m r f (of_pool p h)) ∙ e)
party-named p r (did step reply ∷ h) e =
    on (names_party step.act r) (has_party (of_pool p h) r) refl refl (act-party p (open_pool h) step.moment r step.act (of_pool p h) e) (party-named p r h)
  where
    on : (b c : Bool) → names_party step.act r ≡ b → has_party (of_pool p h) r ≡ c → names_party step.act r || has_party (of_pool p h) r ≡ true → (has_party (of_pool p h) r ≡ true → is_party h r ≡ true) → names_party step.act r || is_party h r ≡ true
    on true c f g i deeper = rw f refl
    on false true f g i deeper = rw (f, deeper g) refl
    on false false f g i deeper = let w : names_party step.act r || has_party (of_pool p h) r ≡ false = rw (f, g) refl in cc

pub new-party : (p r : ℕ) (h : List Item) → is_party h r ≡ false → has_party (of_pool p h) r ≡ false
new-party p r h e = on (has_party (of_pool p h) r) refl
  where
    on : (b : Bool) → has_party (of_pool p h) r ≡ b → has_party (of_pool p h) r ≡ false
    on true f = let w : is_party h r ≡ true = party-named p r h f in cc
    on false f = f

-- an item that adds the party k, where it is added to one pool alone, leaves the pools apart
module _ (k r : ℕ) (x : PoolItem) (adds : (zs : List PoolItem) → has_party (x ∷ zs) r ≡ (k == r) || has_party zs r) (xs ys : List PoolItem)
    (new_here : has_party xs k ≡ false) (new_there : has_party ys k ≡ false) (before : has_party xs r ≡ true → has_party ys r ≡ false) where
  added-apart : (b c : Bool) → (b ≡ true → c ≡ false) → has_party (if_so b x xs) r ≡ true → has_party (if_so c x ys) r ≡ false
  added-apart b c one e = on (k == r) refl
    where
      at_same : (b c : Bool) → (b ≡ true → c ≡ false) → has_party xs r ≡ false → has_party ys r ≡ false → has_party (if_so b x xs) r ≡ true → has_party (if_so c x ys) r ≡ false
      at_same false c one f g e = cc
      at_same true true one f g e = let w : true ≡ false = one refl in cc
      at_same true false one f g e = g

      at_other : (b c : Bool) → (k == r) ≡ false → has_party (if_so b x xs) r ≡ true → has_party (if_so c x ys) r ≡ false
      at_other false false f e = before e
      at_other false true f e = adds ys ∙ rw f (before e)
      at_other true false f e = before (sym (adds xs ∙ rw f refl) ∙ e)
      at_other true true f e = adds ys ∙ rw f (before (sym (adds xs ∙ rw f refl) ∙ e))

      on : (d : Bool) → (k == r) ≡ d → has_party (if_so c x ys) r ≡ false
      on true f =
          let same : k ≡ r = grind arith in
          at_same b c one (subst (λ n. has_party xs n ≡ false) same new_here) (subst (λ n. has_party ys n ≡ false) same new_there) e
      on false f = at_other b c f e

or-assoc : (a b c : Bool) → (a || b) || c ≡ a || (b || c)
or-assoc true b c = refl
or-assoc false b c = refl

or-between : (a b c : Bool) → a || (b || c) ≡ b || (a || c)
or-between true true c = refl
or-between true false c = refl
or-between false true c = refl
or-between false false c = refl

-- the number of one pool is not that of another
pub number-one : (x : Option ℕ) (p q : ℕ) → p ≢ q → is_number x p ≡ true → is_number x q ≡ false
number-one None p q ne e = refl
number-one (Some n) p q ne e = let w : n ≡ p = grind arith in on (n == q) refl w
  where
    on : (b : Bool) → (n == q) ≡ b → n ≡ p → is_number (Some n) q ≡ false
    on false f w = f
    on true f w = let v : n ≡ q = grind arith in absurd (ne (sym w ∙ v))

pub equal-one : (k p q : ℕ) → p ≢ q → (k == p) ≡ true → (k == q) ≡ false
equal-one k p q ne e = number-one (Some k) p q ne e

module _ (h : List Item) (m r p q : ℕ) (ne : p ≢ q) (before : has_party (of_pool p h) r ≡ true → has_party (of_pool q h) r ≡ false) where
  abbrev xs : List PoolItem
  xs = of_pool p h

  abbrev ys : List PoolItem
  ys = of_pool q h

  kept-apart : (x y : PoolItem) → ((zs : List PoolItem) → has_party (x ∷ zs) r ≡ has_party zs r) → ((zs : List PoolItem) → has_party (y ∷ zs) r ≡ has_party zs r) → (b c : Bool) → has_party (if_so b x xs) r ≡ true → has_party (if_so c y ys) r ≡ false
  kept-apart x y f g false false e = before e
  kept-apart x y f g false true e = g ys ∙ before e
  kept-apart x y f g true false e = before (sym (f xs) ∙ e)
  kept-apart x y f g true true e = g ys ∙ before (sym (f xs) ∙ e)

  act-apart : (act : Act) → StepNames h act → has_party (after_act p (open_pool h) m act xs) r ≡ true → has_party (after_act q (open_pool h) m act ys) r ≡ false
  act-apart (Do.Request k a) w e = added-apart k r (asked k m) (λ zs. or-assoc (k == r) (has_asked zs r) (has_taken zs r)) xs ys (new-party p k h w.fresh) (new-party q k h w.fresh) before (is_number (open_pool h a) p) (is_number (open_pool h a) q) (number-one (open_pool h a) p q ne) e
  act-apart (Do.Warm k a) w e = added-apart k r (warmed k m) (λ zs. or-assoc (k == r) (has_asked zs r) (has_taken zs r)) xs ys (new-party p k h w.fresh) (new-party q k h w.fresh) before (is_number (open_pool h a) p) (is_number (open_pool h a) q) (number-one (open_pool h a) p q ne) e
  act-apart (Do.Take k n c) w e = added-apart k r (taken k c) (λ zs. or-between (has_asked zs r) (k == r) (has_taken zs r)) xs ys (new-party p k h w.fresh) (new-party q k h w.fresh) before (n == p) (n == q) (equal-one n p q ne) e
  act-apart (Do.GiveUp k) w e = kept-apart (gave_up k) (gave_up k) (λ zs. refl) (λ zs. refl) (has_asked xs k) (has_asked ys k) e
  act-apart (Do.Established n c how) w e = kept-apart (established c how m) (established c how m) (λ zs. refl) (λ zs. refl) (n == p) (n == q) e
  act-apart (Do.Failed n c Pre error) w e = kept-apart (failed c None) (failed c None) (λ zs. refl) (λ zs. refl) (n == p) (n == q) e
  act-apart (Do.Failed n c (Post service) error) w e = kept-apart (failed c service) (failed c service) (λ zs. refl) (λ zs. refl) (n == p) (n == q) e
  act-apart (Do.Return k used) w e = kept-apart (returned k used) (returned k used) (λ zs. refl) (λ zs. refl) (is_some (given xs k)) (is_some (given ys k)) e
  act-apart (Do.Pin k) w e = kept-apart (pinned_by k) (pinned_by k) (λ zs. refl) (λ zs. refl) (is_some (given xs k)) (is_some (given ys k)) e
  act-apart (Do.Replicate n c) w e = kept-apart (replicated c) (replicated c) (λ zs. refl) (λ zs. refl) (n == p) (n == q) e
  act-apart (Do.Unpin n c) w e = kept-apart (unpinned c) (unpinned c) (λ zs. refl) (λ zs. refl) (n == p) (n == q) e
  act-apart _ w e = before e

-- no party is in two pools
pub apart : (h : List Item) → SoundHistory h → (r p q : ℕ) → p ≢ q → has_party (of_pool p h) r ≡ true → has_party (of_pool q h) r ≡ false
apart [] s r p q ne e = refl
apart (made m f ∷ h) s r p q ne e = party-fact q m r f (of_pool q h) ∙ apart h s.1 r p q ne (sym (party-fact p m r f (of_pool p h)) ∙ e)
apart (did step reply ∷ h) s r p q ne e = let w : MayCome h (did step reply) = s.0 in act-apart h step.moment r p q ne (apart h s.1 r p q ne) step.act w.names e
