-- The pool of a request, and whether it is a warm one, by the plain sentences and by the items of a pool.
use Rattle.std.proofs.Common.{ℕ, ◌≡◌, ◌==◌, Bool, true, false, ◌&&◌, ◌||◌, List, [], ◌∷◌, Option, Some, None, is_some, refl, sym, ◌∙◌, ap, arith, if◌then◌else◌}
use Rattle.mdb_base.specs.declared.address.ServerAddress.{ServerAddress}
use Rattle.mdb_log.specs.declared.step.Act.{Act}
use Rattle.mdb_log.specs.declared.step.Act.TheVariants.{Request, Warm, GiveUp, Established, Failed, Return, Pin, Replicate, Take, Unpin}
use Rattle.mdb_log.specs.declared.step.FailedAt.TheVariants.{Pre, Post}
use Rattle.mdb_log.specs.History.{Item, did, made, PoolItem, asked, warmed, of_pool, open_pool, given, has_asked, is_number, if_so, after_act}
use Rattle.mdb_log.specs.Requests.{is_warm, some_act, was_asked}
use Rattle.mdb_log.specs.PlainRequests.{asked_now, pool_of, warms, is_warm as is_warm_one}
use Rattle.mdb_log.proofs.Bools.{both-left, both-right}
use Rattle.mdb_log.proofs.Frame.{asked-fact}
use Rattle.mdb_histories.specs.SoundHistory.{SoundHistory, MayCome}
use Rattle.mdb_histories.proofs.OfPlain.Lists.{same-if}
use Rattle.mdb_histories.proofs.OfPlain.Frames.{from_fact, silent-fact, if-still, asks, asked-act}
use Rattle.mdb_histories.proofs.OfPlain.Asked.{new-asker}

-- who asked this pool asked by some step
asks-asked : (p : ℕ) (here : ServerAddress → Option ℕ) (a : Act) (r : ℕ) → asks p here a r ≡ true → was_asked a r ≡ true
asks-asked p here (Request k b) r e = both-right (is_number (here b) p) (k == r) e
asks-asked p here (Warm k b) r e = both-right (is_number (here b) p) (k == r) e
asks-asked p here _ r e = cc

either : (a b c d : Bool) → (a ≡ true → c ≡ true) → (b ≡ true → d ≡ true) → a || b ≡ true → c || d ≡ true
either true b c d f g e = let h : c ≡ true = f refl in rw h refl
either false b c d f g e = let h : d ≡ true = g e in grind arith

pub asked-somewhere : (h : List Item) (p r : ℕ) → has_asked (of_pool p h) r ≡ true → some_act was_asked h r ≡ true
asked-somewhere [] p r e = cc
asked-somewhere (made m f ∷ h) p r e = asked-somewhere h p r (sym (asked-fact p m r f (of_pool p h)) ∙ e)
asked-somewhere (did step reply ∷ h) p r e =
    either (asks p (open_pool h) step.act r) (has_asked (of_pool p h) r) (was_asked step.act r) (some_act was_asked h r) (asks-asked p (open_pool h) step.act r) (asked-somewhere h p r) (sym (asked-act p (open_pool h) step.moment (of_pool p h) r step.act) ∙ e)

-- the pool where an act asks
asks-there : (p : ℕ) (h : List Item) (a : Act) (r : ℕ) → asks p (open_pool h) a r ≡ true → asked_now h a ≡ Some p
asks-there p h (Request k b) r e = one (open_pool h b) e
  where
    one : (o : Option ℕ) → is_number o p && (k == r) ≡ true → o ≡ Some p
    one None f = cc
    one (Some n) f = ap (λ i. Some i) (same-if n p (both-left (n == p) (k == r) f))
asks-there p h (Warm k b) r e = one (open_pool h b) e
  where
    one : (o : Option ℕ) → is_number o p && (k == r) ≡ true → o ≡ Some p
    one None f = cc
    one (Some n) f = ap (λ i. Some i) (same-if n p (both-left (n == p) (k == r) f))
asks-there p h _ r e = cc

warm-quiet : (r : ℕ) (x : PoolItem) (ys : List PoolItem) → from_fact x ≡ true → is_warm (x ∷ ys) r ≡ is_warm ys r
warm-quiet r (asked q m) ys e = cc
warm-quiet r (warmed q m) ys e = cc
warm-quiet r _ ys e = refl

module _ (p : ℕ) (here : ServerAddress → Option ℕ) (m : ℕ) (xs : List PoolItem) (r : ℕ) where
  -- a step that asks here tells whether the request is a warm one, and the others change nothing
  warm-act : (a : Act) → is_warm (after_act p here m a xs) r ≡ if asks p here a r then warms a else is_warm xs r
  warm-act (Request k b) = on (is_number (here b) p) (k == r) refl
    where
      on : (c e : Bool) → (k == r) ≡ e → is_warm (if_so c (asked k m) xs) r ≡ if c && e then false else is_warm xs r
      on true e f = rw f refl
      on false e f = refl
  warm-act (Warm k b) = on (is_number (here b) p) (k == r) refl
    where
      on : (c e : Bool) → (k == r) ≡ e → is_warm (if_so c (warmed k m) xs) r ≡ if c && e then true else is_warm xs r
      on true e f = rw f refl
      on false e f = refl
  warm-act (GiveUp k) = if-still (λ ys. is_warm ys r) xs (has_asked xs k) _ refl
  warm-act (Established q c how) = if-still (λ ys. is_warm ys r) xs (q == p) _ refl
  warm-act (Failed q c Pre error) = if-still (λ ys. is_warm ys r) xs (q == p) _ refl
  warm-act (Failed q c (Post service) error) = if-still (λ ys. is_warm ys r) xs (q == p) _ refl
  warm-act (Return k used) = if-still (λ ys. is_warm ys r) xs (is_some (given xs k)) _ refl
  warm-act (Pin k) = if-still (λ ys. is_warm ys r) xs (is_some (given xs k)) _ refl
  warm-act (Replicate q c) = if-still (λ ys. is_warm ys r) xs (q == p) _ refl
  warm-act (Take k q c) = if-still (λ ys. is_warm ys r) xs (q == p) _ refl
  warm-act (Unpin q c) = if-still (λ ys. is_warm ys r) xs (q == p) _ refl
  warm-act _ = refl

-- A request of the pool is a warm one by both, and the pool is its pool.
pub record OfPool (h : List Item) (p r : ℕ) : Type 0 where
  pub pool : pool_of h r ≡ Some p
  pub warmth : is_warm_one h r ≡ is_warm (of_pool p h) r

pub request-alike : (h : List Item) → SoundHistory h → (p r : ℕ) → has_asked (of_pool p h) r ≡ true → OfPool h p r
request-alike [] s p r e = cc
request-alike (made m f ∷ h) s p r e =
    let i : OfPool h p r = request-alike h s.1 p r (sym (asked-fact p m r f (of_pool p h)) ∙ e) in
    record { pool = i.pool; warmth = i.warmth ∙ sym (silent-fact (λ ys. is_warm ys r) (warm-quiet r) p m (of_pool p h) f) }
request-alike (did step reply ∷ h) s p r e = on (asks p (open_pool h) step.act r) refl (sym (asked-act p (open_pool h) step.moment (of_pool p h) r step.act) ∙ e) (request-alike h s.1 p r)
  where
    w : MayCome h (did step reply)
    w = s.0

    told : is_warm (of_pool p (did step reply ∷ h)) r ≡ if asks p (open_pool h) step.act r then warms step.act else is_warm (of_pool p h) r
    told = warm-act p (open_pool h) step.moment (of_pool p h) r step.act

    on : (b : Bool) → asks p (open_pool h) step.act r ≡ b → b || has_asked (of_pool p h) r ≡ true → (has_asked (of_pool p h) r ≡ true → OfPool h p r) → OfPool (did step reply ∷ h) p r
    on true f g deeper =
        let a : was_asked step.act r ≡ true = asks-asked p (open_pool h) step.act r f in
        let new : some_act was_asked h r ≡ false = new-asker h step.act r w.names a in
        record { pool = rw (new, a) (asks-there p h step.act r f); warmth = rw (new, a) (sym (told ∙ rw f refl)) }
    on false f g deeper =
        let i : OfPool h p r = deeper g in
        let a : some_act was_asked h r ≡ true = asked-somewhere h p r g in
        record { pool = rw a i.pool; warmth = rw a (i.warmth ∙ sym (told ∙ rw f refl)) }
