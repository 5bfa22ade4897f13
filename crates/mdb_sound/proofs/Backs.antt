-- Connections that come back keep the items sound.
use Rattle.std.proofs.Common.{ℕ, ◌≡◌, ◌==◌, Bool, true, false, not, ◌&&◌, ◌||◌, List, [], ◌∷◌, ◌++◌, Option, Some, None, refl, sym, ◌∙◌, ap, subst, arith}
use Rattle.std.specs.List.{list_any}
use Rattle.mdb_base.specs.declared.address.ServerAddress.{ServerAddress}
use Rattle.mdb_events.specs.declared.end.End.{End}
use Rattle.mdb_events.specs.declared.reasons.ConnectionClosedReason.{ConnectionClosedReason}
use Rattle.mdb_log.specs.declared.options.PoolOptions.{PoolOptions}
use Rattle.mdb_log.specs.History.{PoolItem, closed, checked_in, ended, after_facts, without}
use Rattle.mdb_log.specs.Connections.{has, is_live, pending_list, available_list, parties, pins}
use Rattle.mdb_log.specs.Requests.{is_warm}
use Rattle.mdb_log.specs.State.{State, is_new, is_ready, is_paused, is_closed, state_of}
use Rattle.mdb_pool_rules.specs.Facts.{check_in, close_reason}
use Rattle.mdb_log.proofs.Numbers.{same-number, has-without-is}
use Rattle.mdb_sound.specs.Sound.{Sound, was_closed, in_use, just_failed, MayClose, MayCheckIn}
use Rattle.mdb_sound.proofs.Steady.{has-again}
use Rattle.mdb_sound.proofs.Generations.{closed-for-good}
use Rattle.mdb_sound.proofs.Calm.{Calm, not-out, calm-close}

-- a connection that may come back
pub record IsBack (ys : List PoolItem) (c : ℕ) : Type 0 where
  pub lives : is_live ys c ≡ true
  pub idle : list_any (λ r. not (is_warm ys r)) (parties ys c) ≡ false
  pub loose : pins ys c ≡ 0
  pub settled : has c (pending_list ys) ≡ false
  pub away : has c (available_list ys) ≡ false

pub idle-unused : (ys : List PoolItem) (c : ℕ) → list_any (λ r. not (is_warm ys r)) (parties ys c) ≡ false → in_use ys c ≡ false
idle-unused ys c e = rw e (neither (not (has c (pending_list ys))) (not (just_failed ys c)))
  where
    neither : (a b : Bool) → a && (b && false) ≡ false
    neither true true = refl
    neither true false = refl
    neither false b = refl

pub out : (c : ℕ) (ks : List ℕ) → has c (without c ks) ≡ false
out c ks = has-without-is c c ks ∙ rw (same-number c) (none (has c ks))
  where
    none : (b : Bool) → b && false ≡ false
    none true = refl
    none false = refl

-- what a check-in leaves calm
pub calm-kept : (ys : List PoolItem) (c m : ℕ) → Calm ys → parties ys c ≡ [] → pins ys c ≡ 0 → Calm (checked_in c m ∷ ys)
calm-kept ys c m z none loose = record { free = λ d e. free d (c == d) refl (sym (has-again d c (available_list ys)) ∙ e); loose = λ d e. pinless d (c == d) refl (sym (has-again d c (available_list ys)) ∙ e) }
  where
    left-true : (a : Bool) → a || false ≡ true → a ≡ true
    left-true true e = refl
    left-true false e = cc

    free : (d : ℕ) (b : Bool) → (c == d) ≡ b → has d (available_list ys) || (c == d) ≡ true → parties ys d ≡ []
    free d true f e = let g : c ≡ d = grind arith in subst (λ k. parties ys k ≡ []) g none
    free d false f e = z.free d (left-true (has d (available_list ys)) (subst (λ b. has d (available_list ys) || b ≡ true) f e))

    pinless : (d : ℕ) (b : Bool) → (c == d) ≡ b → has d (available_list ys) || (c == d) ≡ true → pins ys d ≡ 0
    pinless d true f e = let g : c ≡ d = grind arith in subst (λ k. pins ys k ≡ 0) g loose
    pinless d false f e = z.loose d (left-true (has d (available_list ys)) (subst (λ b. has d (available_list ys) || b ≡ true) f e))

pub calm-gone : (ys : List PoolItem) (c m : ℕ) → Calm ys → Calm (closed c ∷ checked_in c m ∷ ys)
calm-gone ys c m z = record { free = λ d e. z.free d (there d e); loose = λ d e. z.loose d (there d e) }
  where
    there : (d : ℕ) → has d (without c (without c (available_list ys) ++ c ∷ [])) ≡ true → has d (available_list ys) ≡ true
    there d e =
        let w : (has d (without c (available_list ys) ++ c ∷ []) ≡ true) × ((c == d) ≡ false) = not-out d c (without c (available_list ys) ++ c ∷ []) e in
        let v : has d (available_list ys) || (c == d) ≡ true = sym (has-again d c (available_list ys)) ∙ w.0 in
        let n : (c == d) ≡ false = w.1 in
        grind arith

-- the last party of an available connection is gone
pub calm-left : (ys : List PoolItem) (c m r : ℕ) (end : End) → Calm ys → without r (parties ys c) ≡ [] → pins ys c ≡ 0 → Calm (ended r end ∷ checked_in c m ∷ ys)
calm-left ys c m r end z none loose = record { free = λ d e. free d (c == d) refl (sym (has-again d c (available_list ys)) ∙ e); loose = λ d e. pinless d (c == d) refl (sym (has-again d c (available_list ys)) ∙ e) }
  where
    left-true : (a : Bool) → a || false ≡ true → a ≡ true
    left-true true e = refl
    left-true false e = cc

    free : (d : ℕ) (b : Bool) → (c == d) ≡ b → has d (available_list ys) || (c == d) ≡ true → without r (parties ys d) ≡ []
    free d true f e = let g : c ≡ d = grind arith in subst (λ k. without r (parties ys k) ≡ []) g none
    free d false f e = ap (without r) (z.free d (left-true (has d (available_list ys)) (subst (λ b. has d (available_list ys) || b ≡ true) f e)))

    pinless : (d : ℕ) (b : Bool) → (c == d) ≡ b → has d (available_list ys) || (c == d) ≡ true → pins ys d ≡ 0
    pinless d true f e = let g : c ≡ d = grind arith in subst (λ k. pins ys k ≡ 0) g loose
    pinless d false f e = z.loose d (left-true (has d (available_list ys)) (subst (λ b. has d (available_list ys) || b ≡ true) f e))

module _ (p : ℕ) (a : ServerAddress) (o : PoolOptions) (m : ℕ) where
  -- what a check-in says that was decided after the items ws, in items
  pub data Back (ws ys : List PoolItem) (c : ℕ) : Type 0 where
    shut : after_facts p m (check_in p a o ws c) ys ≡ closed c ∷ ys → Back ws ys c
    kept : was_closed ws ≡ false → after_facts p m (check_in p a o ws c) ys ≡ checked_in c m ∷ ys → Back ws ys c
    gone : was_closed ws ≡ false → after_facts p m (check_in p a o ws c) ys ≡ closed c ∷ checked_in c m ∷ ys → Back ws ys c

  pub unshut-state : (ws : List PoolItem) → Sound ws → (state_of o ws ≡ is_closed → ⊥) → was_closed ws ≡ false
  unshut-state ws s not_closed = on (was_closed ws) refl
    where
      on : (b : Bool) → was_closed ws ≡ b → was_closed ws ≡ false
      on true f = absurd (not_closed ((closed-for-good o ws s f).stays_closed))
      on false f = f

  pub back-of : (ws ys : List PoolItem) (c : ℕ) → Sound ws → Back ws ys c
  back-of ws ys c s = on (state_of o ws) (close_reason o ws c) refl refl
    where
      on : (t : State) (k : Option ConnectionClosedReason) → state_of o ws ≡ t → close_reason o ws c ≡ k → Back ws ys c
      on is_closed k e f = shut (rw (e, same-number p) refl)
      on is_new None e f = kept (unshut-state ws s (λ g. let h : is_new ≡ is_closed = sym e ∙ g in cc)) (rw (e, f, same-number p) refl)
      on is_new (Some why) e f = gone (unshut-state ws s (λ g. let h : is_new ≡ is_closed = sym e ∙ g in cc)) (rw (e, f, same-number p) refl)
      on is_ready None e f = kept (unshut-state ws s (λ g. let h : is_ready ≡ is_closed = sym e ∙ g in cc)) (rw (e, f, same-number p) refl)
      on is_ready (Some why) e f = gone (unshut-state ws s (λ g. let h : is_ready ≡ is_closed = sym e ∙ g in cc)) (rw (e, f, same-number p) refl)
      on (is_paused error) None e f = kept (unshut-state ws s (λ g. let h : is_paused error ≡ is_closed = sym e ∙ g in cc)) (rw (e, f, same-number p) refl)
      on (is_paused error) (Some why) e f = gone (unshut-state ws s (λ g. let h : is_paused error ≡ is_closed = sym e ∙ g in cc)) (rw (e, f, same-number p) refl)

  closes-back : (ys : List PoolItem) (c : ℕ) → IsBack ys c → MayClose ys c
  closes-back ys c b = record { lives = b.lives; unused = idle-unused ys c b.idle; unpinned = b.loose }

  checks-back : (ys : List PoolItem) (c : ℕ) → IsBack ys c → was_closed ys ≡ false → MayCheckIn ys c
  checks-back ys c b u = record { lives = b.lives; unused = idle-unused ys c b.idle; unpinned = b.loose; ready = b.settled; away = b.away; unshut = u }

  pub shut-sound : (ys : List PoolItem) (c : ℕ) → Sound ys → IsBack ys c → Sound (closed c ∷ ys)
  shut-sound ys c s b = (closes-back ys c b, s)

  pub kept-sound : (ys : List PoolItem) (c : ℕ) → Sound ys → IsBack ys c → was_closed ys ≡ false → Sound (checked_in c m ∷ ys)
  kept-sound ys c s b u = (checks-back ys c b u, s)

  pub gone-sound : (ys : List PoolItem) (c : ℕ) → Sound ys → IsBack ys c → was_closed ys ≡ false → Sound (closed c ∷ checked_in c m ∷ ys)
  gone-sound ys c s b u = (record { lives = b.lives; unused = idle-unused (checked_in c m ∷ ys) c b.idle; unpinned = b.loose }, (checks-back ys c b u, s))

  -- a connection comes back that nobody has
  pub back-fine : (ws ys : List PoolItem) (c : ℕ) → Sound ws → was_closed ys ≡ was_closed ws → Sound ys → Calm ys → IsBack ys c → parties ys c ≡ [] → Sound (after_facts p m (check_in p a o ws c) ys) × Calm (after_facts p m (check_in p a o ws c) ys)
  back-fine ws ys c v same s z b none = on (back-of ws ys c v)
    where
      on : Back ws ys c → Sound (after_facts p m (check_in p a o ws c) ys) × Calm (after_facts p m (check_in p a o ws c) ys)
      on (shut e) = rw e (shut-sound ys c s b, calm-close ys c z)
      on (kept u e) = rw e (kept-sound ys c s b (same ∙ u), calm-kept ys c m z none b.loose)
      on (gone u e) = rw e (gone-sound ys c s b (same ∙ u), calm-gone ys c m z)
