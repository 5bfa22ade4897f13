-- Requests that end keep the items sound: one alone, and one after another.
use Rattle.std.proofs.Common.{ℕ, ◌≡◌, ◌+◌, ◌≤◌, ◌==◌, Bool, true, false, not, ◌||◌, List, [], ◌∷◌, ◌++◌, None, is_some, refl, sym, ◌∙◌, subst, arith}
use Rattle.std.proofs.lemmas.Grind.{common_steps}
use Rattle.mdb_base.specs.declared.address.ServerAddress.{ServerAddress}
use Rattle.mdb_base.specs.declared.error.Error.{Error}
use Rattle.mdb_events.specs.declared.end.End.{End}
use Rattle.mdb_events.specs.declared.end.End.TheVariants.{Cleared, Closed, TimedOut}
use Rattle.mdb_log.specs.declared.options.PoolOptions.{PoolOptions}
use Rattle.mdb_log.specs.History.{PoolItem, asked, warmed, ended, after_facts, has_asked, has_taken, has_party, given, without}
use Rattle.mdb_log.specs.Connections.{one_if, has}
use Rattle.mdb_log.specs.Requests.{queued, waiting, is_warm, end_of}
use Rattle.mdb_log.specs.State.{State, is_new, is_ready, is_paused, is_closed, state_of}
use Rattle.mdb_pool_rules.specs.Facts.{end_facts, all_ends, turned_away, new_pool_error}
use Rattle.mdb_log.proofs.Later.{after-append}
use Rattle.mdb_log.proofs.Numbers.{same-number, has-append, has-without-is}
use Rattle.mdb_sound.specs.Sound.{Sound, MayAsk, MayEnd, lost}
use Rattle.mdb_sound.specs.Counts.{askings, grantings, endings, was_granted}
use Rattle.mdb_sound.specs.Once.{Once}
use Rattle.mdb_sound.proofs.Once.{once}
use Rattle.mdb_sound.proofs.Order.{times, times-has, filter-without}
use Rattle.mdb_sound.proofs.Calm.{none-is, calm-end}
use Rattle.mdb_sound.proofs.Served.{Fine}

pub end-fine : (xs : List PoolItem) (r : ℕ) (end : End) → Fine xs → MayEnd xs r end → Fine (ended r end ∷ xs)
end-fine xs r end z w = ((w, z.0), calm-end xs r end z.1)

module _ (p : ℕ) (a : ServerAddress) (o : PoolOptions) (m : ℕ) where
  -- the facts of an end say just that
  pub end-says : (ws xs : List PoolItem) (r : ℕ) (end : End) → has_asked xs r ≡ true → after_facts p m (end_facts p a m ws r end) xs ≡ ended r end ∷ xs
  end-says ws xs r end e = on (is_warm ws r) refl
    where
      on : (b : Bool) → is_warm ws r ≡ b → after_facts p m (end_facts p a m ws r end) xs ≡ ended r end ∷ xs
      on true f = rw f (rw e refl)
      on false f = rw f (rw e refl)

  pub ends-fine : (ws xs : List PoolItem) (r : ℕ) (end : End) → Fine xs → MayEnd xs r end → Fine (after_facts p m (end_facts p a m ws r end) xs)
  ends-fine ws xs r end z w = subst Fine (sym (end-says ws xs r end w.asked_for)) (end-fine xs r end z w)

  -- requests that each may end so, and still may where another did
  pub all-fine : (ws : List PoolItem) (end : End) → ((zs : List PoolItem) (r k : ℕ) → (r == k) ≡ false → MayEnd zs k end → MayEnd (ended r end ∷ zs) k end)
      → (rs : List ℕ) (xs : List PoolItem) → Fine xs → ((k : ℕ) → has k rs ≡ true → MayEnd xs k end) → ((k : ℕ) → times k rs ≤ 1)
      → Fine (after_facts p m (all_ends p a m ws end rs) xs)
  all-fine ws end kept [] xs z each single = z
  all-fine ws end kept (r ∷ rs) xs z each single =
      let w : MayEnd xs r end = each r (rw (same-number r) refl) in
      let apart : (k : ℕ) → has k rs ≡ true → (r == k) ≡ false = λ k h. other k h (r == k) refl in
      let rest : Fine (after_facts p m (all_ends p a m ws end rs) (ended r end ∷ xs)) = all-fine ws end kept rs (ended r end ∷ xs) (end-fine xs r end z w) (λ k h. kept xs r k (apart k h) (each k (rw h (or-right (r == k))))) (λ k. let l : times k rs + one_if (r == k) ≤ 1 = single k in omega arith) in
      subst Fine (sym (after-append p m (end_facts p a m ws r end) (all_ends p a m ws end rs) xs)) (subst (λ ys. Fine (after_facts p m (all_ends p a m ws end rs) ys)) (sym (end-says ws xs r end w.asked_for)) rest)
    where
      or-right : (b : Bool) → b || true ≡ true
      or-right true = refl
      or-right false = refl

      other : (k : ℕ) → has k rs ≡ true → (b : Bool) → (r == k) ≡ b → (r == k) ≡ false
      other k h false e = e
      other k h true e =
          let l : times k rs + one_if (r == k) ≤ 1 = single k in
          let n : times k rs ≡ 0 = grind (arith, common_steps) in
          let g : has k rs ≡ false = times-has k rs n in
          cc

  -- a new request ends at once where the pool is new or paused
  pub turned-fine : (ys : List PoolItem) (r : ℕ) → Fine ys → ((error : Error) → MayEnd ys r (Cleared error)) → Fine (after_facts p m (turned_away p a o m ys r) ys)
  turned-fine ys r z w = on (state_of o ys) refl
    where
      on : (t : State) → state_of o ys ≡ t → Fine (after_facts p m (turned_away p a o m ys r) ys)
      on is_new e = rw e (ends-fine ys ys r (Cleared new_pool_error) z (w new_pool_error))
      on is_ready e = rw e z
      on (is_paused error) e = rw e (ends-fine ys ys r (Cleared error) z (w error))
      on is_closed e = rw e z

-- others may still end where one did
kept-queued : (zs : List PoolItem) (r k : ℕ) → (r == k) ≡ false → has k (queued zs) ≡ true → has k (without r (queued zs)) ≡ true
kept-queued zs r k e h = grind (arith, has-without-is k r (queued zs))

kept-unended : (zs : List PoolItem) (r k : ℕ) (end : End) → (r == k) ≡ false → end_of zs k ≡ None → end_of (ended r end ∷ zs) k ≡ None
kept-unended zs r k end e h = rw e h

pub kept-cleared : (error : Error) (zs : List PoolItem) (r k : ℕ) → (r == k) ≡ false → MayEnd zs k (Cleared error) → MayEnd (ended r (Cleared error) ∷ zs) k (Cleared error)
kept-cleared error zs r k e w = record { asked_for = w.asked_for; unended = kept-unended zs r k (Cleared error) e w.unended; so = kept-queued zs r k e w.so }

pub kept-timed : (zs : List PoolItem) (r k : ℕ) → (r == k) ≡ false → MayEnd zs k TimedOut → MayEnd (ended r TimedOut ∷ zs) k TimedOut
kept-timed zs r k e w = record { asked_for = w.asked_for; unended = kept-unended zs r k TimedOut e w.unended; so = rw (filter-without (λ q. not (is_warm zs q)) r (queued zs)) (let h : has k (waiting zs) ≡ true = w.so in grind (arith, has-without-is k r (waiting zs))) }

kept-lost : (zs : List PoolItem) (r k : ℕ) (end : End) → (r == k) ≡ false → lost (ended r end ∷ zs) k ≡ lost zs k
kept-lost zs r k end e = rw e refl

pub kept-closed : (zs : List PoolItem) (r k : ℕ) → (r == k) ≡ false → MayEnd zs k Closed → MayEnd (ended r Closed ∷ zs) k Closed
kept-closed zs r k e w = record { asked_for = w.asked_for; unended = kept-unended zs r k Closed e w.unended; so = on (has k (queued zs)) refl w.so }
  where
    on : (b : Bool) → has k (queued zs) ≡ b → has k (queued zs) || lost zs k ≡ true → has k (without r (queued zs)) || lost (ended r Closed ∷ zs) k ≡ true
    on true f h = let g : has k (without r (queued zs)) ≡ true = kept-queued zs r k e f in rw g refl
    on false f h = let g : has k (without r (queued zs)) ≡ false = has-without-is k r (queued zs) ∙ rw f refl in let l : lost zs k ≡ true = subst (λ b. b || lost zs k ≡ true) f h in rw g (kept-lost zs r k Closed e ∙ l)

-- a request that was just made may end
unasked-end : (a t g e q h : Bool) (ka kg ke : ℕ) → Once a t g e q h ka kg ke → (a || t ≡ false) → e ≡ false
unasked-end a t g e q h ka kg ke i w = let ea : e ≡ true → a ≡ true = i.ended_asked in grind arith

pub fresh-unended : (xs : List PoolItem) → Sound xs → (r : ℕ) → has_party xs r ≡ false → end_of xs r ≡ None
fresh-unended xs s r w = none-is (end_of xs r) (unasked-end (has_asked xs r) (has_taken xs r) (was_granted xs r) (is_some (end_of xs r)) (has r (queued xs)) (is_some (given xs r)) (askings xs r) (grantings xs r) (endings xs r) (once xs s r) w)

module _ (p : ℕ) (a : ServerAddress) (o : PoolOptions) (m : ℕ) (xs : List PoolItem) (z : Fine xs) (r : ℕ) (w : MayAsk xs r) where
  in-queue : has r (queued xs ++ r ∷ []) ≡ true
  in-queue = has-append r r (queued xs) ∙ rw (same-number r) (either (has r (queued xs)))
    where
      either : (b : Bool) → b || true ≡ true
      either true = refl
      either false = refl

  -- a request, and a warm one
  pub asked-fine : Fine (after_facts p m (turned_away p a o m (asked r m ∷ xs) r) (asked r m ∷ xs))
  asked-fine = turned-fine p a o m (asked r m ∷ xs) r ((w, z.0), record { free = z.1.free; loose = z.1.loose }) (λ error. record { asked_for = rw (same-number r) refl; unended = fresh-unended xs z.0 r w.fresh; so = in-queue })

  pub warmed-fine : Fine (after_facts p m (turned_away p a o m (warmed r m ∷ xs) r) (warmed r m ∷ xs))
  warmed-fine = turned-fine p a o m (warmed r m ∷ xs) r ((w, z.0), record { free = z.1.free; loose = z.1.loose }) (λ error. record { asked_for = rw (same-number r) refl; unended = fresh-unended xs z.0 r w.fresh; so = in-queue })
