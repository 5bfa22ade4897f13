-- The facts of a sweep and of a filling.
use Rattle.std.proofs.Common.{ℕ, zero, suc, ◌≡◌, ◌+◌, ◌-◌, Bool, true, false, ◌&&◌, List, [], ◌∷◌, length, Option, Some, None, nat_lt, refl, sym, ◌∙◌, ap, subst}
use Rattle.mdb_base.specs.declared.address.ServerAddress.{ServerAddress}
use Rattle.mdb_events.specs.declared.reasons.ConnectionClosedReason.{ConnectionClosedReason}
use Rattle.mdb_log.specs.declared.options.PoolOptions.{PoolOptions}
use Rattle.mdb_log.specs.History.{PoolItem, after_facts}
use Rattle.mdb_log.specs.Connections.{live_total, created_total, pending_list}
use Rattle.mdb_log.specs.State.{state_of, ready, min_size, max_connecting}
use Rattle.mdb_pool_rules.specs.Facts.{created_fact, perished, sweep, fill}
use Rattle.mdb_log.specs.Legal.{AllFirstCome}
use Rattle.mdb_log.specs.Own.{AllOwn, shuts}

pub fill-none : (p : ℕ) (a : ServerAddress) (o : PoolOptions) (n k : ℕ) (ys : List PoolItem) → (ready (state_of o ys) && (nat_lt (live_total ys) (min_size o) && (nat_lt (length (pending_list ys)) (max_connecting o) && nat_lt (created_total ys) o.limit_id))) ≡ false → fill p a o n k ys ≡ []
fill-none p a o n zero ys e = refl
fill-none p a o n (suc k) ys e = rw e refl

pub fill-one : (p : ℕ) (a : ServerAddress) (o : PoolOptions) (n k : ℕ) (ys : List PoolItem) → (ready (state_of o ys) && (nat_lt (live_total ys) (min_size o) && (nat_lt (length (pending_list ys)) (max_connecting o) && nat_lt (created_total ys) o.limit_id))) ≡ true
    → fill p a o n (suc k) ys ≡ created_fact p a (created_total ys + 1) ∷ fill p a o n k (after_facts p n (created_fact p a (created_total ys + 1) ∷ []) ys)
fill-one p a o n k ys e = rw e refl

-- the facts are fair, the pool's own, and leave it unshut
module _ (p : ℕ) (a : ServerAddress) (o : PoolOptions) (n : ℕ) where
  pub sweep-fair : (xs ys : List PoolItem) (cs : List ℕ) → AllFirstCome p n ys (sweep p a o n xs cs)
  sweep-fair xs ys [] = tt
  sweep-fair xs ys (c ∷ cs) = on (perished o n xs c) refl (λ ks. sweep-fair xs ks cs)
    where
      on : (w : Option ConnectionClosedReason) → perished o n xs c ≡ w → ((ks : List PoolItem) → AllFirstCome p n ks (sweep p a o n xs cs)) → AllFirstCome p n ys (sweep p a o n xs (c ∷ cs))
      on None e rest = rw e (rest ys)
      on (Some why) e rest = rw e (tt, rest _)

  pub sweep-own : (xs ys : List PoolItem) (cs : List ℕ) → AllOwn p n ys (sweep p a o n xs cs)
  sweep-own xs ys [] = tt
  sweep-own xs ys (c ∷ cs) = on (perished o n xs c) refl (λ ks. sweep-own xs ks cs)
    where
      on : (w : Option ConnectionClosedReason) → perished o n xs c ≡ w → ((ks : List PoolItem) → AllOwn p n ks (sweep p a o n xs cs)) → AllOwn p n ys (sweep p a o n xs (c ∷ cs))
      on None e rest = rw e (rest ys)
      on (Some why) e rest = rw e (refl, rest _)

  pub sweep-open : (xs : List PoolItem) (cs : List ℕ) → shuts (sweep p a o n xs cs) ≡ false
  sweep-open xs [] = refl
  sweep-open xs (c ∷ cs) = on (perished o n xs c) refl (sweep-open xs cs)
    where
      on : (w : Option ConnectionClosedReason) → perished o n xs c ≡ w → shuts (sweep p a o n xs cs) ≡ false → shuts (sweep p a o n xs (c ∷ cs)) ≡ false
      on None e rest = rw e rest
      on (Some why) e rest = rw e rest

  abbrev may : List PoolItem → Bool
  may ws = ready (state_of o ws) && (nat_lt (live_total ws) (min_size o) && (nat_lt (length (pending_list ws)) (max_connecting o) && nat_lt (created_total ws) o.limit_id))

  pub fill-fair : (k : ℕ) (ws : List PoolItem) → AllFirstCome p n ws (fill p a o n k ws)
  fill-fair zero ws = tt
  fill-fair (suc k) ws = on (may ws) refl (fill-fair k (after_facts p n (created_fact p a (created_total ws + 1) ∷ []) ws))
    where
      on : (b : Bool) → may ws ≡ b → AllFirstCome p n (after_facts p n (created_fact p a (created_total ws + 1) ∷ []) ws) (fill p a o n k (after_facts p n (created_fact p a (created_total ws + 1) ∷ []) ws)) → AllFirstCome p n ws (fill p a o n (suc k) ws)
      on true e rest = subst (AllFirstCome p n ws) (sym (fill-one p a o n k ws e)) (tt, rest)
      on false e rest = subst (AllFirstCome p n ws) (sym (fill-none p a o n (suc k) ws e)) tt

  pub fill-own : (k : ℕ) (ws : List PoolItem) → AllOwn p n ws (fill p a o n k ws)
  fill-own zero ws = tt
  fill-own (suc k) ws = on (may ws) refl (fill-own k (after_facts p n (created_fact p a (created_total ws + 1) ∷ []) ws))
    where
      on : (b : Bool) → may ws ≡ b → AllOwn p n (after_facts p n (created_fact p a (created_total ws + 1) ∷ []) ws) (fill p a o n k (after_facts p n (created_fact p a (created_total ws + 1) ∷ []) ws)) → AllOwn p n ws (fill p a o n (suc k) ws)
      on true e rest = subst (AllOwn p n ws) (sym (fill-one p a o n k ws e)) (refl, rest)
      on false e rest = subst (AllOwn p n ws) (sym (fill-none p a o n (suc k) ws e)) tt

  pub fill-open : (k : ℕ) (ws : List PoolItem) → shuts (fill p a o n k ws) ≡ false
  fill-open zero ws = refl
  fill-open (suc k) ws = on (may ws) refl (fill-open k (after_facts p n (created_fact p a (created_total ws + 1) ∷ []) ws))
    where
      on : (b : Bool) → may ws ≡ b → shuts (fill p a o n k (after_facts p n (created_fact p a (created_total ws + 1) ∷ []) ws)) ≡ false → shuts (fill p a o n (suc k) ws) ≡ false
      on true e rest = ap shuts (fill-one p a o n k ws e) ∙ rest
      on false e rest = ap shuts (fill-none p a o n (suc k) ws e)
