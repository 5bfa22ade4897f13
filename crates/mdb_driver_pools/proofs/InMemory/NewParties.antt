-- A pool that is asked by a party that no pool knows can tell so; and one whose connection fails lives.
use Rattle.std.proofs.Common.{ℕ, ◌≡◌, ◌==◌, Bool, true, false, not, ◌&&◌, ◌||◌, List, is_some, None, Some, refl, sym, subst, arith}
use Rattle.std.specs.Prelude.{nat_lt, slice_get}
use Rattle.std.proofs.lemmas.Bool.Decides.{nat_tests}
use Rattle.std.proofs.lemmas.Bool.{not-false}
use Rattle.mdb_base.specs.declared.error.Error.{Error}
use Rattle.mdb_log.specs.declared.step.Act.{Act}
use Rattle.mdb_log.specs.declared.step.Act.TheVariants as Do
use Rattle.mdb_log.specs.declared.step.Step.{Step}
use Rattle.mdb_log.specs.declared.reply.Refused.TheVariants.{NotPending, TimeBack, WrongMode}
use Rattle.mdb_log.specs.History.{service_in}
use Rattle.mdb_log.specs.Requests.{names_party}
use Rattle.mdb_pool.specs.Core.{PoolCore}
use Rattle.mdb_pool.specs.Now.{alone_now, is_pending_now, is_spent, knows_now, last_now}
use Rattle.mdb_pool_rules.specs.Refusal.{first_row}
use Rattle.mdb_pool.specs.Refusing.{can_tell, is_pending_here, rows_now, tells_new}
use Rattle.mdb_log.proofs.Bools.{both-true}
use Rattle.mdb_pool_rules.proofs.FirstRow.{first-passes, two-pass}
use Rattle.mdb_pool.proofs.KeptInLittle.NothingLives.{none-pending}
use Rattle.mdb_driver_pools.specs.Failing.{IsFailing}
use Rattle.mdb_driver_pools.specs.Finding.{named_by, names_known}
use Rattle.mdb_driver_rules.proofs.General.OneElement.{any-none}

can-new : (s : PoolCore) (r : ℕ) → knows_now s r ≡ false → can_tell s r ≡ true
can-new s r e = rw e (or-true (alone_now s))
  where
    or-true : (b : Bool) → (b || true) ≡ true
    or-true true = refl
    or-true false = refl

pub new-tells : (pools : List PoolCore) (i : ℕ) (s : PoolCore) (act : Act) → slice_get pools i ≡ Some s → names_known pools act ≡ false → tells_new s act ≡ true
new-tells pools i s (Do.Request r a) at e = can-new s r (any-none (λ u. knows_now u r) pools i s e at)
new-tells pools i s (Do.Warm r a) at e = can-new s r (any-none (λ u. knows_now u r) pools i s e at)
new-tells pools i s (Do.Take r q c) at e = can-new s r (any-none (λ u. knows_now u r) pools i s e at)
new-tells pools i s _ at e = refl

-- the party that an act names is the one that it names for the first time
turned : (p q r : ℕ) → p ≡ q → (r == q) ≡ (p == r)
turned p q r e = on (r == q) refl
  where
    on : (b : Bool) → (r == q) ≡ b → b ≡ (p == r)
    on true f = let k : (p == r) ≡ true = grind (arith, nat_tests) in sym k
    on false f = let k : (p == r) ≡ false = grind (arith, nat_tests) in sym k

pub named-party : (act : Act) (q r : ℕ) → named_by act ≡ Some q → (r == q) ≡ names_party act r
named-party (Do.Request p a) q r e = let same : p ≡ q = cc in turned p q r same
named-party (Do.Warm p a) q r e = let same : p ≡ q = cc in turned p q r same
named-party (Do.Take p n c) q r e = let same : p ≡ q = cc in turned p q r same
named-party _ q r e = cc

pub none-named : (act : Act) (r : ℕ) → named_by act ≡ None → names_party act r ≡ false
none-named (Do.Request p a) r e = cc
none-named (Do.Warm p a) r e = cc
none-named (Do.Take p n c) r e = cc
none-named _ r e = refl

-- the connection that fails is there
pub failing-lives : (s : PoolCore) (step : Step) (error : Error) → IsFailing s step error → is_spent s ≡ false
failing-lives s step error f = on (is_spent s) refl
  where
    rows : first_row (rows_now s step.act) ≡ None
    rows = (first-passes (nat_lt step.moment (last_now s)) (TimeBack (last_now s)) (rows_now s step.act) f.accepted).1

    rows-of : first_row (rows_now s (Do.Failed s.pool f.connection f.at error)) ≡ None
    rows-of = subst (λ a. first_row (rows_now s a) ≡ None) f.act_is rows

    pending : is_pending_here s s.pool f.connection ≡ true
    pending = not-false (is_pending_here s s.pool f.connection) (two-pass (not (is_pending_here s s.pool f.connection)) (not s.options.load_balanced && is_some (service_in f.at)) NotPending WrongMode rows-of).0

    on : (b : Bool) → is_spent s ≡ b → b ≡ false
    on true e =
        let there : is_pending_now s f.connection ≡ true = (both-true (s.pool == s.pool) (is_pending_now s f.connection) pending).1 in
        let none : is_pending_now s f.connection ≡ false = none-pending s e f.connection in
        cc
    on false e = refl
