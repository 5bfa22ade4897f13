-- A pending connection of one pool failed, after its pool was cleared or not: the pools then stand for the history with it.
use Rattle.std.proofs.Common.{ℕ, ◌≡◌, ◌≢◌, ◌==◌, ◌||◌, Bool, true, false, List, ◌∷◌, set, Some, refl, sym, ◌∙◌, ap, subst, arith}
use Rattle.std.specs.Prelude.{slice_get}
use Rattle.mdb_base.specs.declared.error.Error.{Error}
use Rattle.mdb_events.specs.declared.fact.Fact.{Fact}
use Rattle.mdb_log.specs.declared.options.PoolOptions.{PoolOptions}
use Rattle.mdb_log.specs.declared.step.Step.{Step}
use Rattle.mdb_log.specs.declared.step.Act.TheVariants.{Failed}
use Rattle.mdb_log.specs.declared.step.FailedAt.{FailedAt}
use Rattle.mdb_log.specs.declared.step.FailedAt.TheVariants.{Pre, Post}
use Rattle.mdb_log.specs.declared.reply.Reply.TheVariants.{Done}
use Rattle.mdb_log.specs.History.{Item, did, PoolItem, failed, service_in, of_pool, after_facts, with_facts}
use Rattle.mdb_log.specs.Requests.{names_party, was_asked, leaves}
use Rattle.mdb_log.specs.Limits.{WithinLimits}
use Rattle.mdb_log.specs.Legal.{AllFirstCome}
use Rattle.mdb_log.specs.Own.{AllOwn, shuts}
use Rattle.mdb_log.specs.Fresh.{AllGrantFresh}
use Rattle.mdb_log.proofs.Numbers.{same-number}
use Rattle.mdb_log.proofs.Later.{of_pool-with_facts}
use Rattle.mdb_log.proofs.Frame.{party-facts, asked-facts, acts-facts, open-facts, told-facts, claimed-facts, other-facts, other-number}
use Rattle.mdb_pool.specs.Core.{PoolCore}
use Rattle.mdb_pool.specs.Now.{claimed_now, is_closed_now, settled_now}
use Rattle.mdb_pool_rules.specs.Serving.{IsServed}
use Rattle.mdb_pool_rules.specs.Quiet.{IsQuiet}
use Rattle.mdb_pool.specs.Standing.{Fits, SameHome}
use Rattle.mdb_driver_pools.specs.Standing.{PoolFits, PoolsStand}
use Rattle.mdb_driver_pools.proofs.OnePool.FactsLeaveOthers.{homes-facts, apart-items, fair-facts, fresh-facts}
use Rattle.mdb_driver_pools.proofs.OnePool.DriversOwnAct.{Acted}
use Rattle.mdb_driver_pools.proofs.OnePool.OthersStay.{Moved, moved}

-- the pool goes from s to u by the facts, where it knows ws with the failure; what was told and claimed stays
pub record Fails (s u : PoolCore) (m : ℕ) (fs : List Fact) (ws : List PoolItem) : Type 0 where
  pub same : SameHome s u
  pub fits : Fits u (after_facts s.pool m fs ws)
  pub fair : AllFirstCome s.pool m ws fs
  pub own : AllOwn s.pool m ws fs
  pub fresh : AllGrantFresh s.pool s.options m ws fs
  pub served : IsServed s.options (after_facts s.pool m fs ws)
  pub quiet : IsQuiet s.options (after_facts s.pool m fs ws)
  pub within : WithinLimits s.options (after_facts s.pool m fs ws)
  pub shut : is_closed_now u ≡ shuts fs || is_closed_now s
  pub settled : (r : ℕ) → settled_now u r ≡ settled_now s r
  pub claimed : (c : ℕ) → claimed_now u c ≡ claimed_now s c

-- the step of a failure
abbrev pub failing : ℕ → ℕ → ℕ → FailedAt → Error → Step
failing m p c at error = record { moment = m; act = Failed p c at error }

-- its item is of the pool alone
pub failed-here : (m p c : ℕ) (at : FailedAt) (error : Error) (h : List Item) → of_pool p (did (failing m p c at error) Done ∷ h) ≡ failed c (service_in at) ∷ of_pool p h
failed-here m p c Pre error h = rw (same-number p) refl
failed-here m p c (Post service) error h = rw (same-number p) refl

pub failed-there : (m p c : ℕ) (at : FailedAt) (error : Error) (h : List Item) (q : ℕ) → p ≢ q → of_pool q (did (failing m p c at error) Done ∷ h) ≡ of_pool q h
failed-there m p c Pre error h q ne = rw (other-number p q ne) refl
failed-there m p c (Post service) error h q ne = rw (other-number p q ne) refl

module _ (o : PoolOptions) (pools : List PoolCore) (h : List Item) (z : PoolsStand o pools h) (i : ℕ) (s u : PoolCore) (at_i : slice_get pools i ≡ Some s)
    (m c : ℕ) (at : FailedAt) (error : Error) (fs : List Fact) (v : Fails s u m fs (failed c (service_in at) ∷ of_pool s.pool h)) where
  abbrev d : PoolFits o h i s
  d = z.fit.each i s at_i

  -- what the pool knows with the failure, and the history with it
  abbrev ws : List PoolItem
  ws = failed c (service_in at) ∷ of_pool s.pool h

  abbrev pub begun-with : List Item
  begun-with = did (failing m s.pool c at error) Done ∷ h

  abbrev k : List Item
  k = with_facts m fs begun-with

  mine : of_pool s.pool begun-with ≡ ws
  mine = failed-here m s.pool c at error h

  here : of_pool s.pool k ≡ after_facts s.pool m fs ws
  here = of_pool-with_facts s.pool m fs begun-with ∙ ap (after_facts s.pool m fs) mine

  there : (q : ℕ) → s.pool ≢ q → of_pool q k ≡ of_pool q h
  there q ne =
      of_pool-with_facts q m fs begun-with
      ∙ (ap (after_facts q m fs) (failed-there m s.pool c at error h q ne)
      ∙ other-facts s.pool q m ne fs ws (of_pool q h) (λ r e. apart-items o pools h z.fit s.pool q ne r e) v.own)

  moves : Moved pools h s u k (after_facts s.pool m fs ws) (λ r. false) (λ r. false) (λ r. false) (shuts fs)
  moves = record {
    same = v.same;
    fits = v.fits;
    here = here;
    there = there;
    homes_k = homes-facts s.pool m fs ws begun-with v.own;
    open_k = λ a. open-facts s.pool m fs ws begun-with a v.own;
    status = v.shut;
    names = λ r. acts-facts names_party m r fs begun-with;
    requested = λ r. acts-facts was_asked m r fs begun-with;
    parties = λ r. party-facts s.pool m r fs ws;
    asks = λ r. asked-facts s.pool m r fs ws;
    fresh = λ r e. cc;
    opens = λ b e r. rw (told-facts m r fs begun-with, acts-facts leaves m r fs begun-with) (e r);
    settles = v.settled;
    known = λ r e. cc;
    claims = λ c e. claimed-facts s.pool m c fs begun-with ∙ (e ∙ sym (v.claimed c));
    unclaimed = λ q c ne. claimed-facts q m c fs begun-with;
  }

  -- what holds of the pool afterwards and of the others holds of each
  each : (P : List PoolItem → Type 0) → P (after_facts s.pool m fs ws) → ((q : ℕ) → P (of_pool q h)) → (q : ℕ) → P (of_pool q k)
  each P now old q = on (s.pool == q) refl
    where
      on : (b : Bool) → (s.pool == q) ≡ b → P (of_pool q k)
      on true e = let f : s.pool ≡ q = grind arith in subst P (sym here ∙ ap (λ p. of_pool p k) f) now
      on false e = let f : s.pool ≢ q = grind arith in subst P (sym (there q f)) (old q)

  fair-then : AllFirstCome s.pool m (of_pool s.pool begun-with) fs
  fair-then = subst (λ ys. AllFirstCome s.pool m ys fs) (sym mine) v.fair

  pub failed-acted : Acted o (set pools i u) m fs begun-with
  failed-acted = record {
    stand = record {
      fit = moved o pools h z.fit i s u at_i k (after_facts s.pool m fs ws) (λ r. false) (λ r. false) (λ r. false) (shuts fs) moves;
      served = each (IsServed o) (subst (λ x. IsServed x (after_facts s.pool m fs ws)) d.options v.served) z.served;
      quiet = each (IsQuiet o) (subst (λ x. IsQuiet x (after_facts s.pool m fs ws)) d.options v.quiet) z.quiet;
      within = each (WithinLimits o) (subst (λ x. WithinLimits x (after_facts s.pool m fs ws)) d.options v.within) z.within;
    };
    fair = fair-facts s.pool m fs begun-with fair-then;
    fresh = fresh-facts s.pool o m fs begun-with fair-then
        (subst (λ ys. AllGrantFresh s.pool o m ys fs) (sym mine) (subst (λ x. AllGrantFresh s.pool x m ws fs) d.options v.fresh));
  }
