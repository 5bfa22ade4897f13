-- What a mark as ready does is the answer to its step.
use Rattle.std.proofs.Common.{ℕ, ◌≡◌, ◌||◌, List, [], ◌∷◌, ◌++◌, refl, ◌∙◌, ap, if◌then◌else◌}
use Rattle.mdb_events.specs.declared.fact.Fact.{Fact}
use Rattle.mdb_log.specs.declared.step.Act.TheVariants.{Ready as ReadyAct}
use Rattle.mdb_log.specs.declared.reply.Reply.TheVariants.{Done}
use Rattle.mdb_pool.specs.declared.kept.status.Status.{Status}
use Rattle.mdb_pool.specs.declared.kept.status.Status.TheVariants.{New, Ready, Paused, Closed}
use Rattle.mdb_pool.specs.Core.{PoolCore}
use Rattle.mdb_log.specs.History.{PoolItem, after_facts}
use Rattle.mdb_log.specs.Connections.{has}
use Rattle.mdb_pool_rules.specs.Facts.{readied, pool_ready_fact}
use Rattle.mdb_log.specs.State.{state_of}
use Rattle.mdb_pool.specs.Kept.Values.{state_in, is_shut, is_ready_now}
use Rattle.mdb_pool.specs.Acts.Changes.{readied_to, readied_facts}
use Rattle.mdb_log.specs.Legal.{AllFirstCome}
use Rattle.mdb_log.specs.Own.{AllOwn, shuts}
use Rattle.mdb_pool.specs.Standing.{Fits, Accepts, SameHome}
use Rattle.mdb_pool.specs.Acts.Doing.{Serves, SameNotes}
use Rattle.mdb_pool.proofs.Answered.Act.{accepts}
use Rattle.mdb_log.proofs.Numbers.{same-number}
use Rattle.mdb_pool.proofs.Follows.Fits.{later-fits, ready-fits}
use Rattle.mdb_pool.proofs.SameAnswers.StaysHome.{stays-home}

module _ (s : PoolCore) (xs : List PoolItem) (z : Fits s xs) (n : ℕ) where
  abbrev ready_event : Fact
  ready_event = pool_ready_fact s.pool s.address

  -- what the mark says of a pool that is so
  abbrev says : Status → List Fact
  says t = if is_ready_now t || is_shut t then [] else (ready_event ∷ [])

  abbrev leads : Status → Status
  leads t = if is_ready_now t || is_shut t then t else Ready

  ready-are : (t : Status) → state_of s.options xs ≡ state_in t → readied s.pool s.address s.options n xs ≡ says t
  ready-are New e = rw e refl
  ready-are Ready e = rw e refl
  ready-are (Paused error) e = rw e refl
  ready-are Closed e = rw e refl

  becomes-ready : Fits (record s { kept = record s.kept { last = n; status = Ready } }) (after_facts s.pool n (ready_event ∷ []) xs)
  becomes-ready = rw (same-number s.pool) (ready-fits (record s { kept = record s.kept { last = n } }) xs (later-fits s xs z n) n)

  ready-fits-for : (t : Status) → s.kept.status ≡ t → Fits (record s { kept = record s.kept { last = n; status = leads t } }) (after_facts s.pool n (says t) xs)
  ready-fits-for New e = becomes-ready
  ready-fits-for Ready e = rw (← e) (later-fits s xs z n)
  ready-fits-for (Paused error) e = becomes-ready
  ready-fits-for Closed e = rw (← e) (later-fits s xs z n)

  leads-open : (t : Status) → is_shut (leads t) ≡ shuts (says t) || is_shut t
  leads-open New = refl
  leads-open Ready = refl
  leads-open (Paused error) = refl
  leads-open Closed = refl

  says-fair : (t : Status) → AllFirstCome s.pool n xs (says t)
  says-fair New = (tt, tt)
  says-fair Ready = tt
  says-fair (Paused error) = (tt, tt)
  says-fair Closed = tt

  says-own : (t : Status) → AllOwn s.pool n xs (says t)
  says-own New = (refl, tt)
  says-own Ready = tt
  says-own (Paused error) = (refl, tt)
  says-own Closed = tt

pub ready-accepts : (s s1 t : PoolCore) (before f1 after : List Fact) (n p : ℕ) (xs : List PoolItem) → Fits s xs → s1 ≡ readied_to s n → f1 ≡ before ++ readied_facts s → SameHome s1 t → SameNotes s1 t
    → ((k : List PoolItem) → Fits s1 k → Serves s1 t n f1 after k)
    → Accepts s t before after n (ReadyAct p) Done xs xs
ready-accepts s s1 t before f1 after n p xs z s1_is f1_is home notes serves =
    accepts s s1 t t before f1 after n (ReadyAct p) Done (readied_facts s) xs xs
    (ready-are s xs z n s.kept.status z.matches.clearing.status)
    f1_is (rw s1_is (stays-home refl refl refl refl)) (rw s1_is (ready-fits-for s xs z n s.kept.status refl)) serves
    (λ zs v. v)
    (λ claims own zs m. refl)
    tt
    (ap is_shut (notes.status ∙ ap (λ k. k.kept.status) s1_is) ∙ leads-open s xs z n s.kept.status)
    (λ r. ap (has r) (notes.settled ∙ ap (λ k. k.kept.settled) s1_is))
    (λ c. ap (has c) (notes.claimed ∙ ap (λ k. k.kept.claimed) s1_is))
    (says-fair s xs z n s.kept.status)
    (says-own s xs z n s.kept.status)
