-- What a warm request does is the answer to its step.
use Rattle.std.proofs.Common.{ℕ, ◌≡◌, true, false, ◌||◌, ◌==◌, List, ◌∷◌, ◌++◌, Some, None, refl, sym, ◌∙◌, ap, ◌&&◌, Option}
use Rattle.mdb_events.specs.declared.fact.Fact.{Fact}
use Rattle.mdb_events.specs.declared.end.End.{End}
use Rattle.mdb_pool.specs.declared.kept.request.Request.{Request}
use Rattle.mdb_pool.specs.declared.kept.request.Phase.TheVariants.{Queued}
use Rattle.mdb_pool.specs.declared.kept.status.Status.{Status}
use Rattle.mdb_pool.specs.declared.kept.status.Status.TheVariants.{New, Ready, Paused, Closed}
use Rattle.mdb_log.specs.declared.step.Act.TheVariants.{Warm as WarmAct}
use Rattle.mdb_log.specs.declared.reply.Reply.{Reply}
use Rattle.mdb_pool.specs.Core.{PoolCore}
use Rattle.mdb_log.specs.History.{PoolItem, warmed, after_facts}
use Rattle.mdb_log.specs.Requests.{outcome_of, is_outcome}
use Rattle.mdb_pool.specs.Standing.{Fits, Accepts, SameHome}
use Rattle.mdb_pool.specs.Acts.Doing.{Serves, SameNotes}
use Rattle.mdb_pool.specs.Kept.Values.{request_at, outcome_now, state_in, is_shut}
use Rattle.mdb_pool.specs.Acts.Changes.{asking, telling, away_end, away_facts, away}
use Rattle.mdb_pool.proofs.Answered.Act.{accepts, outcome-is, outcome-accepted, outcome-no-job}
use Rattle.mdb_log.proofs.Numbers.{same-number}
use Rattle.mdb_pool.proofs.Follows.Fits.{warm-fits, end-fits}
use Rattle.mdb_log.specs.Connections.{has}
use Rattle.mdb_pool_rules.specs.Facts.{turned_away}
use Rattle.mdb_log.specs.State.{state_of}
use Rattle.mdb_log.specs.Legal.{AllFirstCome}
use Rattle.mdb_log.specs.Own.{shuts, AllOwn}
use Rattle.mdb_pool_rules.proofs.Listed.Values.{entry_at-put}
use Rattle.std.proofs.Math.Bool.{or-false}
use Rattle.mdb_pool.proofs.Answered.Request.{telling-settled, telling-fits}
use Rattle.mdb_pool.proofs.SameAnswers.StaysHome.{stays-home}

-- a warm request that is new, and ends at once where the pool isn't ready
module _ (s : PoolCore) (xs : List PoolItem) (z : Fits s xs) (n r : ℕ) (absent : request_at s r ≡ None) where
  abbrev ys : List PoolItem
  ys = warmed r n ∷ xs

  abbrev new_q : Request
  new_q = record { number = r; asked_at = n; warm = true; took = false; phase = Queued }

  abbrev away_now : Option End
  away_now = away_end s.kept.status

  away-are : (t : Status) → state_of s.options xs ≡ state_in t → turned_away s.pool s.address s.options n ys r ≡ away_facts s r true (away_end t)
  away-are New e = rw (e, same-number r) refl
  away-are Ready e = rw e refl
  away-are (Paused error) e = rw (e, same-number r) refl
  away-are Closed e = rw e refl

  there : request_at (asking s r n true) r ≡ Some new_q
  there = entry_at-put (λ (q : Request). q.number) r new_q s.kept.requests ∙ rw (same-number r) refl

  away-fits : (o : Option End) → Fits (away (asking s r n true) r n true o) (after_facts s.pool n (away_facts s r true o) ys)
  away-fits None = warm-fits s xs z n r absent
  away-fits (Some end) = rw (same-number r) (end-fits (asking s r n true) ys (warm-fits s xs z n r absent) n new_q end there refl)

  away-home : (o : Option End) → SameHome s (away (asking s r n true) r n true o)
  away-home None = stays-home refl refl refl refl
  away-home (Some end) = stays-home refl refl refl refl

  away-notes : (o : Option End) → SameNotes s (away (asking s r n true) r n true o)
  away-notes None = record { settled = refl; claimed = refl; status = refl }
  away-notes (Some end) = record { settled = refl; claimed = refl; status = refl }

  away-same : (o : Option End) → away_facts (asking s r n true) r true o ≡ away_facts s r true o
  away-same None = refl
  away-same (Some end) = refl

  away-open : (o : Option End) → shuts (away_facts s r true o) ≡ false
  away-open None = refl
  away-open (Some end) = refl

  away-fair : (o : Option End) → AllFirstCome s.pool n ys (away_facts s r true o)
  away-fair None = tt
  away-fair (Some end) = (tt, tt)

  away-own : (o : Option End) → AllOwn s.pool n ys (away_facts s r true o)
  away-own None = tt
  away-own (Some end) = (rw (same-number r) refl, tt)

pub warm-accepts : (s s0 s1 t u : PoolCore) (before f1 after : List Fact) (n r : ℕ) (reply : Reply) (xs : List PoolItem) → Fits s xs
    → request_at s r ≡ None → s0 ≡ asking s r n true → s1 ≡ away s0 r n true (away_end s0.kept.status) → f1 ≡ before ++ away_facts s0 r true (away_end s0.kept.status) → SameHome s1 t → SameNotes s1 t
    → ((k : List PoolItem) → Fits s1 k → Serves s1 t n f1 after k) → u ≡ telling t r → reply ≡ outcome_now t r
    → Accepts s u before after n (WarmAct r s.address) reply xs (warmed r n ∷ xs)
warm-accepts s s0 s1 t u before f1 after n r reply xs z absent s0_is s1_is f1_is home notes serves u_is reply_is =
    let o : Option End = away_end s.kept.status in
    let whole : s1 ≡ away (asking s r n true) r n true o = s1_is ∙ ap (λ k. away k r n true (away_end k.kept.status)) s0_is in
    let told : f1 ≡ before ++ away_facts s r true o =
    f1_is ∙ (ap (λ k. before ++ away_facts k r true (away_end k.kept.status)) s0_is ∙ ap (λ f. before ++ f) (away-same s xs z n r absent o)) in
    let at_home : SameHome s s1 = rw whole (away-home s xs z n r absent o) in
    let state : t.kept.status ≡ s.kept.status = notes.status ∙ (ap (λ k. k.kept.status) whole ∙ (away-notes s xs z n r absent o).status) in
    accepts s s1 t u before f1 after n (WarmAct r s.address) reply (away_facts s r true o) xs (warmed r n ∷ xs)
    (away-are s xs z n r absent s.kept.status z.matches.clearing.status)
    told at_home (rw whole (away-fits s xs z n r absent o)) serves
    (λ zs v. rw u_is (telling-fits t r zs v))
    (λ claims own zs m. reply_is ∙ (sym (outcome-is t zs m r) ∙ ap (λ p. outcome_of p zs r) (home.pool ∙ at_home.pool)))
    (rw reply_is (outcome-accepted t r))
    (ap (λ k. is_shut k.kept.status) u_is ∙ (ap is_shut state ∙ ap (λ b. b || is_shut s.kept.status) (sym (away-open s xs z n r absent o))))
    (λ k. rw (u_is, reply_is) (telling-settled t r k ∙ rw (or-false ((r == k) && is_outcome (outcome_now t r))) (ap (λ b. ((r == k) && is_outcome (outcome_now t r)) || has k b) (notes.settled ∙ (ap (λ x. x.kept.settled) whole ∙ (away-notes s xs z n r absent o).settled)))))
    (λ c. rw (u_is, reply_is, outcome-no-job t r s.pool c) (ap (has c) (notes.claimed ∙ (ap (λ x. x.kept.claimed) whole ∙ (away-notes s xs z n r absent o).claimed))))
    (away-fair s xs z n r absent o)
    (away-own s xs z n r absent o)
