-- What a question for the outcome does is the answer to its step.
use Rattle.std.proofs.Common.{ℕ, ◌≡◌, ◌&&◌, ◌||◌, ◌==◌, List, [], refl, sym, ◌∙◌, ap, append-nil}
use Rattle.mdb_events.specs.declared.fact.Fact.{Fact}
use Rattle.mdb_log.specs.declared.step.Act.TheVariants.{Collect}
use Rattle.mdb_log.specs.declared.reply.Reply.{Reply}
use Rattle.mdb_pool.specs.Core.{PoolCore}
use Rattle.mdb_pool.proofs.Answered.Act.{outcome-is, outcome-accepted, outcome-no-job, accepts}
use Rattle.std.proofs.Math.Bool.{or-false}
use Rattle.mdb_pool.proofs.Answered.Request.{telling-settled, telling-fits}
use Rattle.mdb_pool.proofs.Follows.Fits.{noted-fits}
use Rattle.mdb_pool.specs.Acts.Changes.{telling}
use Rattle.mdb_log.specs.Connections.{has}
use Rattle.mdb_log.specs.History.{PoolItem}
use Rattle.mdb_pool.specs.Kept.Values.{outcome_now, is_shut}
use Rattle.mdb_log.specs.Requests.{outcome_of, is_outcome}
use Rattle.mdb_pool.specs.Standing.{Fits, SameHome, Accepts}
use Rattle.mdb_pool.specs.Acts.Doing.{SameNotes, Serves}
use Rattle.mdb_pool.proofs.SameAnswers.StaysHome.{stays-home}

-- an open request
pub collect-accepts : (s s1 t u : PoolCore) (before after : List Fact) (n r : ℕ) (reply : Reply) (xs : List PoolItem) → Fits s xs
    → s1 ≡ record s { kept = record s.kept { last = n } } → SameHome s1 t → SameNotes s1 t
    → ((k : List PoolItem) → Fits s1 k → Serves s1 t n before after k) → u ≡ telling t r → reply ≡ outcome_now t r
    → Accepts s u before after n (Collect r) reply xs xs
collect-accepts s s1 t u before after n r reply xs z s1_is home notes serves u_is reply_is =
    let at_home : SameHome s s1 = rw s1_is (stays-home refl refl refl refl) in
    accepts s s1 t u before before after n (Collect r) reply [] xs xs
    refl
    (sym (append-nil before)) at_home (rw s1_is (noted-fits s s.kept.settled s.kept.claimed n xs z)) serves
    (λ zs v. rw u_is (telling-fits t r zs v))
    (λ claims own zs m. reply_is ∙ (sym (outcome-is t zs m r) ∙ ap (λ p. outcome_of p zs r) (home.pool ∙ at_home.pool)))
    (rw reply_is (outcome-accepted t r))
    (ap (λ k. is_shut k.kept.status) u_is ∙ ap is_shut (notes.status ∙ ap (λ k. k.kept.status) s1_is))
    (λ k. rw (u_is, reply_is) (telling-settled t r k ∙ rw (or-false ((r == k) && is_outcome (outcome_now t r))) (ap (λ b. ((r == k) && is_outcome (outcome_now t r)) || has k b) (notes.settled ∙ ap (λ x. x.kept.settled) s1_is))))
    (λ c. rw (u_is, reply_is, outcome-no-job t r s.pool c) (ap (has c) (notes.claimed ∙ ap (λ x. x.kept.claimed) s1_is)))
    tt
    tt
