-- What a claim does is the answer to its step.
use Rattle.std.proofs.Common.{ℕ, ◌≡◌, Bool, true, false, not, ◌&&◌, ◌||◌, ◌==◌, List, [], ◌∷◌, find, Option, Some, None, refl, sym, ◌∙◌, ap, append-nil}
use Rattle.mdb_events.specs.declared.fact.Fact.{Fact}
use Rattle.mdb_log.specs.declared.step.Act.TheVariants.{Claim}
use Rattle.mdb_log.specs.declared.reply.Reply.{Reply}
use Rattle.mdb_log.specs.declared.reply.Reply.TheVariants.{Job, NoJob}
use Rattle.mdb_pool.specs.declared.kept.connection.Connection.{Connection}
use Rattle.mdb_pool.specs.Core.{PoolCore}
use Rattle.mdb_pool.proofs.Answered.Act.{accepts}
use Rattle.std.proofs.Math.Bool.{or_comm}
use Rattle.mdb_pool.proofs.Listed.Noted.{has-marked}
use Rattle.mdb_log.proofs.Numbers.{same-number}
use Rattle.mdb_pool.proofs.Follows.Fits.{noted-fits}
use Rattle.mdb_pool_rules.specs.Answer.{first_job}
use Rattle.mdb_pool.specs.Acts.Changes.{claiming}
use Rattle.mdb_log.specs.Connections.{has}
use Rattle.mdb_log.specs.History.{PoolItem}
use Rattle.mdb_pool.specs.Kept.Values.{first_unclaimed, job_now, ids_where, is_shut}
use Rattle.mdb_log.specs.Own.{IsAccepted}
use Rattle.mdb_pool.specs.Kept.Places.{is_pending}
use Rattle.mdb_pool.specs.Standing.{Fits, SameHome, Accepts}
use Rattle.mdb_pool.specs.Acts.Doing.{SameNotes, Serves}
use Rattle.mdb_log.specs.Requests.{settles, is_job}
use Rattle.mdb_pool.proofs.SameAnswers.StaysHome.{stays-home}

abbrev pub job_of : ℕ → Option Connection → Reply
job_of p None = NoJob
job_of p (Some x) = Job p x.id

pub first-job : (p : ℕ) (claimed : ℕ → Bool) (cs : List ℕ) → ((c : ℕ) → claimed c ≡ has c cs) → (ys : List Connection) → first_job p claimed (ids_where is_pending ys) ≡ job_of p (find (λ y. is_pending y.place && not (has y.id cs)) ys)
first-job p claimed cs own [] = refl
first-job p claimed cs own (y ∷ ys) = on (is_pending y.place) (has y.id cs) refl refl (first-job p claimed cs own ys)
  where
    on : (b k : Bool) → is_pending y.place ≡ b → has y.id cs ≡ k → first_job p claimed (ids_where is_pending ys) ≡ job_of p (find (λ x. is_pending x.place && not (has x.id cs)) ys) → first_job p claimed (ids_where is_pending (y ∷ ys)) ≡ job_of p (find (λ x. is_pending x.place && not (has x.id cs)) (y ∷ ys))
    on true true e f rest = rw (e, own y.id, f) rest
    on true false e f rest = rw (e, own y.id, f) refl
    on false k e f rest = rw e rest

pub job-is : (s : PoolCore) → job_now s ≡ job_of s.pool (first_unclaimed s)
job-is s = on (first_unclaimed s) refl
  where
    on : (o : Option Connection) → first_unclaimed s ≡ o → job_now s ≡ job_of s.pool (first_unclaimed s)
    on None e = rw e refl
    on (Some x) e = rw e refl

claiming-has : (s : PoolCore) (c : ℕ) → has c (claiming s).kept.claimed ≡ is_job s.pool (job_now s) c || has c s.kept.claimed
claiming-has s c = on (first_unclaimed s) refl
  where
    on : (o : Option Connection) → first_unclaimed s ≡ o → has c (claiming s).kept.claimed ≡ is_job s.pool (job_now s) c || has c s.kept.claimed
    on None e = rw e refl
    on (Some x) e = rw (e, same-number s.pool) (has-marked c x.id s.kept.claimed ∙ or_comm (has c s.kept.claimed) (x.id == c))

job-accepted : (s : PoolCore) → IsAccepted (job_now s)
job-accepted s = on (first_unclaimed s) refl
  where
    on : (o : Option Connection) → first_unclaimed s ≡ o → IsAccepted (job_now s)
    on None e = rw e tt
    on (Some x) e = rw e tt

job-no-outcome : (s : PoolCore) (r : ℕ) → settles Claim (job_now s) r ≡ false
job-no-outcome s r = refl

pub claim-accepts : (s s0 s1 t : PoolCore) (before after : List Fact) (n : ℕ) (reply : Reply) (xs : List PoolItem) → Fits s xs
    → s0 ≡ claiming s → s1 ≡ record s0 { kept = record s0.kept { last = n } } → SameHome s1 t → SameNotes s1 t
    → ((k : List PoolItem) → Fits s1 k → Serves s1 t n before after k) → reply ≡ job_now s
    → Accepts s t before after n Claim reply xs xs
claim-accepts s s0 s1 t before after n reply xs z s0_is s1_is home notes serves reply_is =
    let whole : s1 ≡ record (claiming s) { kept = record (claiming s).kept { last = n } } = s1_is ∙ ap {A = PoolCore} (λ k. record k { kept = record k.kept { last = n } }) s0_is in
    let at_home : SameHome s s1 = rw whole (stays-home refl refl refl refl) in
    accepts s s1 t t before before after n Claim reply [] xs xs
    refl
    (sym (append-nil before)) at_home (rw whole (noted-fits s s.kept.settled (claiming s).kept.claimed n xs z)) serves
    (λ zs v. v)
    (λ claims own zs m. reply_is ∙ (job-is s ∙ sym (ap (first_job s.pool claims) z.matches.counts.pending ∙ first-job s.pool claims s.kept.claimed own s.kept.connections)))
    (rw reply_is (job-accepted s))
    (ap is_shut (notes.status ∙ ap (λ k. k.kept.status) whole))
    (λ r. ap (has r) (notes.settled ∙ ap (λ k. k.kept.settled) whole))
    (λ c. ap (has c) (notes.claimed ∙ ap (λ k. k.kept.claimed) whole) ∙ rw reply_is (claiming-has s c))
    tt
    tt
