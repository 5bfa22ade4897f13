-- What the jobs of a worker add up to.
use Rattle.std.proofs.Common.{◌≡◌, ℕ, ◌+◌, List, [], ◌∷◌, ◌++◌, length, length-append, append_assoc, append-nil, ap, sym, subst, ◌∙◌, refl, Option, Some, None, Result, Ok, Err, IsErrAnd}
use Rattle.mdb_log.specs.Acts.{IsDriverAct}
use Rattle.mdb_log.specs.Driver.{StartsWith}
use Rattle.mdb_log.specs.declared.job.Job.{Job}
use Rattle.mdb_log.specs.declared.log.Entry.{Entry}
use Rattle.mdb_log.specs.declared.step.Act.{Act}
use Rattle.mdb_log.specs.declared.step.Established.{Established}
use Rattle.mdb_log.specs.declared.step.Step.{Step}
use Rattle.mdb_log.specs.declared.step.Act.TheVariants.{Claim}
use Rattle.mdb_log.specs.declared.reply.Reply.TheVariants.{Job as TellsJob, NoJob}
use Rattle.mdb_log.specs.declared.reply.Reply.{Reply}
use Rattle.mdb_shared.specs.Claims.{claiming, claimed_by, Holds}
use Rattle.mdb_shared.specs.declared.claiming.Claimed.{Claimed as MayClaim}
use Rattle.mdb_shared.specs.declared.claiming.Claimed.TheVariants.{Job as JobClaimed, Unread, NoJob as NoneClaimed}
use Rattle.mdb_turns.specs.Stepping.{SeatView, Stepped}
use Rattle.mdb_shared.specs.Seats.{FoundBusy}
use Rattle.mdb_workers.specs.declared.establishing.Call.{Call}
use Rattle.mdb_workers.specs.declared.establishing.EstablishError.{EstablishError}
use Rattle.mdb_workers.specs.declared.establishing.EstablishError.TheVariants.{Refused, OutOfMemory}
use Rattle.mdb_workers.specs.Establishing.{call, calls_after, Reports}
use Rattle.mdb_workers.specs.Making.{Made}
use Rattle.mdb_workers.specs.Working.{CalledOnce, Reported, Kept, LeftOver, Claims, ClaimsJob, JobDone, JobsDone, Worked}
use Rattle.mdb_workers.specs.declared.ends.Work.{Work}
use Rattle.mdb_workers.specs.declared.ends.Work.TheVariants.{Idle, Spent}
use Rattle.mdb_workers.specs.declared.ends.WorkError.{WorkError}
use Rattle.mdb_workers.specs.declared.ends.WorkError.TheVariants.{OutOfMemory as NoMemory}
use Rattle.mdb_workers.proofs.Adding.{made_none, made_then, made_seen, made_entry, made_step, starts_then}

-- ---- one call

pub called : (pool id : ℕ) (job : Job) (old new : List Call) (answer : Result Established EstablishError) (act : Act) → new ≡ calls_after old job answer → Reports pool id answer act → CalledOnce pool id job old new act
called pool id job old new (Ok made) act is says = (call job (Ok made), refl, is, says)
called pool id job old new (Err (Refused after_hello service error)) act is says = (call job (Err (Refused after_hello service error)), refl, is, says)
called pool id job old new (Err OutOfMemory) act is says = absurd says

pub reports_act : (pool id : ℕ) (answer : Result Established EstablishError) (act : Act) → Reports pool id answer act → IsDriverAct act
reports_act pool id (Ok made) act says = subst IsDriverAct (sym says) tt
reports_act pool id (Err (Refused after_hello service error)) act says = subst IsDriverAct (sym says) tt
reports_act pool id (Err OutOfMemory) act says = absurd says

-- ---- many jobs

module _ {T : Type 0} (stands : T → List Entry → Type 0) (job_of : List Entry → ℕ → ℕ → Option Job) where
  pub claims_later : (seen more : List Entry) (pool id : ℕ) (job : Job) (claim : Entry) → StartsWith more seen → ClaimsJob job_of seen pool id job claim → ClaimsJob job_of more pool id job claim
  claims_later seen more pool id job claim grown h = (h.0, (h.1.0, starts_then (h.1.0 ++ claim ∷ []) seen more h.1.1 grown, h.1.2))

  done_later : (seen more : List Entry) (claim report : Entry) (c : Call) → StartsWith more seen → JobDone job_of seen claim report c → JobDone job_of more claim report c
  done_later seen more claim report c grown d = (d.0, d.1, claims_later seen more d.0 d.1 c.job claim grown d.2, d.3)

  jobs_later : (seen more es : List Entry) (calls : List Call) → StartsWith more seen → JobsDone job_of seen es calls → JobsDone job_of more es calls
  jobs_later seen more [] [] grown h = tt
  jobs_later seen more [] (c ∷ calls) grown h = absurd h
  jobs_later seen more (x ∷ []) calls grown h = absurd h
  jobs_later seen more (x ∷ y ∷ es) [] grown h = absurd h
  jobs_later seen more (x ∷ y ∷ es) (c ∷ calls) grown h = (done_later seen more x y c grown h.0, jobs_later seen more es calls grown h.1)

  jobs_more : (seen es : List Entry) (calls : List Call) (claim report : Entry) (c : Call) → JobsDone job_of seen es calls → JobDone job_of seen claim report c → JobsDone job_of seen (es ++ claim ∷ report ∷ []) (calls ++ c ∷ [])
  jobs_more seen [] [] claim report c h d = (d, tt)
  jobs_more seen [] (k ∷ calls) claim report c h d = absurd h
  jobs_more seen (x ∷ []) calls claim report c h d = absurd h
  jobs_more seen (x ∷ y ∷ es) [] claim report c h d = absurd h
  jobs_more seen (x ∷ y ∷ es) (k ∷ calls) claim report c h d = (h.0, jobs_more seen es calls claim report c h.1 d)

  -- what was done so far
  abbrev pub SoDone : ℕ → SeatView → SeatView → List Call → List Call → Type 0
  SoDone count s s' old new = (es : List Entry) × (calls : List Call) × Made stands s s' es × JobsDone job_of s'.seen es calls × (new ≡ old ++ calls) × (length calls ≡ count)

  pub done_none : (s : SeatView) (old : List Call) → SoDone 0 s s old old
  done_none s old = ([], [], made_none stands s, tt, sym (append-nil old), refl)

  -- the claim of a job, with its entry
  abbrev pub Claimed : ℕ → ℕ → Job → SeatView → SeatView → Type 0
  Claimed pool id job s s' = (e : Entry) × Made stands s s' (e ∷ []) × ClaimsJob job_of s'.seen pool id job e

  pub done_more : (count : ℕ) (s t u v : SeatView) (old now new : List Call) (pool id : ℕ) (job : Job) → SoDone count s t old now → Claimed pool id job t u → Reported stands pool id job u v now new → SoDone (count + 1) s v old new
  done_more count s t u v old now new pool id job so cl re =
      let e = cl.0 in let r = re.0 in let c = re.2.0 in
      let grown : StartsWith v.seen u.seen = made_seen stands 0 u v (r ∷ []) re.1 in
      let grown_all : StartsWith v.seen t.seen = starts_then t.seen u.seen v.seen (made_seen stands 0 t u (e ∷ []) cl.1) grown in
      let job_is : c.job ≡ job = re.2.1 in
      let claims : ClaimsJob job_of u.seen pool id c.job e = subst (λ (j : Job). ClaimsJob job_of u.seen pool id j e) (sym job_is) cl.2 in (
        so.0 ++ e ∷ r ∷ [],
        so.1 ++ c ∷ [],
        made_then stands s t v so.0 (e ∷ r ∷ []) so.2 (made_then stands t u v (e ∷ []) (r ∷ []) cl.1 re.1),
        jobs_more v.seen so.0 so.1 e r c (jobs_later t.seen v.seen so.0 so.1 grown_all so.3) (done_later u.seen v.seen e r c grown (pool, id, claims, re.2.3)),
        re.2.2 ∙ (ap (λ (l : List Call). l ++ c ∷ []) so.4 ∙ append_assoc old so.1 (c ∷ [])),
        length-append so.1 (c ∷ []) ∙ ap (λ (k : ℕ). k + 1) so.5,
      )

  -- ---- how a worker ends

  module _ (budget count : ℕ) (s t u : SeatView) (old now : List Call) (so : SoDone count s t old now) where
    -- no job was claimed
    pub ends_idle : (e : Entry) → Made stands t u (e ∷ []) → e.step.act ≡ Claim → e.reply ≡ NoJob → Worked job_of stands budget s u old now (Ok Idle)
    ends_idle e m act reply = (so.0, so.1, e, made_then stands s t u so.0 (e ∷ []) so.2 m, jobs_later t.seen u.seen so.0 so.1 (made_seen stands 0 t u (e ∷ []) m) so.3, so.4, act, reply)

    -- there was no memory for a claim
    pub ends_unclaimed : Made stands t u [] → Worked job_of stands budget s u old now (Err (NoMemory None None))
    ends_unclaimed m = (so.0, so.1, subst (Made stands s u) (append-nil so.0) (made_then stands s t u so.0 [] so.2 m), jobs_later t.seen u.seen so.0 so.1 (made_seen stands 0 t u [] m) so.3, so.4, refl)

    -- there was no memory for the job that was claimed
    pub ends_unread : (pool id : ℕ) (e : Entry) → Made stands t u (e ∷ []) → Claims pool id e → Worked job_of stands budget s u old now (Err (NoMemory (Some (pool, id)) None))
    ends_unread pool id e m claims = (
      so.0,
      so.1,
      [],
      e,
      made_then stands s t u so.0 (e ∷ []) so.2 m,
      jobs_later t.seen u.seen so.0 so.1 (made_seen stands 0 t u (e ∷ []) m) so.3,
      subst (λ (l : List Call). now ≡ old ++ l) (sym (append-nil so.1)) so.4,
      (claims, refl),
    )

    -- the job that was claimed isn't reported
    module _ (v : SeatView) (new : List Call) (pool id : ℕ) (job : Job) (cl : Claimed pool id job t u) where
      after : Made stands u v [] → Made stands s v (so.0 ++ cl.0 ∷ [])
      after m = made_then stands s t v so.0 (cl.0 ∷ []) so.2 (made_then stands t u v (cl.0 ∷ []) [] cl.1 m)

      done_then : Made stands u v [] → JobsDone job_of v.seen so.0 so.1
      done_then m = jobs_later t.seen v.seen so.0 so.1 (starts_then t.seen u.seen v.seen (made_seen stands 0 t u (cl.0 ∷ []) cl.1) (made_seen stands 0 u v [] m)) so.3

      with_step : (step : Option Step) → Made stands u v [] → Kept pool id job now new step → Worked job_of stands budget s v old new (Err (NoMemory (Some (pool, id)) step))
      with_step None m kept = (so.0, so.1, [], cl.0, after m, done_then m, kept ∙ subst (λ (l : List Call). now ≡ old ++ l) (sym (append-nil so.1)) so.4, (cl.2.0, refl))
      with_step (Some step) m kept = let c = kept.0 in let job_is : c.job ≡ job = kept.1 in (
        so.0,
        so.1,
        c ∷ [],
        cl.0,
        after m,
        done_then m,
        kept.2 ∙ (ap (λ (l : List Call). l ++ c ∷ []) so.4 ∙ append_assoc old so.1 (c ∷ [])),
        (c, refl, claims_later u.seen v.seen pool id c.job cl.0 (made_seen stands 0 u v [] m) (subst (λ (j : Job). ClaimsJob job_of u.seen pool id j cl.0) (sym job_is) cl.2), kept.3),
      )

      pub ends_left : (why : WorkError) → LeftOver stands pool id job u v now new why → Worked job_of stands budget s v old new (Err why)
      ends_left (NoMemory connection step) l = subst (λ (x : Option (ℕ × ℕ)). Worked job_of stands budget s v old new (Err (NoMemory x step))) (sym l.0) (with_step step l.1 l.2)

  -- all jobs were done
  pub ends_spent : (budget count : ℕ) (s t : SeatView) (old now : List Call) → count ≡ budget → SoDone count s t old now → Worked job_of stands budget s t old now (Ok Spent)
  ends_spent budget count s t old now all so = (so.0, so.1, so.2, so.3, so.4, so.5 ∙ all)

  -- an error that is handed on
  pub worked_handed : (budget : ℕ) (s t : SeatView) (old now : List Call) (r : Result Work WorkError) (why : WorkError) → IsErrAnd r (λ w. w ≡ why) → Worked job_of stands budget s t old now (Err why) → Worked job_of stands budget s t old now r
  worked_handed budget s t old now (Ok end) why is w = absurd is
  worked_handed budget s t old now (Err e) why is w = subst (λ (x : WorkError). Worked job_of stands budget s t old now (Err x)) (sym is) w

  -- a claim, with its job
  pub claimed_job : (t u : SeatView) (pool id : ℕ) (job : Job) → u.driver ≡ t.driver → u.number ≡ t.number → FoundBusy t u → Stepped stands t u claiming (TellsJob pool id) → job_of u.seen pool id ≡ Some job → Claimed pool id job t u
  claimed_job t u pool id job d n f st holds = (
    st.1,
    made_entry stands t u claiming (TellsJob pool id) d n f refl st,
    ((ap (λ (x : Step). x.act) st.3.1, st.3.2), (st.0, ([], st.4 ∙ sym (append-nil (st.0 ++ st.1 ∷ []))), subst (λ (l : List Entry). job_of l pool id ≡ Some job) st.4 holds)),
  )

  -- ---- a worker's claim, and what follows it
  module _ (budget count : ℕ) (s t u : SeatView) (old now : List Call) (so : SoDone count s t old now) (d : u.driver ≡ t.driver) (n : u.number ≡ t.number) (f : FoundBusy t u) (claimed : MayClaim) where
    claim_made : (reply : Reply) → claimed_by claimed ≡ reply → Stepped stands t u claiming (claimed_by claimed) → Stepped stands t u claiming reply
    claim_made reply is st = subst (Stepped stands t u claiming) is st

    -- none was left
    pub none_left : claimed ≡ NoneClaimed → Stepped stands t u claiming (claimed_by claimed) → Worked job_of stands budget s u old now (Ok Idle)
    none_left is st =
        let one = made_step stands t u claiming NoJob d n f refl (claim_made NoJob (ap claimed_by is) st) in
        ends_idle budget count s t u old now so one.0 one.3 one.1 one.2

    -- the job wasn't read
    pub left_unread : (pool id : ℕ) → claimed ≡ Unread pool id → Stepped stands t u claiming (claimed_by claimed) → Worked job_of stands budget s u old now (Err (NoMemory (Some (pool, id)) None))
    left_unread pool id is st =
        let one = made_step stands t u claiming (TellsJob pool id) d n f refl (claim_made (TellsJob pool id) (ap claimed_by is) st) in
        ends_unread budget count s t u old now so pool id one.0 one.3 (one.1, one.2)

    module _ (v : SeatView) (new : List Call) (pool id : ℕ) (job : Job) (is : claimed ≡ JobClaimed pool id job) (st : Stepped stands t u claiming (claimed_by claimed)) (holds : Holds (job_of u.seen) claimed) where
      the_claim : Claimed pool id job t u
      the_claim = claimed_job t u pool id job d n f (claim_made (TellsJob pool id) (ap claimed_by is) st) (subst (λ (c : MayClaim). Holds (job_of u.seen) c) is holds)

      -- the job was reported
      pub job_more : Reported stands pool id job u v now new → SoDone (count + 1) s v old new
      job_more re = done_more count s t u v old now new pool id job so the_claim re

      -- the job wasn't reported
      pub job_left : (why : WorkError) → LeftOver stands pool id job u v now new why → Worked job_of stands budget s v old new (Err why)
      job_left why left = ends_left budget count s t u old now so v new pool id job the_claim why left
