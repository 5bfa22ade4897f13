-- Each connection that a worker claimed is reported.
use Rattle.std.proofs.Common.{◌≡◌, ℕ, List, [], ◌∷◌, ◌++◌, inl, inr, refl, sym, subst, ap, ◌∙◌, append_assoc, append-nil, Bool, true, false, Option, Some, None, IfSome, IfNone}
use Rattle.mdb_base.specs.Outside.{Rose}
use Rattle.mdb_log.specs.Acts.{IsDriverAct}
use Rattle.mdb_log.specs.Driver.{StartsWith}
use Rattle.mdb_log.specs.declared.job.Job.{Job}
use Rattle.mdb_log.specs.declared.log.Entry.{Entry}
use Rattle.mdb_log.specs.declared.reply.Reply.{Reply}
use Rattle.mdb_log.specs.declared.reply.Reply.TheVariants.{Job as TellsJob, NoJob}
use Rattle.mdb_log.specs.declared.step.Act.{Act}
use Rattle.mdb_log.specs.declared.step.Step.{Step}
use Rattle.mdb_shared.specs.Claims.{claiming, claimed_by, Holds}
use Rattle.mdb_shared.specs.declared.claiming.Claimed.{Claimed as MayClaim}
use Rattle.mdb_shared.specs.declared.claiming.Claimed.TheVariants.{Job as JobClaimed, Unread, NoJob as NoneClaimed}
use Rattle.mdb_turns.specs.Stepping.{SeatView, Stepped}
use Rattle.mdb_shared.specs.Seats.{Each, FoundBusy}
use Rattle.mdb_workers.specs.declared.ends.Work.{Work}
use Rattle.mdb_workers.specs.declared.ends.Work.TheVariants.{Idle, Spent}
use Rattle.mdb_workers.specs.declared.establishing.Call.{Call}
use Rattle.mdb_workers.specs.Establishing.{Reports}
use Rattle.mdb_workers.specs.Making.{Made}
use Rattle.mdb_workers.specs.Persisting.{LeftAct, IsTry, ReportsLeftIf}
use Rattle.mdb_workers.specs.Working.{CalledOnce, ClaimsJob, Dealt, IsLetFail, IsRound, IsTended, JobDone, ReportsLeft, Round, Served, TendedBy, calls_of, entries_of}
use Rattle.mdb_workers.proofs.Adding.{each_more, made_none, made_seen, made_step, made_then}
use Rattle.mdb_workers.proofs.Laboring.{Claimed, claimed_job, claims_later}

pub may_step : (step : Option Step) → IfSome step (λ x. (x.moment ≡ 0) × IsDriverAct x.act) → IfSome step (λ x. IsDriverAct x.act)
may_step (Some step) h = h.1
may_step None h = tt

-- the answer was reported, or that there was no memory
pub dealt_with : {T : Type 0} (stands : T → List Entry → Type 0) (u v : SeatView) (pool id : ℕ) (job : Job) (old new : List Call) (before now : ℕ) (step : Option Step)
    → IfSome step (λ x. CalledOnce pool id job old new x.act) → IfNone step (new ≡ old) → IfNone step (Rose before now) → ((r : Entry) × ReportsLeft pool id step r × Made stands u v (r ∷ [])) → Dealt stands pool id job u v old new before now
dealt_with stands u v pool id job old new before now (Some step) some none wanted by = (by.0, by.2, inl (subst (λ (a : Act). CalledOnce pool id job old new a) (sym by.1) some))
dealt_with stands u v pool id job old new before now None some none wanted by = (by.0, by.2, inr (none, wanted, by.1))

module _ {T : Type 0} (stands : T → List Entry → Type 0) (job_of : List Entry → ℕ → ℕ → Option Job) where
  no_calls : (old new : List Call) → new ≡ old → new ≡ old ++ []
  no_calls old new is = is ∙ sym (append-nil old)

  -- nothing was claimed
  pub tended_nothing : (s t : SeatView) (old : List Call) → Made stands s t [] → TendedBy job_of stands s t old old Spent
  tended_nothing s t old m = ([], [], m, tt, no_calls old old refl)

  -- ---- a claim, and what follows it
  module _ (t u : SeatView) (d : u.driver ≡ t.driver) (n : u.number ≡ t.number) (f : FoundBusy t u) (claimed : MayClaim) (st : Stepped stands t u claiming (claimed_by claimed)) (old : List Call) where
    made_claim : (reply : Reply) → claimed_by claimed ≡ reply → Stepped stands t u claiming reply
    made_claim reply is = subst (Stepped stands t u claiming) is st

    pub tended_idle : claimed ≡ NoneClaimed → TendedBy job_of stands t u old old Idle
    tended_idle is =
        let one = made_step stands t u claiming NoJob d n f refl (made_claim NoJob (ap claimed_by is)) in
        (one.0 ∷ [], [], one.3, (one.1, one.2), no_calls old old refl)

    -- there was no memory for the job
    pub tended_unread : (v : SeatView) (pool id : ℕ) → claimed ≡ Unread pool id → ((r : Entry) × ReportsLeft pool id None r × Made stands u v (r ∷ [])) → TendedBy job_of stands t v old old Spent
    tended_unread v pool id is by =
        let one = made_step stands t u claiming (TellsJob pool id) d n f refl (made_claim (TellsJob pool id) (ap claimed_by is)) in
        (one.0 ∷ by.0 ∷ [], [], made_then stands t u v (one.0 ∷ []) (by.0 ∷ []) one.3 by.2, (pool, id, (one.1, one.2), by.1), no_calls old old refl)

    pub tended_job : (v : SeatView) (new : List Call) (before now : ℕ) (pool id : ℕ) (job : Job) → claimed ≡ JobClaimed pool id job → Holds (job_of u.seen) claimed → Dealt stands pool id job u v old new before now
        → TendedBy job_of stands t v old new Spent
    tended_job v new before now pool id job is holds dealt =
        let claim : Claimed stands job_of pool id job t u = claimed_job stands job_of t u pool id job d n f (made_claim (TellsJob pool id) (ap claimed_by is)) (subst (λ (c : MayClaim). Holds (job_of u.seen) c) is holds) in
        let e = claim.0 in let r = dealt.0 in
        let made : Made stands t v (e ∷ r ∷ []) = made_then stands t u v (e ∷ []) (r ∷ []) claim.1 dealt.1 in
        let later : ClaimsJob job_of v.seen pool id job e = claims_later stands job_of u.seen v.seen pool id job e (made_seen stands 0 u v (r ∷ []) dealt.1) claim.2 in elim dealt.2 [
          | inl called ↦ let c = called.0 in (e ∷ r ∷ [], c ∷ [], made, (pool, id, subst (λ (j : Job). ClaimsJob job_of v.seen pool id j e) (sym called.1) later, called.3), called.2)
          | inr none ↦ (e ∷ r ∷ [], [], made, (pool, id, claim.2.0, none.2), no_calls old new none.0)
        ]

  -- ---- one round after the other

  entries_more : (rs : List Round) (r : Round) → entries_of (rs ++ r ∷ []) ≡ entries_of rs ++ r.entries
  entries_more [] r = append-nil r.entries
  entries_more (x ∷ rs) r = ap (λ (l : List Entry). x.entries ++ l) (entries_more rs r) ∙ sym (append_assoc x.entries (entries_of rs) r.entries)

  calls_more : (rs : List Round) (r : Round) → calls_of (rs ++ r ∷ []) ≡ calls_of rs ++ r.calls
  calls_more [] r = append-nil r.calls
  calls_more (x ∷ rs) r = ap (λ (l : List Call). x.calls ++ l) (calls_more rs r) ∙ sym (append_assoc x.calls (calls_of rs) r.calls)

  -- what a round was by a log it is by a later one
  tended_later : (seen more : List Entry) → StartsWith more seen → (work : Work) (es : List Entry) (calls : List Call) → IsTended job_of seen work es calls → IsTended job_of more work es calls
  tended_later seen more grown Idle [] calls h = absurd h
  tended_later seen more grown Idle (claim ∷ []) [] h = h
  tended_later seen more grown Idle (claim ∷ []) (c ∷ calls) h = absurd h
  tended_later seen more grown Idle (claim ∷ e ∷ es) calls h = absurd h
  tended_later seen more grown Spent [] [] h = h
  tended_later seen more grown Spent [] (c ∷ calls) h = absurd h
  tended_later seen more grown Spent (claim ∷ []) calls h = absurd h
  tended_later seen more grown Spent (claim ∷ report ∷ []) [] h = h
  tended_later seen more grown Spent (claim ∷ report ∷ []) (c ∷ []) h = (h.0, h.1, claims_later stands job_of seen more h.0 h.1 c.job claim grown h.2, h.3)
  tended_later seen more grown Spent (claim ∷ report ∷ []) (c ∷ d ∷ calls) h = absurd h
  tended_later seen more grown Spent (claim ∷ report ∷ e ∷ es) calls h = absurd h

  rounds_later : (seen more : List Entry) → StartsWith more seen → (rs : List Round) → Each (IsRound job_of seen) rs → Each (IsRound job_of more) rs
  rounds_later seen more grown [] h = tt
  rounds_later seen more grown (r ∷ rs) h = (tended_later seen more grown r.work r.entries r.calls h.0, rounds_later seen more grown rs h.1)

  pub served_none : (s : SeatView) (old : List Call) → Served job_of stands s s old old
  served_none s old = ([], made_none stands s, tt, no_calls old old refl)

  -- a look after the rounds
  pub served_saw : (s t u : SeatView) (old new : List Call) → Served job_of stands s t old new → Made stands t u [] → Served job_of stands s u old new
  served_saw s t u old new h m = (
    h.0,
    subst (Made stands s u) (append-nil (entries_of h.0)) (made_then stands s t u (entries_of h.0) [] h.1 m),
    rounds_later t.seen u.seen (made_seen stands 0 t u [] m) h.0 h.2,
    h.3,
  )

  -- one round more
  pub served_more : (s t u : SeatView) (old mid new : List Call) (work : Work) → Served job_of stands s t old mid → TendedBy job_of stands t u mid new work → Served job_of stands s u old new
  served_more s t u old mid new work h k =
      let r : Round = record { work = work; entries = k.0; calls = k.1 } in (
        h.0 ++ r ∷ [],
        subst (Made stands s u) (sym (entries_more h.0 r)) (made_then stands s t u (entries_of h.0) k.0 h.1 k.2),
        each_more (IsRound job_of u.seen) h.0 (r ∷ []) (rounds_later t.seen u.seen (made_seen stands 0 t u k.0 k.2) h.0 h.2) (k.3, tt),
        k.4 ∙ (ap (λ (l : List Call). l ++ k.1) h.3 ∙ (append_assoc old (calls_of h.0) k.1 ∙ ap (λ (l : List Call). old ++ l) (sym (calls_more h.0 r)))),
      )

-- the act that reports what was left may be made, and its entry settles it
pub may_act : (pool id : ℕ) (step : Option Step) (act : Act) → IfSome step (λ x. IsDriverAct x.act) → LeftAct pool id step act → IsDriverAct act
may_act pool id (Some step) act may left = subst IsDriverAct (sym left) may
may_act pool id None act may left = subst IsDriverAct (sym left.2) tt

settles_act : (pool id : ℕ) (step : Option Step) (act : Act) (e : Entry) → LeftAct pool id step act → e.step.act ≡ act → ReportsLeft pool id step e
settles_act pool id (Some step) act e left is = is ∙ left
settles_act pool id None act e left is = (left.0, left.1, is ∙ left.2)

pub settled_if : {T : Type 0} (stands : T → List Entry → Type 0) (s s' : SeatView) (pool id : ℕ) (step : Option Step) (act : Act) (done : Bool) → LeftAct pool id step act → IsTry stands s s' act done → ReportsLeftIf stands pool id step s s' done
settled_if stands s s' pool id step act true left one = (one.0, settles_act pool id step act one.0 left one.1, one.2)
settled_if stands s s' pool id step act false left none = none
