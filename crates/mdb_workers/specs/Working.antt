-- The jobs of a worker: each is claimed, established outside, and reported.
use Rattle.std.specs.Prelude.{◌≡◌, ℕ, List, [], ◌∷◌, ◌++◌, length, Option, Some, None, Result, Ok, Err, ◌⊎◌, codes, ⊤}
use Rattle.mdb_log.specs.Driver.{StartsWith}
use Rattle.mdb_log.specs.declared.job.Job.{Job}
use Rattle.mdb_log.specs.declared.log.Entry.{Entry}
use Rattle.mdb_log.specs.declared.step.Step.{Step}
use Rattle.mdb_log.specs.declared.step.Act.{Act}
use Rattle.mdb_log.specs.declared.step.Act.TheVariants.{Claim, Failed}
use Rattle.mdb_log.specs.declared.step.FailedAt.TheVariants.{Pre}
use Rattle.mdb_base.specs.Outside.{Rose}
use Rattle.mdb_base.specs.declared.error.Error.{Error}
use Rattle.mdb_base.specs.declared.error.ErrorKind.TheVariants.{Other}
use Rattle.mdb_log.specs.declared.reply.Reply.TheVariants.{Job as TellsJob, NoJob}
use Rattle.mdb_turns.specs.Stepping.{SeatView}
use Rattle.mdb_shared.specs.Seats.{Each}
use Rattle.mdb_workers.specs.declared.establishing.Call.{Call}
use Rattle.mdb_workers.specs.Establishing.{Reports}
use Rattle.mdb_workers.specs.Making.{Made}
use Rattle.mdb_workers.specs.declared.ends.Work.{Work}
use Rattle.mdb_workers.specs.declared.ends.Work.TheVariants.{Idle, Spent}
use Rattle.mdb_workers.specs.declared.ends.WorkError.{WorkError}
use Rattle.mdb_workers.specs.declared.ends.WorkError.TheVariants.{OutOfMemory}

-- one call more, with this job, whose answer this act reports
abbrev pub CalledOnce : ℕ → ℕ → Job → List Call → List Call → Act → Type 0
CalledOnce pool id job old new act = (call : Call) × (call.job ≡ job) × (new ≡ old ++ call ∷ []) × Reports pool id call.answer act

-- no call was made, or its answer is in the step
abbrev pub Kept : ℕ → ℕ → Job → List Call → List Call → Option Step → Type 0
Kept pool id job old new None = new ≡ old
Kept pool id job old new (Some step) = CalledOnce pool id job old new step.act

-- The error of one who has no memory. Its server isn't to blame, which its label says.
abbrev pub IsWant : Error → Type 0
IsWant error = (error.kind ≡ Other) × (error.labels ≡ codes "SystemOverloadedError" ∷ [])

-- The entry reports the connection: by this step, or, where there is none, as failed before the hello for lack of memory.
abbrev pub ReportsLeft : ℕ → ℕ → Option Step → Entry → Type 0
ReportsLeft pool id (Some step) e = e.step.act ≡ step.act
ReportsLeft pool id None e = (error : Error) × IsWant error × (e.step.act ≡ Failed pool id Pre error)

module _ {T : Type 0} (stands : T → List Entry → Type 0) where
  -- the job was done, and one entry reports it
  abbrev pub Reported : ℕ → ℕ → Job → SeatView → SeatView → List Call → List Call → Type 0
  Reported pool id job s s' old new = (report : Entry) × Made stands s s' (report ∷ []) × CalledOnce pool id job old new report.step.act

  -- One entry reports the job: the establisher was called with it, and this is its answer; or it had no memory, and the connection failed.
  abbrev pub Dealt : ℕ → ℕ → Job → SeatView → SeatView → List Call → List Call → ℕ → ℕ → Type 0
  Dealt pool id job s s' old new before now = (report : Entry) × Made stands s s' (report ∷ [])
      × (CalledOnce pool id job old new report.step.act ⊎ ((new ≡ old) × Rose before now × ReportsLeft pool id None report))

  -- the job isn't reported
  abbrev pub LeftOver : ℕ → ℕ → Job → SeatView → SeatView → List Call → List Call → WorkError → Type 0
  LeftOver pool id job s s' old new (OutOfMemory connection step) = (connection ≡ Some (pool, id)) × Made stands s s' [] × Kept pool id job old new step

-- the entry claims this connection
abbrev pub Claims : ℕ → ℕ → Entry → Type 0
Claims pool id e = (e.step.act ≡ Claim) × (e.reply ≡ TellsJob pool id)

module _ (job_of : List Entry → ℕ → ℕ → Option Job) where
  -- the entry claims this connection, and the job is the one that the log tells right after it
  abbrev pub ClaimsJob : List Entry → ℕ → ℕ → Job → Entry → Type 0
  ClaimsJob seen pool id job e = Claims pool id e × ((before : List Entry) × StartsWith seen (before ++ e ∷ []) × (job_of (before ++ e ∷ []) pool id ≡ Some job))

  -- one job: it was claimed, the establisher was called with it, and its answer was reported
  abbrev pub JobDone : List Entry → Entry → Entry → Call → Type 0
  JobDone seen claim report call = (pool id : ℕ) × ClaimsJob seen pool id call.job claim × Reports pool id call.answer report.step.act

  -- one job after the other, each with a claim and a report
  abbrev pub JobsDone : List Entry → List Entry → List Call → Type 0
  JobsDone seen [] [] = ⊤
  JobsDone seen (claim ∷ report ∷ es) (call ∷ calls) = JobDone seen claim report call × JobsDone seen es calls
  JobsDone seen es calls = ⊥

  -- a job that was claimed: the establisher had no memory or wasn't called, or its answer is in this step, which isn't reported
  abbrev pub Unreported : List Entry → ℕ → ℕ → Entry → Option Step → List Call → Type 0
  Unreported seen pool id claim None calls = Claims pool id claim × (calls ≡ [])
  Unreported seen pool id claim (Some step) calls = (call : Call) × (calls ≡ call ∷ []) × ClaimsJob seen pool id call.job claim × Reports pool id call.answer step.act

  -- The jobs that were done, and after them a claim that found none, or the jobs of the whole budget; or there was no memory for a claim, or for
  -- what follows it.
  module _ {T : Type 0} (stands : T → List Entry → Type 0) (budget : ℕ) (s s' : SeatView) (old new : List Call) where
    abbrev pub Worked : Result Work WorkError → Type 0
    Worked (Ok Idle) = (es : List Entry) × (calls : List Call) × (e : Entry) × Made stands s s' (es ++ e ∷ []) × JobsDone s'.seen es calls × (new ≡ old ++ calls)
        × (e.step.act ≡ Claim) × (e.reply ≡ NoJob)
    Worked (Ok Spent) = (es : List Entry) × (calls : List Call) × Made stands s s' es × JobsDone s'.seen es calls × (new ≡ old ++ calls) × (length calls ≡ budget)
    Worked (Err (OutOfMemory None step)) = (es : List Entry) × (calls : List Call) × Made stands s s' es × JobsDone s'.seen es calls × (new ≡ old ++ calls) × (step ≡ None)
    Worked (Err (OutOfMemory (Some (pool, id)) step)) = (es : List Entry) × (calls more : List Call) × (e : Entry) × Made stands s s' (es ++ e ∷ []) × JobsDone s'.seen es calls × (new ≡ old ++ (calls ++ more))
        × Unreported s'.seen pool id e step more

-- the claim found no connection
abbrev pub FindsNone : Entry → Type 0
FindsNone e = (e.step.act ≡ Claim) × (e.reply ≡ NoJob)

-- one entry claims a connection, and the next one reports that it failed for lack of memory
abbrev pub IsLetFail : Entry → Entry → Type 0
IsLetFail claim report = (pool id : ℕ) × Claims pool id claim × ReportsLeft pool id None report

-- the work that a round came to, its entries, and the calls that the establisher gained in it
pub record Round : Type 0 where
  pub work : Work
  pub entries : List Entry
  pub calls : List Call

abbrev pub entries_of : List Round → List Entry
entries_of [] = []
entries_of (r ∷ rs) = r.entries ++ entries_of rs

abbrev pub calls_of : List Round → List Call
calls_of [] = []
calls_of (r ∷ rs) = r.calls ++ calls_of rs

module _ (job_of : List Entry → ℕ → ℕ → Option Job) (seen : List Entry) where
  -- The claim found none, and then the round is idle. Or it found a connection: the establisher was called with its job, once, and the next entry reports the
  -- answer; or the establisher was not called, or had no memory, and the next entry reports that the connection failed. Or there was no memory for a claim.
  abbrev pub IsTended : Work → List Entry → List Call → Type 0
  IsTended Idle (claim ∷ []) [] = FindsNone claim
  IsTended Spent (claim ∷ report ∷ []) (call ∷ []) = JobDone job_of seen claim report call
  IsTended Spent (claim ∷ report ∷ []) [] = IsLetFail claim report
  IsTended Spent [] [] = ⊤
  IsTended work es calls = ⊥

  abbrev pub IsRound : Round → Type 0
  IsRound r = IsTended r.work r.entries r.calls

module _ (job_of : List Entry → ℕ → ℕ → Option Job) {T : Type 0} (stands : T → List Entry → Type 0) where
  -- one round: its entries, and its calls of the establisher
  abbrev pub TendedBy : SeatView → SeatView → List Call → List Call → Work → Type 0
  TendedBy s s' old new work = (es : List Entry) × (calls : List Call) × Made stands s s' es × IsTended job_of s'.seen work es calls × (new ≡ old ++ calls)

  -- one round after the other
  abbrev pub Served : SeatView → SeatView → List Call → List Call → Type 0
  Served s s' old new = (rounds : List Round) × Made stands s s' (entries_of rounds) × Each (IsRound job_of s'.seen) rounds × (new ≡ old ++ calls_of rounds)
