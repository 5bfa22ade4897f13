-- What every driver's core keeps to: one entry for each step, with a reply that goes with the act.
use Rattle.std.specs.Prelude.{◌≡◌, ℕ, Bool, true, false, not, ◌&&◌, ◌||◌, is_some, List, ◌++◌, Option, ⊤}
use Rattle.mdb_log.specs.declared.step.Act.{Act}
use Rattle.mdb_log.specs.declared.step.Act.TheVariants.{Request, Warm, Collect, Claim, GiveUp, Take, Error, Hello, Beaten, Rtt, Hosts, Want, Unwant}
use Rattle.mdb_log.specs.declared.step.Step.{Step}
use Rattle.mdb_log.specs.declared.reply.Refused.{Refused as Why}
use Rattle.mdb_log.specs.declared.reply.Refused.TheVariants.{TimeBack}
use Rattle.mdb_log.specs.declared.reply.Reply.{Reply}
use Rattle.mdb_log.specs.declared.reply.Reply.TheVariants.{Pooled, Establishing, Waiting, Ended, Job, NoJob, Changed, Count, Done, Refused}
use Rattle.mdb_log.specs.declared.log.Entry.{Entry}
use Rattle.mdb_log.specs.declared.job.Job.{Job as JobRecord}

-- the entry is of this seat, step and reply
abbrev pub IsEntry : ℕ → Step → Reply → Entry → Type 0
IsEntry seat step reply e = (e.seat ≡ seat) × (e.step ≡ step) × (e.reply ≡ reply)

-- the log begins with this
abbrev pub StartsWith : List Entry → List Entry → Type 0
StartsWith log front = (rest : List Entry) × (log ≡ front ++ rest)

-- how a caller's request stands
abbrev pub tells_outcome : Reply → Bool
tells_outcome (Pooled pool id) = true
tells_outcome (Establishing pool id) = true
tells_outcome Waiting = true
tells_outcome (Ended end) = true
tells_outcome _ = false

-- how a warm request stands: it is never in hand
abbrev pub tells_warm : Reply → Bool
tells_warm (Pooled pool id) = false
tells_warm reply = tells_outcome reply

abbrev pub tells_job : Reply → Bool
tells_job (Job pool id) = true
tells_job NoJob = true
tells_job _ = false

abbrev pub tells_end : Reply → Bool
tells_end (Ended end) = true
tells_end Done = true
tells_end _ = false

abbrev pub is_pooled : Reply → Bool
is_pooled (Pooled pool id) = true
is_pooled _ = false

abbrev pub tells_change : Reply → Bool
tells_change (Changed changed) = true
tells_change _ = false

-- the average, or that no pool is concerned
abbrev pub tells_sample : Reply → Bool
tells_sample (Count average) = true
tells_sample (Changed changed) = not changed
tells_sample _ = false

abbrev pub tells_count : Reply → Bool
tells_count (Count count) = true
tells_count _ = false

abbrev pub is_done : Reply → Bool
is_done Done = true
is_done _ = false

-- the replies to an accepted act
abbrev pub answers : Act → Reply → Bool
answers (Request party address) = tells_outcome
answers (Warm party address) = tells_warm
answers (Collect party) = tells_outcome
answers Claim = tells_job
answers (GiveUp party) = tells_end
answers (Take party pool id) = is_pooled
answers (Error party error) = tells_change
answers (Hello address pool came) = tells_change
answers (Beaten address pool duration came) = tells_change
answers (Rtt address pool sample) = tells_sample
answers (Hosts hosts) = tells_change
answers (Want watcher) = tells_count
answers (Unwant watcher) = tells_count
answers _ = is_done

abbrev pub is_refusal : Reply → Bool
is_refusal (Refused why) = true
is_refusal _ = false

-- the reply is a refusal, or one of those to the act
abbrev pub is_reply_to : Act → Reply → Bool
is_reply_to act reply = is_refusal reply || answers act reply

abbrev pub is_never_refused : Act → Bool
is_never_refused Claim = true
is_never_refused (Want watcher) = true
is_never_refused (Unwant watcher) = true
is_never_refused _ = false

abbrev pub is_time_back : Why → Bool
is_time_back (TimeBack moment) = true
is_time_back _ = false

-- The replies to an act no earlier than the last one: its time isn't refused, and a claim and what watchers want isn't at all.
abbrev pub is_in_time : Act → Reply → Bool
is_in_time act (Refused why) = not (is_time_back why) && not (is_never_refused act)
is_in_time act _ = true

-- a job that was told is there
abbrev pub IsThere : (ℕ → ℕ → Option JobRecord) → Reply → Type 0
IsThere job (Job pool id) = is_some (job pool id) ≡ true
IsThere job _ = ⊤
