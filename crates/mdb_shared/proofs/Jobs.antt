-- A claim is answered by a job, or that there is none.
use Rattle.std.proofs.Common.{◌≡◌, List, IsTrue, Bool, true, false, not, ◌&&◌, subst, sym, refl}
use Rattle.mdb_log.specs.Driver.{is_reply_to, is_in_time, is_time_back, tells_job}
use Rattle.mdb_log.specs.declared.log.Entry.{Entry}
use Rattle.mdb_log.specs.declared.step.Act.TheVariants.{Claim}
use Rattle.mdb_log.specs.declared.reply.Reply.{Reply}
use Rattle.mdb_log.specs.declared.reply.Reply.TheVariants.{Pooled, Establishing, Waiting, Ended, Job, NoJob, Changed, Count, Done, Refused}
use Rattle.mdb_shared.specs.Claims.{claiming, claimed_by}
use Rattle.mdb_shared.specs.declared.claiming.Claimed.{Claimed}
use Rattle.mdb_turns.specs.Stepping.{SeatView, Stepped}

never : (b : Bool) → IsTrue (b && false) → IsTrue false
never true h = h
never false h = h

-- a reply to a claim in time tells a job, or that there is none
pub tells : (reply : Reply) → IsTrue (is_reply_to Claim reply) → IsTrue (is_in_time Claim reply) → IsTrue (tells_job reply)
tells (Job pool id) kind time = refl
tells NoJob kind time = refl
tells (Pooled pool id) kind time = kind
tells (Establishing pool id) kind time = kind
tells Waiting kind time = kind
tells (Ended end) kind time = kind
tells (Changed changed) kind time = kind
tells (Count count) kind time = kind
tells Done kind time = kind
tells (Refused why) kind time = never (not (is_time_back why)) time

pub as_claimed : {T : Type 0} (stands : T → List Entry → Type 0) (s s' : SeatView) (reply : Reply) (claimed : Claimed) → claimed_by claimed ≡ reply → Stepped stands s s' claiming reply → Stepped stands s s' claiming (claimed_by claimed)
as_claimed stands s s' reply claimed is = subst (λ (r : Reply). Stepped stands s s' claiming r) (sym is)
