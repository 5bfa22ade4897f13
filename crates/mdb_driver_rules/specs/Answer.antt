-- What a driver answers to a step after its history: the reply, and the facts that the step makes.
use Rattle.std.specs.Prelude.{false, ◌||◌, if◌then◌else◌, List, [], Option, Some, None}
use Rattle.mdb_base.specs.declared.options.Options.{Options}
use Rattle.mdb_events.specs.declared.fact.Fact.{Fact}
use Rattle.mdb_log.specs.declared.step.Step.{Step}
use Rattle.mdb_log.specs.declared.step.Act.{Act}
use Rattle.mdb_log.specs.declared.step.Act.TheVariants as Do
use Rattle.mdb_log.specs.declared.reply.Refused.{Refused}
use Rattle.mdb_log.specs.declared.reply.Reply.{Reply}
use Rattle.mdb_log.specs.declared.reply.Reply.TheVariants.{NoJob, Changed, Count, Done, Refused as RefusedBy}
use Rattle.mdb_log.specs.History.{Item, of_pool, with_facts}
use Rattle.mdb_log.specs.Requests.{is_claimed}
use Rattle.mdb_log.specs.Answer.{Answer}
use Rattle.mdb_pool_rules.specs.Answer.{reply_of}
use Rattle.mdb_log.specs.Homes.{Home}
use Rattle.mdb_driver_rules.specs.Homes.{home_of, is_here, begun}
use Rattle.mdb_driver_rules.specs.Monitors.{average, check_count}
use Rattle.mdb_driver_rules.specs.Description.{changed}
use Rattle.mdb_driver_rules.specs.Facts.{clear_of, is_clear, step_facts}
use Rattle.mdb_driver_rules.specs.Refusal.{refusal}

-- the step changed the topology, or cleared a pool
abbrev pub changed_reply : Options → List Item → Step → Reply
changed_reply o h step = Changed (changed o h step || is_clear (clear_of o h step))

-- the reply of the pool that the act concerns; a claim that concerns none finds no job
abbrev pub pool_reply : List Item → List Item → Act → Option Home → Reply
pool_reply h z Do.Claim None = NoJob
pool_reply h z act None = Done
pool_reply h z act (Some x) = reply_of x.number (is_claimed h x.number) (of_pool x.number h) (of_pool x.number z) act

-- the reply to an accepted step, where z is the history with its facts
abbrev pub reply_to : Options → List Item → Step → List Item → Act → Reply
reply_to o h step z (Do.Hello a p came) = changed_reply o h step
reply_to o h step z (Do.Beaten a p duration came) = changed_reply o h step
reply_to o h step z (Do.Error r error) = changed_reply o h step
reply_to o h step z (Do.Hosts hosts) = changed_reply o h step
reply_to o h step z (Do.Rtt a p sample) = if is_here h a p then Count (average o z p) else Changed false
reply_to o h step z (Do.Want w) = Count (check_count z)
reply_to o h step z (Do.Unwant w) = Count (check_count z)
reply_to o h step z act = pool_reply h z act (home_of h act)

-- a refused step has its refusal and no facts
abbrev pub answered : Options → List Item → Step → Option Refused → List Fact → Answer
answered o h step (Some why) facts = record { reply = RefusedBy why; facts = [] }
answered o h step None facts = record { reply = reply_to o h step (with_facts step.moment facts (begun h step)) step.act; facts = facts }

-- the answer of a driver with these options to the step after the history
abbrev pub answer : Options → List Item → Step → Answer
answer o h step = answered o h step (refusal o h step) (step_facts o h step)
