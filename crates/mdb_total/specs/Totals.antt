-- What a running total stands for.
use Rattle.std.specs.Prelude.{◌≡◌, ℕ, ◌+◌, ◌%◌, ◌^◌, ◌==◌, nat_lt, if◌then◌else◌, false, List, [], ◌∷◌, None, replicate}
use Rattle.mdb_base.specs.declared.options.Options.{Options}
use Rattle.mdb_describe.specs.Topology.{opened}
use Rattle.mdb_events.specs.declared.end.End.TheVariants.{Closed}
use Rattle.mdb_log.specs.declared.log.Entry.{Entry}
use Rattle.mdb_log.specs.declared.reply.Refused.TheVariants.{UnknownRequest, NotHolder}
use Rattle.mdb_log.specs.declared.reply.Reply.{Reply}
use Rattle.mdb_log.specs.declared.reply.Reply.TheVariants.{Pooled, Waiting, Ended, NoJob, Changed, Count, Done, Refused}
use Rattle.mdb_log.specs.declared.step.Act.{Act}
use Rattle.mdb_log.specs.declared.step.Act.TheVariants.{Request, Warm, Collect, Claim, GiveUp, Return, Take, Error, Hello, Beaten, Rtt, Hosts, Want, Unwant}
use Rattle.mdb_log.specs.History.{history_of, last_moment}
use Rattle.mdb_total.specs.declared.total.Total.{Total}

-- the total after an act
abbrev pub after : ℕ → Act → ℕ
after t (Want n) = (t + n) % 2 ^ 64
after t _ = t

-- the reply to an act, at the total after it
abbrev pub reply_of : ℕ → Act → Reply
reply_of t (Request r a) = Waiting
reply_of t (Warm r a) = Waiting
reply_of t (Collect r) =
    if t == 0 then Refused UnknownRequest
    else if nat_lt r t then Pooled 0 r
    else if r == t then Ended Closed
    else Waiting
reply_of t Claim = NoJob
reply_of t (GiveUp r) = if nat_lt r t then Done else Refused UnknownRequest
reply_of t (Return r used) = if nat_lt r t then Done else Refused NotHolder
reply_of t (Take r p c) = Pooled p c
reply_of t (Error r e) = Changed false
reply_of t (Hello a p came) = Changed false
reply_of t (Beaten a p n came) = Changed false
reply_of t (Rtt a p n) = Changed false
reply_of t (Hosts hosts) = Changed false
reply_of t (Want n) = Count t
reply_of t (Unwant n) = Count t
reply_of t _ = Done

-- the total after these entries, from a total before them
abbrev pub total_from : ℕ → List Entry → ℕ
total_from t [] = t
total_from t (e ∷ es) = total_from (after t e.step.act) es

-- each entry has the reply of its act, there
abbrev pub Replies : ℕ → List Entry → Type 0
Replies t [] = Unit {0}
Replies t (e ∷ es) = (e.reply ≡ reply_of (after t e.step.act) e.step.act) × Replies (after t e.step.act) es

-- no server
abbrev pub no_options : Options
no_options = record {
  seeds = [];
  set_name = None;
  direct = false;
  load_balanced = false;
  max_pool_size = None;
  min_pool_size = None;
  max_connecting = None;
  max_idle_time = None;
  max_wait = None;
  heartbeat = None;
  connect = None;
  streaming = None;
  limit_id = None;
  limit_generation = None;
  limit_pool = None;
  limit_monitor = None;
  topology_id = record { 0 = replicate 12 0 };
}

pub record StandsFor (c : Total) (log : List Entry) : Type 0 where
  pub sum : c.sum ≡ total_from 0 log
  pub last : c.last ≡ last_moment (history_of log)
  pub description : c.description ≡ opened no_options
  pub replies : Replies 0 log
