-- The text of entries and logs.
use Rattle.std.specs.Prelude.{ℕ, List, ◌++◌, decimal, codes, Bool, true, false}
use Rattle.std.specs.List.{flat_map}
use Rattle.mdb_events.specs.declared.fact.Fact.{Fact}
use Rattle.mdb_events.specs.FactText.{fact_text, end_text}
use Rattle.mdb_log.specs.declared.reply.What.{What}
use Rattle.mdb_log.specs.declared.reply.What.TheVariants as what
use Rattle.mdb_log.specs.declared.reply.Refused.{Refused}
use Rattle.mdb_log.specs.declared.reply.Refused.TheVariants as refused
use Rattle.mdb_log.specs.declared.reply.Reply.{Reply}
use Rattle.mdb_log.specs.declared.reply.Reply.TheVariants as reply
use Rattle.mdb_log.specs.declared.log.Entry.{Entry}
use Rattle.mdb_lines.specs.Spelling.{spelling}

abbrev pub what_text : What → List ℕ
what_text what.Pool = codes "pool"
what_text what.Generation = codes "generation"
what_text what.Monitor = codes "monitor"
what_text what.Servers = codes "servers"

abbrev pub refused_text : Refused → List ℕ
refused_text (refused.TimeBack m) = codes "TimeBack " ++ decimal m
refused_text refused.UnknownServer = codes "UnknownServer"
refused_text refused.RequestKnown = codes "RequestKnown"
refused_text refused.UnknownRequest = codes "UnknownRequest"
refused_text refused.NotHolder = codes "NotHolder"
refused_text refused.NotPending = codes "NotPending"
refused_text refused.Unpinned = codes "Unpinned"
refused_text refused.PinInUse = codes "PinInUse"
refused_text refused.PinState = codes "PinState"
refused_text refused.CheckRunning = codes "CheckRunning"
refused_text refused.NotChecking = codes "NotChecking"
refused_text refused.WrongMode = codes "WrongMode"
refused_text (refused.Exhausted w) = codes "Exhausted " ++ what_text w

abbrev pub bool_text : Bool → List ℕ
bool_text true = codes "true"
bool_text false = codes "false"

-- the numbers of a pool and of one of its connections
abbrev pub connection_text : ℕ → ℕ → List ℕ
connection_text p c = decimal p ++ (codes "." ++ decimal c)

abbrev pub reply_text : Reply → List ℕ
reply_text (reply.Pooled p c) = codes "Pooled " ++ connection_text p c
reply_text (reply.Establishing p c) = codes "Establishing " ++ connection_text p c
reply_text reply.Waiting = codes "Waiting"
reply_text (reply.Ended e) = codes "Ended " ++ end_text e
reply_text (reply.Job p c) = codes "Job " ++ connection_text p c
reply_text reply.NoJob = codes "NoJob"
reply_text (reply.Changed changed) = codes "Changed " ++ bool_text changed
reply_text (reply.Count n) = codes "Count " ++ decimal n
reply_text reply.Done = codes "Done"
reply_text (reply.Refused why) = codes "Refused " ++ refused_text why

-- facts, each behind a bar
abbrev pub facts_text : List Fact → List ℕ
facts_text facts = flat_map (λ x. codes " | " ++ fact_text x) facts

-- an entry's line, with the newline
abbrev pub text_of_entry : Entry → List ℕ
text_of_entry e = spelling e.step ++ (codes " | " ++ (reply_text e.reply ++ (facts_text e.facts ++ codes "\n")))

-- the joined text of a log's entries
abbrev pub text_of : List Entry → List ℕ
text_of entries = flat_map text_of_entry entries
