-- What a run of a replica set reads, answers and writes.
use Rattle.std.specs.Prelude.{◌≡◌, ℕ, ◌+◌, ◌<◌, List, [], ◌∷◌, ◌++◌, length, map, codes, Option, Result, Ok, Err, ◌⊎◌}
use Rattle.std.specs.Io.KnownBytes.{Consumes}
use Rattle.mdb_base.specs.Outside.{Rose, Held, Took, IsFlushed}
use Rattle.mdb_log.specs.declared.log.Entry.{Entry}
use Rattle.mdb_log.specs.History.{history_of}
use Rattle.mdb_log.specs.LegalLog.{IsLegalLog, OpensSeeds}
use Rattle.mdb_lines.specs.declared.run_error.RunError.{RunError}
use Rattle.mdb_lines.specs.declared.run_error.RunError.TheVariants as errors
use Rattle.mdb_lines.specs.Script.{lines_of, max_input}
use Rattle.mdb_lines.specs.Loops.{TookFront, ReadsAll}
use Rattle.mdb_topology.specs.Logging.{Stood}
use Rattle.mdb_fleet_runs.specs.declared.event.Event.{Event}
use Rattle.mdb_fleet_runs.specs.Events.{SpellsEvent, SpellsCount, event_text, count_text}
use Rattle.mdb_fleets.specs.ReplicaSet.{new_set}
use Rattle.mdb_fleet_runs.specs.declared.harness.Harness.{Harness}
use Rattle.mdb_fleet_runs.specs.Harnesses.{Watches}
use Rattle.mdb_fleet_runs.specs.Trials.{Trial, fleet_options, opened, log_in, begun, outcome, trial_of}
use Rattle.mdb_fleet_runs.specs.FleetText.{line_text, text_after}

-- an event's line, with its newline
abbrev pub line_of : Event → List ℕ
line_of e = event_text e ++ codes "\n"

abbrev pub AreEvents : List Event → Type 0
AreEvents [] = Unit {0}
AreEvents (e ∷ es) = SpellsEvent (event_text e) e × AreEvents es

-- The first line of the input is of n members, and the next ones are those of the events.
pub record Begins (input : List ℕ) (n : ℕ) (events : List Event) (more : List (List ℕ)) : Type 0 where
  pub cut : lines_of input ≡ (count_text n ++ codes "\n") ∷ (map line_of events ++ more)
  pub count : SpellsCount (count_text n) n
  pub each : AreEvents events

-- the text of a run of n members
abbrev pub text_of : ℕ → List Event → List ℕ
text_of n events = text_after n (begun n) events

-- Before the events and after each of them some driver with these options stood for the log.
abbrev pub StoodFrom : ℕ → Trial → List Event → Type 0
StoodFrom n t [] = Stood (fleet_options n) (log_in n t)
StoodFrom n t (e ∷ es) = Stood (fleet_options n) (log_in n t) × StoodFrom n (outcome n t e).trial es

-- A driver was opened with the members as seeds, and stood for the log before and after each of the events.
pub record StoodEach (n : ℕ) (events : List Event) : Type 0 where
  pub opens : OpensSeeds (fleet_options n) (history_of (opened n ∷ []))
  pub each : StoodFrom n (begun n) events

-- The lines of the input are those of n members and of the events, the log is that of the driver to which they happened, legal, and the sink took their text.
pub record Played (input : List ℕ) (n : ℕ) (events : List Event) (log : List Entry) (held new_held : Option Held) (faults new_faults : ℕ) : Type 0 where
  pub begins : Begins input n events []
  pub answers : log ≡ log_in n (trial_of n events)
  pub legal : IsLegalLog log
  pub stood : StoodEach n events
  pub taken : Took held new_held (text_of n events)
  pub same : new_faults ≡ faults

-- No input was there; or it was played.
abbrev pub Ran : List ℕ → List Entry → Option Held → Option Held → ℕ → ℕ → Type 0
Ran input log held new_held faults new_faults =
    ((input ≡ []) × (log ≡ []) × Took held new_held [] × (new_faults ≡ faults))
    ⊎ ((n : ℕ) × (events : List Event) × Played input n events log held new_held faults new_faults)

-- no number of members, and no event, is spelled by a line, given with its newline
abbrev pub IsBadCount : List ℕ → Type 0
IsBadCount line = (n : ℕ) → SpellsCount (count_text n) n → line ≡ count_text n ++ codes "\n" → ⊥

abbrev pub IsBad : List ℕ → Type 0
IsBad line = (e : Event) → SpellsEvent (event_text e) e → line ≡ line_of e → ⊥

-- What a first line opens: a harness of so many members; or memory ran out, or it spells none.
abbrev pub OpenRuns : List ℕ → List Entry → Result Harness RunError → Type 0
OpenRuns line log (Ok f) = (n : ℕ) × SpellsCount line n × (f.fleet ≡ new_set n) × (log ≡ opened n ∷ []) × Watches n f log
OpenRuns line log (Err errors.OutOfMemory) = Unit {0}
OpenRuns line log (Err (errors.Malformed m)) = (m ≡ 1) × ((n : ℕ) → SpellsCount line n → ⊥)
OpenRuns line log (Err e) = ⊥

-- What one line does to the trial, given its events' outcome, and to the sink.
abbrev pub LineRuns : ℕ → ℕ → List ℕ → Trial → Trial → Option Held → Option Held → ℕ → ℕ → Result (Unit {0}) RunError → Type 0
LineRuns n number line t u held new_held faults new_faults (Ok x) =
    (e : Event) × SpellsEvent line e × (u ≡ (outcome n t e).trial) × Took held new_held (line_text n e (outcome n t e)) × (new_faults ≡ faults)
LineRuns n number line t u held new_held faults new_faults (Err errors.OutOfMemory) = Took held new_held [] × (new_faults ≡ faults)
LineRuns n number line t u held new_held faults new_faults (Err errors.ReadFault) = ⊥
LineRuns n number line t u held new_held faults new_faults (Err errors.WriteFault) =
    (e : Event) × SpellsEvent line e × TookFront held new_held (line_text n e (outcome n t e)) × Rose faults new_faults
LineRuns n number line t u held new_held faults new_faults (Err (errors.Malformed m)) =
    (m ≡ number) × ((e : Event) → SpellsEvent line e → ⊥) × Took held new_held [] × (new_faults ≡ faults)
LineRuns n number line t u held new_held faults new_faults (Err errors.TooLong) = ⊥

-- The events ended before their end, of which these had happened: for lack of memory, at a write error, or at a line that spells none.
abbrev pub EventsEnd : List ℕ → ℕ → List Event → List (List ℕ) → Option Held → Option Held → ℕ → ℕ → RunError → Type 0
EventsEnd input n events more held new_held faults new_faults errors.OutOfMemory = Begins input n events more × Took held new_held (text_of n events) × (new_faults ≡ faults)
EventsEnd input n events more held new_held faults new_faults errors.ReadFault = ⊥
EventsEnd input n events more held new_held faults new_faults errors.WriteFault = Begins input n events more × TookFront held new_held (text_of n events) × Rose faults new_faults
EventsEnd input n events more held new_held faults new_faults (errors.Malformed m) =
    (bad : List ℕ) × Begins input n events (bad ∷ more) × (m ≡ 2 + length events) × IsBad bad × Took held new_held (text_of n events) × (new_faults ≡ faults)
EventsEnd input n events more held new_held faults new_faults errors.TooLong = ⊥

-- So did the lines; or the first line gave no members, and nothing was written: for lack of memory, or where it spells none.
abbrev pub FirstEnds : List ℕ → Option Held → Option Held → ℕ → ℕ → RunError → Type 0
FirstEnds input held new_held faults new_faults errors.OutOfMemory = Took held new_held [] × (new_faults ≡ faults)
FirstEnds input held new_held faults new_faults (errors.Malformed m) =
    (m ≡ 1) × ((bad : List ℕ) × (more : List (List ℕ)) × (lines_of input ≡ bad ∷ more) × IsBadCount bad) × Took held new_held [] × (new_faults ≡ faults)
FirstEnds input held new_held faults new_faults e = ⊥

abbrev pub RunEnds : List ℕ → Option Held → Option Held → ℕ → ℕ → RunError → Type 0
RunEnds input held new_held faults new_faults e =
    FirstEnds input held new_held faults new_faults e
    ⊎ ((n : ℕ) × (events : List Event) × (more : List (List ℕ)) × EventsEnd input n events more held new_held faults new_faults e)

-- What a run saw of its source and did to its sink: bytes left, reads that failed, bytes taken, and writes that failed.
pub record Seen : Type 0 where
  pub left : Option (List ℕ)
  pub reads : ℕ
  pub held : Option Held
  pub writes : ℕ

-- A run ended with this log: the source was read to its end, and the sink took the text and flushed it.
pub record Finished (old new : Seen) (log : List Entry) : Type 0 where
  pub input : List ℕ
  pub read : ReadsAll max_input old.left new.left old.reads new.reads input
  pub ran : Ran input log old.held new.held old.writes new.writes
  pub flushed : IsFlushed new.held

-- A run ended before its end, with this cause.
abbrev pub Ended : Seen → Seen → RunError → Type 0
Ended old new errors.OutOfMemory =
    (new.reads ≡ old.reads) × (new.writes ≡ old.writes)
    × (Took old.held new.held [] ⊎ ((input : List ℕ) × ReadsAll max_input old.left new.left old.reads new.reads input × RunEnds input old.held new.held old.writes new.writes errors.OutOfMemory))
Ended old new errors.ReadFault = Rose old.reads new.reads × (new.writes ≡ old.writes) × Took old.held new.held []
Ended old new errors.WriteFault =
    (input : List ℕ) × ReadsAll max_input old.left new.left old.reads new.reads input
    × (RunEnds input old.held new.held old.writes new.writes errors.WriteFault ⊎ ((input ≡ []) × Took old.held new.held [] × Rose old.writes new.writes))
Ended old new (errors.Malformed n) = (input : List ℕ) × ReadsAll max_input old.left new.left old.reads new.reads input × RunEnds input old.held new.held old.writes new.writes (errors.Malformed n)
Ended old new errors.TooLong =
    (new.reads ≡ old.reads) × (new.writes ≡ old.writes) × Took old.held new.held []
    × ((bytes : List ℕ) × Consumes old.left new.left bytes × (max_input < length bytes))

-- The answer is this error, unless memory ran out.
abbrev pub EndsWith : RunError → Result (List Entry) RunError → Type 0
EndsWith e (Ok log) = ⊥
EndsWith e (Err f) = (f ≡ e) ⊎ (f ≡ errors.OutOfMemory)

-- The first line of the input that spells nothing is the one with this number: the first one, or one behind some events.
abbrev pub IsBadAt : List ℕ → ℕ → Type 0
IsBadAt input number =
    ((number ≡ 1) × ((bad : List ℕ) × (more : List (List ℕ)) × (lines_of input ≡ bad ∷ more) × IsBadCount bad))
    ⊎ ((n : ℕ) × (events : List Event) × (bad : List ℕ) × (more : List (List ℕ)) × Begins input n events (bad ∷ more) × (number ≡ 2 + length events) × IsBad bad)
