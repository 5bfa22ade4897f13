-- How a line is read: it may take more than the grammar has, and what is read is compared with its spelling.
use Rattle.std.specs.Prelude.{◌≡◌, ℕ, ◌^◌, ◌<◌, List, ◌++◌, codes, decimal, bytes_eq, if◌then◌else◌, Option, Some, None, Result}
use Rattle.mdb_base.specs.AddressReading.{until, beyond}
use Rattle.mdb_parts.specs.declared.line_error.LineError.{LineError}
use Rattle.mdb_parts.specs.Reading.{Gives}
use Rattle.mdb_fleet_runs.specs.declared.event.Event.{Event}
use Rattle.mdb_fleet_runs.specs.declared.event.FleetAct.{FleetAct}
use Rattle.mdb_fleet_runs.specs.declared.event.FleetAct.TheVariants as act

-- the act that a word names
unfoldable pub act_of : List ℕ → ℕ → Option FleetAct
act_of word n =
    if bytes_eq word (codes "elect") then Some (act.Elect n)
    else if bytes_eq word (codes "down") then Some (act.StepDown n)
    else if bytes_eq word (codes "reconf") then Some (act.Reconf n)
    else if bytes_eq word (codes "ask") then Some (act.Ask n)
    else if bytes_eq word (codes "deliver") then Some (act.Deliver n)
    else if bytes_eq word (codes "lose") then Some (act.Lose n)
    else None

-- A word, a moment and a number are read.
abbrev pub ReadsEvent : List ℕ → Result Event LineError → Type 0
ReadsEvent line r =
    (a : FleetAct) (m n : ℕ) → m < 2 ^ 64 → n < 2 ^ 32 → act_of (until 32 line) n ≡ Some a
    → beyond 32 line ≡ codes " " ++ (decimal m ++ (codes " " ++ decimal n))
    → Gives (record { moment = m; act = a }) r
