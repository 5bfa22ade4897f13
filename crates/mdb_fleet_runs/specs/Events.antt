-- The lines of a run: the number of members, and events.
use Rattle.std.specs.Prelude.{◌≡◌, ℕ, ◌^◌, ◌<◌, ◌≤◌, List, ◌++◌, codes, decimal, IsTrue}
use Rattle.mdb_lines.specs.Grammar.{is_printable}
use Rattle.mdb_fleet_runs.specs.declared.event.Event.{Event}
use Rattle.mdb_fleet_runs.specs.declared.event.FleetAct.{FleetAct}
use Rattle.mdb_fleet_runs.specs.declared.event.FleetAct.TheVariants as act

-- the word of an act
abbrev pub word_of : FleetAct → List ℕ
word_of (act.Elect k) = codes "elect"
word_of (act.StepDown k) = codes "down"
word_of (act.Reconf k) = codes "reconf"
word_of (act.Ask k) = codes "ask"
word_of (act.Deliver i) = codes "deliver"
word_of (act.Lose k) = codes "lose"

-- the number of its member or of its reply
abbrev pub number_of : FleetAct → ℕ
number_of (act.Elect k) = k
number_of (act.StepDown k) = k
number_of (act.Reconf k) = k
number_of (act.Ask k) = k
number_of (act.Deliver i) = i
number_of (act.Lose k) = k

-- an event as it is spelled: the word, the moment and the number
abbrev pub event_text : Event → List ℕ
event_text e = word_of e.act ++ (codes " " ++ (decimal e.moment ++ (codes " " ++ decimal (number_of e.act))))

-- a first line
abbrev pub count_text : ℕ → List ℕ
count_text n = codes "fleet " ++ decimal n

-- The line, given without its newline, spells the event.
pub record SpellsEvent (line : List ℕ) (e : Event) : Type 0 where
  pub moment : e.moment < 2 ^ 64
  pub number : number_of e.act < 2 ^ 32
  pub printable : IsTrue (is_printable line)
  pub text : line ≡ event_text e

-- The line, given without its newline, spells a number of 1 to 50 members.
pub record SpellsCount (line : List ℕ) (n : ℕ) : Type 0 where
  pub some : 1 ≤ n
  pub few : n ≤ 50
  pub printable : IsTrue (is_printable line)
  pub text : line ≡ count_text n
