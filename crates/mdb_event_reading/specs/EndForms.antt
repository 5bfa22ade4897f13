-- Which ends of requests a text spells, and what reading gives for each.
use Rattle.std.specs.Prelude.{◌≡◌, List, ℕ, ◌++◌, codes, Option, Some, None, Result, Bool, true, if◌then◌else◌, bytes_eq, MatchOption}
use Rattle.mdb_base.specs.AddressReading.{until, beyond}
use Rattle.mdb_base.specs.ErrorText.{error_text}
use Rattle.mdb_base.specs.declared.error.Error.{Error}
use Rattle.mdb_events.specs.declared.end.End.{End}
use Rattle.mdb_events.specs.declared.end.End.TheVariants as end
use Rattle.mdb_event_reading.specs.declared.end_kind.EndKind.{EndKind}
use Rattle.mdb_event_reading.specs.declared.end_kind.EndKind.TheVariants as kind
use Rattle.mdb_parts.specs.declared.line_error.LineError.{LineError}
use Rattle.mdb_parts.specs.ErrorParts.{is_error, IsErrorOfTypes}
use Rattle.mdb_parts.specs.Reading.{Gives}

-- the error of an end keeps the rules of errors
abbrev pub is_end : End → Bool
is_end (end.Cleared e) = is_error e
is_end (end.Failed e) = is_error e
is_end _ = true

abbrev pub IsEndOfTypes : End → Type 0
IsEndOfTypes (end.Cleared e) = IsErrorOfTypes e
IsEndOfTypes (end.Failed e) = IsErrorOfTypes e
IsEndOfTypes _ = Unit {0}

-- the end of this name
unfoldable pub end_kind : List ℕ → Option EndKind
end_kind word =
    if bytes_eq word (codes "Cleared") then Some kind.Cleared
    else if bytes_eq word (codes "Failed") then Some kind.Failed
    else if bytes_eq word (codes "Closed") then Some kind.Closed
    else if bytes_eq word (codes "Warmed") then Some kind.Warmed
    else if bytes_eq word (codes "Filled") then Some kind.Filled
    else if bytes_eq word (codes "GaveUp") then Some kind.GaveUp
    else if bytes_eq word (codes "TimedOut") then Some kind.TimedOut
    else None

-- an error behind the name
abbrev pub ReadsCause : (Error → End) → List ℕ → Result End LineError → Type 0
ReadsCause does text r = (e : Error) → IsErrorOfTypes e → is_error e ≡ true → text ≡ codes " " ++ error_text e → Gives (does e) r

abbrev pub ReadsEnd : EndKind → List ℕ → Result End LineError → Type 0
ReadsEnd kind.Cleared text r = ReadsCause (λ e. end.Cleared e) text r
ReadsEnd kind.Failed text r = ReadsCause (λ e. end.Failed e) text r
ReadsEnd kind.Closed text r = Gives end.Closed r
ReadsEnd kind.Warmed text r = Gives end.Warmed r
ReadsEnd kind.Filled text r = Gives end.Filled r
ReadsEnd kind.GaveUp text r = Gives end.GaveUp r
ReadsEnd kind.TimedOut text r = Gives end.TimedOut r

-- An end is read by its name. One of no name gives nothing.
abbrev pub ReadsEndNamed : List ℕ → Result End LineError → Type 0
ReadsEndNamed text r = MatchOption (end_kind (until 32 text)) (Unit {0}) (λ kind. ReadsEnd kind (beyond 32 text) r)
