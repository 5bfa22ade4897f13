-- What reading gives for a line from the third on, by its first word.
use Rattle.std.specs.Prelude.{◌≡◌, ℕ, true, List, codes, bytes_eq, if◌then◌else◌, Result, Ok, Err}
use Rattle.std.specs.Bool.{MatchBool}
use Rattle.mdb_log.specs.declared.step.Act.{Act}
use Rattle.mdb_log.specs.declared.step.Act.TheVariants.{Collect as Collects}
use Rattle.mdb_parts.specs.declared.line_error.LineError.{LineError}
use Rattle.mdb_parts.specs.declared.line_error.LineError.TheVariants.{Bad}
use Rattle.mdb_parts.specs.Reading.{Gives}
use Rattle.mdb_proxies.specs.Passing.{is_passed}
use Rattle.mdb_proxies.specs.declared.step.ProxyAct.TheVariants.{Collect, Pass}
use Rattle.mdb_proxies.specs.declared.step.ProxyStep.{ProxyStep}
use Rattle.mdb_proxy_lines.specs.declared.line_reading.Word.{Word}
use Rattle.mdb_proxy_lines.specs.declared.line_reading.Word.TheVariants as word
use Rattle.mdb_proxy_lines.specs.ProxyLines.{SpellsStep}

-- the first word of an ask, of a finish, or of another line
unfoldable pub word_of : List ℕ → Word
word_of name = if bytes_eq name (codes "ask") then word.Ask else if bytes_eq name (codes "finish") then word.Finish else word.Other

-- the act of the core is a collect, or one that is passed
abbrev pub IsOther : ℕ → Act → Result ProxyStep LineError → Type 0
IsOther m (Collects n) r = r ≡ Ok (record { moment = m; act = Collect n })
IsOther m act r = MatchBool (is_passed act) (r ≡ Ok (record { moment = m; act = Pass act })) (r ≡ Err Bad)

-- a collect, or an act that is passed, is read
pub record ReadsOther (line : List ℕ) (r : Result ProxyStep LineError) : Type 0 where
  pub collects : (m n : ℕ) → SpellsStep line (record { moment = m; act = Collect n }) → Gives (record { moment = m; act = Collect n }) r
  pub passes : (m : ℕ) (act : Act) → SpellsStep line (record { moment = m; act = Pass act }) → Gives (record { moment = m; act = Pass act }) r
