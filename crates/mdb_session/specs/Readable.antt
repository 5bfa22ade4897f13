-- Whether a line can spell what an entry's step tells of.
use Rattle.std.specs.Prelude.{◌≡◌, List, Bool, true}
use Rattle.mdb_log.specs.declared.log.Entry.{Entry}
use Rattle.mdb_log.specs.declared.step.Act.{Act}
use Rattle.mdb_log.specs.declared.step.Act.TheVariants as act
use Rattle.mdb_lines.specs.Grammar.{is_hello, is_beaten}
use Rattle.mdb_parts.specs.ErrorParts.{is_error}
use Rattle.mdb_session.specs.Sessions.{IsLast}

-- A reply, or the error of a hello, a check or an operation, keeps the rules of the grammar. Other acts tell of neither.
abbrev pub is_readable : Act → Bool
is_readable (act.Hello a p came) = is_hello came
is_readable (act.Beaten a p n came) = is_beaten came
is_readable (act.Error r e) = is_error e
is_readable _ = true

-- It is so of the last entry of the log, or is not.
abbrev pub IsLastReadable : List Entry → Bool → Type 0
IsLastReadable log readable = (e : Entry) × IsLast log e × (readable ≡ is_readable e.step.act)
