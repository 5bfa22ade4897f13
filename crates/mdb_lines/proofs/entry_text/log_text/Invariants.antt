use Rattle.std.proofs.Common.{◌≡◌, take}
use Rattle.mdb_lines.specs.LogText.{text_of}
use Rattle.mdb_lines.proofs.entry_text.log_text.Given as goal

abbrev pub invariant-loop-entry : goal.invariant-loop-entry
invariant-loop-entry l = l.text.items ≡ text_of (take l.entry-index l.entries)
