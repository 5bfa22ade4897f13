use Rattle.std.proofs.Common.{take}
use Rattle.std.specs.Fmt.{HasWritten, IsPlainFormatter}
use Rattle.mdb_entries.specs.Facts.{shown_facts}
use Rattle.mdb_entries.proofs.entry_text.FactsTextDisplay.fmt.Given as goal

abbrev pub invariant-loop-fact : goal.invariant-loop-fact
invariant-loop-fact g l =
    IsPlainFormatter l.initial.f → HasWritten g.W.Write.write_str_gives l.initial.f (shown_facts (take l.fact-index l.fact-items)) l.f
