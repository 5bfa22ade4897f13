-- The text of a legal log is a legal one, where its lines show its entries.
use Rattle.std.proofs.Common.{ℕ, ◌+◌, ◌≡◌, List, [], ◌∷◌, map, length, refl, sym, subst}
use Rattle.std.proofs.lemmas.List.{length-map}
use Rattle.mdb_log.specs.declared.log.Entry.{Entry}
use Rattle.mdb_log.specs.PlainLegal.{LegalLog}
use Rattle.mdb_lines.specs.LogText.{text_of}
use Rattle.mdb_entries.specs.Answers.{shown_line, ShowAll, TextShows}
use Rattle.mdb_entries.specs.OfLog.{shown_of}
use Rattle.mdb_judging.proofs.LegalShown.{legal-log-shown}
use Rattle.mdb_audit.specs.LegalText.{IsLine, AreLines, IsVerdict}
use Rattle.mdb_audit.specs.declared.verdict.Verdict.TheVariants.{Legal}

lines-shown : (n : ℕ) (log : List Entry) → ShowAll n log → AreLines n (map shown_line log) (map shown_of log)
lines-shown n [] s = tt
lines-shown n (e ∷ log) s = (record { text = refl; shows = s.0 }, lines-shown (n + 1) log s.1)

pub legal-text : (log : List Entry) → TextShows log → LegalLog log → IsVerdict (text_of log) (Legal (length log))
legal-text log t legal = record {
  entries = map shown_of log;
  all = subst (λ lines. AreLines 1 lines (map shown_of log)) (sym t.lines) (lines-shown 1 log t.shows);
  count = sym (length-map log shown_of);
  legal = legal-log-shown log legal;
}
