-- The end was told.
use Rattle.std.proofs.Common.{◌≡◌, ℕ, List, ◌++◌, map, ap, ◌∙◌, append_assoc, string_bytes}
use Rattle.mdb_recordings.specs.Standing.{Stands}
use Rattle.mdb_recordings.specs.declared.event.Recorded.{Recorded}
use Rattle.mdb_recordings.specs.declared.standard.Standard.{Standard}
use Rattle.mdb_recording_runs.specs.Keeping.{Ends, Keeps}
use Rattle.mdb_recording_runs.specs.Report.{Read, counts_line, end_line, pools_text}
use Rattle.mdb_recording_runs.specs.declared.reader.Reader.{Reader}

pub end-told : (standard : Standard) (s : Read) (text mid line : List ℕ) (old new : Reader) → Keeps standard s text old
    → ((h : List Recorded) → Stands h old.judge → mid ≡ string_bytes old.out ++ pools_text h 0 (map string_bytes old.names.list.items))
    → line ≡ counts_line old.findings old.malformed old.events old.passed_over → string_bytes new.out ≡ mid ++ line → new.findings ≡ old.findings → new.malformed ≡ old.malformed → new.events ≡ old.events → Ends s text new
end-told standard s text mid line old new keeps pools is gains findings malformed events = record {
  told =
      gains ∙ ap (λ t. t ++ line) (pools s.history keeps.judge ∙ ap (λ names. string_bytes old.out ++ pools_text s.history 0 names) keeps.names.list ∙ ap (λ t. t ++ pools_text s.history 0 s.known) keeps.tells)
      ∙ ap (λ l. (text ++ pools_text s.history 0 s.known) ++ l) own ∙ append_assoc text (pools_text s.history 0 s.known) (end_line s);
  findings = findings ∙ keeps.findings;
  malformed = malformed ∙ keeps.malformed;
  events = events ∙ keeps.events;
}
  where
    own : line ≡ end_line s
    own =
        is ∙ ap (λ n. counts_line n old.malformed old.events old.passed_over) keeps.findings ∙ ap (λ n. counts_line s.findings n old.events old.passed_over) keeps.malformed
        ∙ ap (λ n. counts_line s.findings s.malformed n old.passed_over) keeps.events ∙ ap (λ n. counts_line s.findings s.malformed s.events n) keeps.passed_over
