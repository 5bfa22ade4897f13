use Rattle.std.proofs.Common.{◌≡◌, List, length, string_bytes}
use Rattle.mdb_recordings.specs.Rules.{against, breaks, glance_of}
use Rattle.mdb_recordings.specs.declared.event.Recorded.{Recorded}
use Rattle.mdb_recording_runs.specs.Report.{finding_line}
use Rattle.mdb_recording_runs.specs.RuleWords.{all_rules}
use Rattle.mdb_recording_runs.proofs.Found.{RulesLeft}
use Rattle.mdb_recording_runs.proofs.findings.tell_findings.Given as goal

abbrev pub invariant-loop-rule : goal.invariant-loop-rule
invariant-loop-rule l = (h : List Recorded) → l.place.known.now ≡ glance_of h l.place.recorded.now → RulesLeft (λ rule. breaks l.place.standard rule h l.place.recorded.now) (λ rule. finding_line l.place.address.now l.place.recorded.now rule (against rule h l.place.recorded.now)) all_rules l.rest (string_bytes l.initial.out) (string_bytes l.out) l.found

abbrev pub decreases-loop-rule : goal.decreases-loop-rule
decreases-loop-rule l = length l.rest
