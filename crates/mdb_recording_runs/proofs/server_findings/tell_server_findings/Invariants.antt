use Rattle.std.proofs.Common.{◌≡◌, List, length, option_map, string_bytes}
use Rattle.mdb_recording_servers.specs.ServerRules.{against, breaks, known_of}
use Rattle.mdb_recording_servers.specs.declared.event.Seen.{Seen}
use Rattle.mdb_recording_runs.specs.Report.{server_finding_line}
use Rattle.mdb_recording_runs.specs.RuleWords.{all_server_rules}
use Rattle.mdb_recording_runs.proofs.Found.{RulesLeft}
use Rattle.mdb_recording_runs.proofs.server_findings.tell_server_findings.Given as goal

abbrev pub invariant-loop-rule : goal.invariant-loop-rule
invariant-loop-rule l = (h : List Seen) → l.place.known.now ≡ known_of h l.place.seen.now.event → RulesLeft (λ rule. breaks rule h l.place.seen.now.event) (λ rule. server_finding_line (option_map (λ a. a.now) l.place.address) l.place.seen.now rule (against rule h l.place.seen.now.event)) all_server_rules l.rest (string_bytes l.initial.out) (string_bytes l.out) l.found

abbrev pub decreases-loop-rule : goal.decreases-loop-rule
decreases-loop-rule l = length l.rest
