use Rattle.std.proofs.Common.{rules, length, ◌≡◌, string_bytes}
use Rattle.mdb_recordings.specs.Rules.{against, breaks}
use Rattle.mdb_recording_runs.specs.Report.{finding_line}
use Rattle.mdb_recording_runs.specs.RuleWords.{all_rules}
use Rattle.mdb_recording_runs.proofs.Found.{rules-start, rules-next, rules-end}
use Rattle.mdb_recording_runs.proofs.findings.tell_findings.Goals as goal

pub loop-rule-init : goal.loop-rule-init
loop-rule-init c = λ h known.
    let p = c.args.place.now in
    rules-start (λ rule. breaks p.standard rule h p.recorded.now) (λ rule. finding_line p.address.now p.recorded.now rule (against rule h p.recorded.now)) all_rules c.all_rules-rest.result.now (string_bytes c.args.out.now) c.all_rules-rest.ensures

pub loop-rule-preserved : goal.loop-rule-preserved
loop-rule-preserved c = λ h known.
    let p = c.args.place.now in
    let l = c.loop-rule in
    rules-next (λ rule. breaks p.standard rule h p.recorded.now) (λ rule. finding_line p.address.now p.recorded.now rule (against rule h p.recorded.now)) all_rules l.rest.now c.in-Some.more.now c.in-Some.rule.now (string_bytes c.args.out.now) (string_bytes l.out) (string_bytes c.tell_rule.new.out) l.found c.in_ok-one.one c.in_ok-next.next
    c.in-Some.ensures.cases.0 (c.in_ok-one.ensures h known) c.in_ok-next.ensures (l.invariant h known)

pub returns : goal.returns
returns c = λ h known.
    let p = c.args.place.now in
    let none : length c.loop-rule.rest.now ≡ 0 = search rules in
    rules-end (λ rule. breaks p.standard rule h p.recorded.now) (λ rule. finding_line p.address.now p.recorded.now rule (against rule h p.recorded.now)) all_rules c.loop-rule.rest.now (string_bytes c.args.out.now) (string_bytes c.loop-rule.out) c.loop-rule.found none (c.loop-rule.invariant h known)
