use Rattle.std.proofs.Common.{ap, ◌∙◌}
use Rattle.mdb_lines.specs.Script.{lines_of}
use Rattle.mdb_recording_runs.specs.Report.{lines_text, nothing, read_of, verdict_by}
use Rattle.mdb_recording_runs.proofs.text.judge.Goals as goal

pub returns-clause-text : goal.returns-clause-text
returns-clause-text c =
    let standard = c.args.standard in
    let text = c.args.text.now in
    (c.in_ok-tell_end.ensures standard (read_of standard text) (lines_text standard 1 nothing (lines_of text)) (c.in_ok-take_lines.ensures standard c.new-reader.ensures)).told

pub returns-clause-verdict : goal.returns-clause-verdict
returns-clause-verdict c =
    let standard = c.args.standard in
    let text = c.args.text.now in
    let ends = c.in_ok-tell_end.ensures standard (read_of standard text) (lines_text standard 1 nothing (lines_of text)) (c.in_ok-take_lines.ensures standard c.new-reader.ensures) in
    let s = read_of standard text in
    let r = c.tell_end.new.reader in
    c.by-verdict.ensures ∙ ap (λ n. verdict_by n r.malformed r.events) ends.findings ∙ ap (λ n. verdict_by s.findings n r.events) ends.malformed ∙ ap (λ n. verdict_by s.findings s.malformed n) ends.events
