use Rattle.std.proofs.Common.{rules, ◌≡◌, Err, ap, ◌∙◌, string_bytes}
use Rattle.mdb_recording_runs.specs.Report.{read_of, report, verdict_of}
use Rattle.mdb_recording_runs.specs.Runs.{verdict_status}
use Rattle.mdb_recording_runs.proofs.Ending.{run-written}
use Rattle.mdb_recording_runs.proofs.tool.run.Goals as goal

pub returns : goal.returns
returns g c =
    let standard = c.args.standard in
    let slice : c.as_slice.result.now ≡ c.in-Ok.text.items = search rules in
    let bytes : c.as_bytes.result.now ≡ string_bytes c.in_ok-report.report.text = search rules in
    run-written standard _ _ c.in-Ok.text.items c.as_bytes.result.now c.verdict_status-status.result (Err c.in-Err-put.e) c.in-Ok.ensures.all
    (bytes ∙ c.in_ok-report.ensures.text ∙ ap (report standard) slice)
    (c.verdict_status-status.ensures ∙ ap verdict_status (c.in_ok-report.ensures.verdict ∙ ap (λ t. verdict_of (read_of standard t)) slice))
    c.in-Err-put.ensures
