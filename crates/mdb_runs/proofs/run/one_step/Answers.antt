use Rattle.std.proofs.Common.{◌∙◌, ap, length, slice_get, ◌-◌}
use Rattle.mdb_driver_rules.specs.Lines.{entry_after}
use Rattle.mdb_runs.proofs.Spelled.{last-spelled}
use Rattle.mdb_runs.proofs.run.one_step.Goals as goal

pub write_entry-requires : goal.write_entry-requires
write_entry-requires g c =
    let log = c.args.log.now in
    let step = c.args.step.now in
    let value = ap (λ xs. slice_get xs (length xs - 1)) c.entries.ensures in
    last-spelled log c.step.new.log (entry_after 0 log step) c.in-Some.entry.now c.in_ok-step.ensures.ok (c.in-Some.ensures.value ∙ value) c.requires.taken
