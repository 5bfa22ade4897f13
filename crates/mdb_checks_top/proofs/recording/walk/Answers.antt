use Rattle.std.proofs.Common.{[], ◌++◌, sym, ap}
use Rattle.mdb_recorders.specs.Recording.{Recording}
use Rattle.mdb_checks_top.proofs.recording.walk.Goals as goal

-- nothing was handed on yet
pub take-requires-clause-follows : goal.take-requires-clause-follows
take-requires-clause-follows g c κs within =
    let new = sym c.new-recorder.ensures in
    ([], ap (λ (r : Recording). r.done) new, (c.args.other.now.seen, ap (λ (r : Recording). r.held ++ c.args.other.now.seen) new))
