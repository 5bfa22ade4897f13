use Rattle.std.proofs.Common.{drop, refl}
use Rattle.mdb_lines.specs.OpenLine.{open_parts}
use Rattle.mdb_lines.proofs.open_line.check_options.Goals as goal

pub returns : goal.returns
returns c = λ o types text.
    let heartbeat = c.u64_part-heartbeat.ensures o.heartbeat (drop 9 (open_parts o)) types.heartbeat refl text in
    let connect = c.u64_part-connect.ensures o.connect (drop 10 (open_parts o)) types.connect refl heartbeat.1 in
    let streaming = c.mode_part-streaming.ensures o.streaming (drop 11 (open_parts o)) refl connect.1 in
    (rw (heartbeat.0, connect.0, streaming.0) refl, streaming.1)
