use Rattle.std.proofs.Common.{drop, refl}
use Rattle.mdb_replies.specs.ReplyParts.{reply_parts}
use Rattle.mdb_replies.proofs.groups.read_wires.Goals as goal

pub returns : goal.returns
returns c = λ r more types text.
    let timeout = c.u64_part-timeout.ensures r.logical_session_timeout_minutes (drop 15 (reply_parts r more)) types.timeout refl text in
    let min = c.i32_part-min.ensures r.min_wire_version (drop 16 (reply_parts r more)) types.min_wire refl timeout.1 in
    let max = c.i32_part-max.ensures r.max_wire_version (drop 17 (reply_parts r more)) types.max_wire refl min.1 in
    (rw (timeout.0, min.0, max.0) refl, max.1)
