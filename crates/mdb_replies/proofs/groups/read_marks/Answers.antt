use Rattle.std.proofs.Common.{drop, refl}
use Rattle.mdb_replies.specs.ReplyParts.{reply_parts}
use Rattle.mdb_replies.proofs.groups.read_marks.Goals as goal

pub returns : goal.returns
returns c = λ r more text.
    let hidden = c.bool_part-hidden.ensures r.hidden (drop 11 (reply_parts r more)) refl text in
    let secondary = c.bool_part-secondary.ensures r.secondary (drop 12 (reply_parts r more)) refl hidden.1 in
    let arbiter_only = c.bool_part-arbiter_only.ensures r.arbiter_only (drop 13 (reply_parts r more)) refl secondary.1 in
    let is_replica_set = c.bool_part-is_replica_set.ensures r.is_replica_set (drop 14 (reply_parts r more)) refl arbiter_only.1 in
    (rw (hidden.0, secondary.0, arbiter_only.0, is_replica_set.0) refl, is_replica_set.1)
