use Rattle.std.proofs.Common.{drop, refl}
use Rattle.mdb_replies.specs.ReplyParts.{reply_parts}
use Rattle.mdb_replies.proofs.groups.read_roles.Goals as goal

pub returns : goal.returns
returns c = λ r more text.
    let is_writable_primary = c.bool_part-is_writable_primary.ensures r.is_writable_primary (drop 1 (reply_parts r more)) refl text in
    let is_master = c.bool_part-is_master.ensures r.is_master (drop 2 (reply_parts r more)) refl is_writable_primary.1 in
    let hello_ok = c.bool_part-hello_ok.ensures r.hello_ok (drop 3 (reply_parts r more)) refl is_master.1 in
    (rw (is_writable_primary.0, is_master.0, hello_ok.0) refl, hello_ok.1)
