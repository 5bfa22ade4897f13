use Rattle.std.proofs.Common.{[], refl}
use Rattle.mdb_parts.proofs.Wanting.{handed_on}
use Rattle.mdb_replies.proofs.ReplyLemmas.{reply_rules}
use Rattle.mdb_replies.specs.ReplyParts.{fields_text}
use Rattle.mdb_replies.proofs.reply_reading.reply.Goals as goal

pub returns-in_err-members : goal.returns-in_err-members
unfolding fields_text
returns-in_err-members c = λ r more types rule text.
    let k = reply_rules r rule in
    let roles = c.read_roles.ensures r more text in
    let members = c.in_err-members.ensures r more rule roles.1 in
    handed_on _ c.from_residual.result c.in_err-members.field-0.0 members c.from_residual.ensures.1

pub returns-in_err-names : goal.returns-in_err-names
unfolding fields_text
returns-in_err-names c = λ r more types rule text.
    let k = reply_rules r rule in
    let roles = c.read_roles.ensures r more text in
    let members = c.in_ok-members.ensures r more rule roles.1 in
    let names = c.in_err-names.ensures r more types rule members.1 in
    handed_on _ c.from_residual-in_err-names.result c.in_err-names.field-0.0 names c.from_residual-in_err-names.ensures.1

pub returns-in_err-ids : goal.returns-in_err-ids
unfolding fields_text
returns-in_err-ids c = λ r more types rule text.
    let k = reply_rules r rule in
    let roles = c.read_roles.ensures r more text in
    let members = c.in_ok-members.ensures r more rule roles.1 in
    let names = c.in_ok-names.ensures r more types rule members.1 in
    let marks = c.read_marks.ensures r more names.1 in
    let wires = c.read_wires.ensures r more types marks.1 in
    let ids = c.in_err-ids.ensures r more types rule wires.1 in
    handed_on _ c.from_residual-in_err-ids.result c.in_err-ids.field-0.0 ids c.from_residual-in_err-ids.ensures.1

pub returns : goal.returns
unfolding fields_text
returns c = λ r more types rule text.
    let k = reply_rules r rule in
    let roles = c.read_roles.ensures r more text in
    let members = c.in_ok-members.ensures r more rule roles.1 in
    let names = c.in_ok-names.ensures r more types rule members.1 in
    let marks = c.read_marks.ensures r more names.1 in
    let wires = c.read_wires.ensures r more types marks.1 in
    let ids = c.in_ok-ids.ensures r more types rule wires.1 in
    let flag = c.flag_part-more.ensures more [] refl ids.1 in
    rw (c.reply_of-reply.ensures r k.named k.sizes roles.0 members.0 names.0 marks.0 wires.0 ids.0, flag.0) refl
