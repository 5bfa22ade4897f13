use Rattle.std.proofs.Common.{◌∙◌, drop, refl}
use Rattle.mdb_replies.specs.ReplyParts.{reply_parts}
use Rattle.mdb_replies.proofs.Handed.{handed_first}
use Rattle.mdb_parts.proofs.WordLemmas.{words_lack-word}
use Rattle.mdb_replies.specs.Groups.{names_of}
use Rattle.mdb_replies.proofs.ReplyLemmas.{reply_rules}
use Rattle.mdb_replies.proofs.ValueLemmas.{words_lack-address}
use Rattle.mdb_replies.proofs.groups.read_names.Goals as goal

pub returns-in_err-msg : goal.returns-in_err-msg
returns-in_err-msg c = λ r more types rule text.
    let k = reply_rules r rule in
    let a = c.part.ensures r.msg (drop 7 (reply_parts r more)) (words_lack-word r.msg k.msg) refl text in
    let b = c.part-2.ensures r.me (drop 8 (reply_parts r more)) (words_lack-address r.me k.me) refl a.1 in
    let d = c.i32_part-set_version.ensures r.set_version (drop 9 (reply_parts r more)) types.set_version refl b.1 in
    let e = c.part-3.ensures r.set_name (drop 10 (reply_parts r more)) (words_lack-word r.set_name k.set_name) refl d.1 in
    handed_first (names_of r) _ c.from_residual.result c.in_err-msg.field-0.0 c.in_err-msg.ensures c.from_residual.ensures.1

pub returns-in_err-me : goal.returns-in_err-me
returns-in_err-me c = λ r more types rule text.
    let k = reply_rules r rule in
    let a = c.part.ensures r.msg (drop 7 (reply_parts r more)) (words_lack-word r.msg k.msg) refl text in
    let b = c.part-2.ensures r.me (drop 8 (reply_parts r more)) (words_lack-address r.me k.me) refl a.1 in
    let d = c.i32_part-set_version.ensures r.set_version (drop 9 (reply_parts r more)) types.set_version refl b.1 in
    let e = c.part-3.ensures r.set_name (drop 10 (reply_parts r more)) (words_lack-word r.set_name k.set_name) refl d.1 in
    handed_first (names_of r) _ c.from_residual-in_err-me.result c.in_err-me.field-0.0 c.in_err-me.ensures c.from_residual-in_err-me.ensures.1

pub returns-in_err-set_name : goal.returns-in_err-set_name
returns-in_err-set_name c = λ r more types rule text.
    let k = reply_rules r rule in
    let a = c.part.ensures r.msg (drop 7 (reply_parts r more)) (words_lack-word r.msg k.msg) refl text in
    let b = c.part-2.ensures r.me (drop 8 (reply_parts r more)) (words_lack-address r.me k.me) refl a.1 in
    let d = c.i32_part-set_version.ensures r.set_version (drop 9 (reply_parts r more)) types.set_version refl b.1 in
    let e = c.part-3.ensures r.set_name (drop 10 (reply_parts r more)) (words_lack-word r.set_name k.set_name) refl d.1 in
    handed_first (names_of r) _ c.from_residual-in_err-set_name.result c.in_err-set_name.field-0.0 c.in_err-set_name.ensures c.from_residual-in_err-set_name.ensures.1

pub returns : goal.returns
returns c = λ r more types rule text.
    let k = reply_rules r rule in
    let a = c.part.ensures r.msg (drop 7 (reply_parts r more)) (words_lack-word r.msg k.msg) refl text in
    let b = c.part-2.ensures r.me (drop 8 (reply_parts r more)) (words_lack-address r.me k.me) refl a.1 in
    let d = c.i32_part-set_version.ensures r.set_version (drop 9 (reply_parts r more)) types.set_version refl b.1 in
    let e = c.part-3.ensures r.set_name (drop 10 (reply_parts r more)) (words_lack-word r.set_name k.set_name) refl d.1 in
    let msg = c.in_ok-msg.ensures ∙ a.0 in
    let me = c.in_ok-me.ensures ∙ b.0 in
    let set_name = c.in_ok-set_name.ensures ∙ e.0 in
    (rw (msg, me, d.0, set_name) refl, e.1)
