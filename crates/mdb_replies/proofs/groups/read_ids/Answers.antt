use Rattle.std.proofs.Common.{◌∙◌, drop, refl, option_map}
use Rattle.mdb_replies.specs.ReplyParts.{reply_parts}
use Rattle.mdb_replies.proofs.Handed.{handed_first}
use Rattle.mdb_replies.specs.Values.{tags_text}
use Rattle.mdb_replies.specs.Groups.{ids_of}
use Rattle.mdb_replies.proofs.ReplyLemmas.{reply_rules, reply_numbers}
use Rattle.mdb_replies.proofs.ValueLemmas.{words_lack-tags, words_lack-address}
use Rattle.mdb_replies.proofs.groups.read_ids.Goals as goal

pub returns-in_err-tags : goal.returns-in_err-tags
returns-in_err-tags c = λ r more types rule text.
    let k = reply_rules r rule in
    let n = reply_numbers r types k in
    let a = c.part.ensures (option_map tags_text r.tags) (drop 18 (reply_parts r more)) (words_lack-tags r.tags k.tags) refl text in
    let b = c.id_part-election.ensures r.election_id (drop 19 (reply_parts r more)) types.election refl a.1 in
    let d = c.part-2.ensures r.primary (drop 20 (reply_parts r more)) (words_lack-address r.primary k.primary) refl b.1 in
    let e = c.version_part-version.ensures r.topology_version (drop 21 (reply_parts r more)) types.version k.version refl d.1 in
    let f = c.i64_part-connection.ensures r.connection_id (drop 22 (reply_parts r more)) n refl e.1 in
    handed_first (ids_of r) _ c.from_residual.result c.in_err-tags.field-0.0 (c.in_err-tags.ensures r.tags k.tags a.0) c.from_residual.ensures.1

pub returns-in_err-primary : goal.returns-in_err-primary
returns-in_err-primary c = λ r more types rule text.
    let k = reply_rules r rule in
    let n = reply_numbers r types k in
    let a = c.part.ensures (option_map tags_text r.tags) (drop 18 (reply_parts r more)) (words_lack-tags r.tags k.tags) refl text in
    let b = c.id_part-election.ensures r.election_id (drop 19 (reply_parts r more)) types.election refl a.1 in
    let d = c.part-2.ensures r.primary (drop 20 (reply_parts r more)) (words_lack-address r.primary k.primary) refl b.1 in
    let e = c.version_part-version.ensures r.topology_version (drop 21 (reply_parts r more)) types.version k.version refl d.1 in
    let f = c.i64_part-connection.ensures r.connection_id (drop 22 (reply_parts r more)) n refl e.1 in
    handed_first (ids_of r) _ c.from_residual-in_err-primary.result c.in_err-primary.field-0.0 c.in_err-primary.ensures c.from_residual-in_err-primary.ensures.1

pub returns : goal.returns
returns c = λ r more types rule text.
    let k = reply_rules r rule in
    let n = reply_numbers r types k in
    let a = c.part.ensures (option_map tags_text r.tags) (drop 18 (reply_parts r more)) (words_lack-tags r.tags k.tags) refl text in
    let b = c.id_part-election.ensures r.election_id (drop 19 (reply_parts r more)) types.election refl a.1 in
    let d = c.part-2.ensures r.primary (drop 20 (reply_parts r more)) (words_lack-address r.primary k.primary) refl b.1 in
    let e = c.version_part-version.ensures r.topology_version (drop 21 (reply_parts r more)) types.version k.version refl d.1 in
    let f = c.i64_part-connection.ensures r.connection_id (drop 22 (reply_parts r more)) n refl e.1 in
    let tags = c.in_ok-tags.ensures r.tags k.tags a.0 in
    let primary = c.in_ok-primary.ensures ∙ d.0 in
    (rw (tags, b.0, primary, e.0, f.0) refl, f.1)
