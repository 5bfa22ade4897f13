use Rattle.std.proofs.Common.{drop, refl, option_map}
use Rattle.mdb_replies.specs.ReplyParts.{reply_parts}
use Rattle.mdb_parts.specs.Parts.{texts}
use Rattle.mdb_replies.proofs.Handed.{handed_first}
use Rattle.mdb_replies.specs.Groups.{members_of}
use Rattle.mdb_replies.proofs.ReplyLemmas.{reply_rules}
use Rattle.mdb_replies.proofs.ValueLemmas.{words_lack-hosts}
use Rattle.mdb_replies.proofs.groups.read_members.Goals as goal

pub returns-in_err-hosts : goal.returns-in_err-hosts
returns-in_err-hosts c = λ r more rule text.
    let k = reply_rules r rule in
    let a = c.part.ensures (option_map texts r.hosts) (drop 4 (reply_parts r more)) (words_lack-hosts r.hosts k.hosts) refl text in
    let b = c.part-2.ensures (option_map texts r.passives) (drop 5 (reply_parts r more)) (words_lack-hosts r.passives k.passives) refl a.1 in
    let d = c.part-3.ensures (option_map texts r.arbiters) (drop 6 (reply_parts r more)) (words_lack-hosts r.arbiters k.arbiters) refl b.1 in
    handed_first (members_of r) _ c.from_residual.result c.in_err-hosts.field-0.0 (c.in_err-hosts.ensures r.hosts k.hosts a.0) c.from_residual.ensures.1

pub returns-in_err-passives : goal.returns-in_err-passives
returns-in_err-passives c = λ r more rule text.
    let k = reply_rules r rule in
    let a = c.part.ensures (option_map texts r.hosts) (drop 4 (reply_parts r more)) (words_lack-hosts r.hosts k.hosts) refl text in
    let b = c.part-2.ensures (option_map texts r.passives) (drop 5 (reply_parts r more)) (words_lack-hosts r.passives k.passives) refl a.1 in
    let d = c.part-3.ensures (option_map texts r.arbiters) (drop 6 (reply_parts r more)) (words_lack-hosts r.arbiters k.arbiters) refl b.1 in
    handed_first (members_of r) _ c.from_residual-in_err-passives.result c.in_err-passives.field-0.0 (c.in_err-passives.ensures r.passives k.passives b.0) c.from_residual-in_err-passives.ensures.1

pub returns-in_err-arbiters : goal.returns-in_err-arbiters
returns-in_err-arbiters c = λ r more rule text.
    let k = reply_rules r rule in
    let a = c.part.ensures (option_map texts r.hosts) (drop 4 (reply_parts r more)) (words_lack-hosts r.hosts k.hosts) refl text in
    let b = c.part-2.ensures (option_map texts r.passives) (drop 5 (reply_parts r more)) (words_lack-hosts r.passives k.passives) refl a.1 in
    let d = c.part-3.ensures (option_map texts r.arbiters) (drop 6 (reply_parts r more)) (words_lack-hosts r.arbiters k.arbiters) refl b.1 in
    handed_first (members_of r) _ c.from_residual-in_err-arbiters.result c.in_err-arbiters.field-0.0 (c.in_err-arbiters.ensures r.arbiters k.arbiters d.0) c.from_residual-in_err-arbiters.ensures.1

pub returns : goal.returns
returns c = λ r more rule text.
    let k = reply_rules r rule in
    let a = c.part.ensures (option_map texts r.hosts) (drop 4 (reply_parts r more)) (words_lack-hosts r.hosts k.hosts) refl text in
    let b = c.part-2.ensures (option_map texts r.passives) (drop 5 (reply_parts r more)) (words_lack-hosts r.passives k.passives) refl a.1 in
    let d = c.part-3.ensures (option_map texts r.arbiters) (drop 6 (reply_parts r more)) (words_lack-hosts r.arbiters k.arbiters) refl b.1 in
    let hosts = c.in_ok-hosts.ensures r.hosts k.hosts a.0 in
    let passives = c.in_ok-passives.ensures r.passives k.passives b.0 in
    let arbiters = c.in_ok-arbiters.ensures r.arbiters k.arbiters d.0 in
    (rw (hosts, passives, arbiters) refl, d.1)
