use Rattle.std.proofs.Common.{Some, None}
use Rattle.mdb_parts.proofs.Wanting.{handed_on}
use Rattle.mdb_replies.proofs.ValueLemmas.{tag_rules, tags_made}
use Rattle.mdb_replies.proofs.tags.tags_word.Goals as goal

pub returns-in_err-pairs : goal.returns-in_err-pairs
returns-in_err-pairs c = λ all rule e.
    let r = tag_rules all rule in
    handed_on _ c.from_residual.result c.in_err-pairs.field-0.0 (c.in_err-pairs.ensures all r.some r.own e) c.from_residual.ensures.1

pub returns-in-Some : goal.returns-in-Some
returns-in-Some c = λ all rule e.
    let r = tag_rules all rule in
    let made = tags_made all c.in_ok-pairs.pairs (Some c.in-Some.tags) r.order (c.in_ok-pairs.ensures all r.some r.own e) c.in-Some.ensures in cc

pub returns-in-None : goal.returns-in-None
returns-in-None c = λ all rule e.
    let r = tag_rules all rule in
    let made = tags_made all c.in_ok-pairs.pairs None r.order (c.in_ok-pairs.ensures all r.some r.own e) c.in-None.ensures in absurd (cc)
