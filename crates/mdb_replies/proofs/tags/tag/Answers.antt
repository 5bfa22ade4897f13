use Rattle.std.proofs.Common.{◌∙◌, refl}
use Rattle.mdb_parts.proofs.Wanting.{handed_on}
use Rattle.mdb_replies.proofs.ValueLemmas.{tag_cut}
use Rattle.mdb_replies.proofs.tags.tag.Goals as goal

pub returns-in_err-value : goal.returns-in_err-value
returns-in_err-value c = λ t rule e.
    let p = tag_cut t c.args.word.now rule e in
    handed_on _ c.from_residual.result c.in_err-value.field-0.0 (c.in_err-value.ensures t.1 (c.cut.ensures.rest ∙ p.1)) c.from_residual.ensures.1

pub returns : goal.returns
returns c = λ t rule e.
    let p = tag_cut t c.args.word.now rule e in
    let value = c.in_ok-value.ensures t.1 (c.cut.ensures.rest ∙ p.1) in
    rw (c.in_ok-name.ensures, c.in_ok-value-2.ensures, value, c.cut.ensures.front, p.0) refl
