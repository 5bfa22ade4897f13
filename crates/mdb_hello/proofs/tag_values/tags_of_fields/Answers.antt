use Rattle.std.proofs.Common.{◌-◌, sym, ap, ◌∙◌, arith, map, take}
use Rattle.mdb_base.specs.Document.{named_content}
use Rattle.mdb_hello.specs.Kinds.{put_tag, put_tags}
use Rattle.mdb_hello.proofs.Tagged.{put_text, put_other, by_name_put}
use Rattle.mdb_hello.proofs.tag_values.tags_of_fields.Goals as goal

pub loop-at-preserved : goal.loop-at-preserved
loop-at-preserved c =
    let l = c.loop-at in
    let name = c.new.ensures ∙ c.in_ok-clone.ensures.cases in
    let value = c.new-text.ensures ∙ c.in_ok-from_str.ensures.ok in
    let put_is = c.in_ok-put.ensures in
    let before = map named_content (take (l.at - 1) c.args.fields.now) in (
      omega (arith, l.invariant.0),
      l.invariant.1
          ∙ put_text l.tags.items c.args.fields.now l.at c.index-fields-at.result c.in-Some.text.now l.invariant.0 c.loop-at-test.true c.index-fields-at.is (sym c.in-Some.ensures)
          ∙ sym (ap (λ tags. put_tags tags before) (put_is ∙ (λ i. put_tag (name i, value i) l.tags.items))),
      rw put_is (by_name_put (c.new.result, c.new-text.result) l.tags.items l.invariant.2),
    )

pub returns-in_default : goal.returns-in_default
returns-in_default c =
    let l = c.loop-at in
    sym (l.invariant.1 ∙ put_other l.tags.items c.args.fields.now l.at c.index-fields-at.result l.invariant.0 c.loop-at-test.true c.index-fields-at.is (sym c.in_default.ensures))
