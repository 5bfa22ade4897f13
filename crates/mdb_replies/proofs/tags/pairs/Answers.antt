use Rattle.std.proofs.Common.{Some, None, sym, arith, rules}
use Rattle.std.proofs.lemmas.Str.Pattern.{split_once_first}
use Rattle.mdb_replies.specs.Values.{tag_text, is_tag}
use Rattle.mdb_parts.proofs.CommaLemmas.{leaves_all, leaves_split, leaves_last}
use Rattle.mdb_replies.proofs.ValueLemmas.{tag_no_comma}
use Rattle.mdb_parts.proofs.Wanting.{handed_on}
use Rattle.mdb_replies.proofs.tags.pairs.Goals as goal

pub loop-first-init : goal.loop-first-init
loop-first-init c = (c.utf8.word, λ all some hold e. rw c.new-found.ensures.items (leaves_all tag_text is_tag all c.args.word.now some hold e))

pub returns-in_err-tag : goal.returns-in_err-tag
returns-in_err-tag c = λ all some hold e.
    let l = c.loop-first in
    let around = split_once_first 44 l.rest.now (Some (c.in-Some.first, c.in-Some.more)) c.in-Some.ensures.cases (omega arith) in
    let took = leaves_split tag_text is_tag tag_no_comma all l.found.items l.rest.now c.in-Some.first.now c.in-Some.more.now (l.invariant.1 all some hold e) (record { inside = around.0; before = around.1; after = around.2 }) in
    handed_on all c.from_residual.result c.in_err-tag.field-0.0 (c.in_err-tag.ensures took.taken took.own took.text) c.from_residual.ensures.1

pub loop-first-preserved : goal.loop-first-preserved
loop-first-preserved c = (
  search rules,
  λ all some hold e.
      let l = c.loop-first in
      let around = split_once_first 44 l.rest.now (Some (c.in-Some.first, c.in-Some.more)) c.in-Some.ensures.cases (omega arith) in
      let took = leaves_split tag_text is_tag tag_no_comma all l.found.items l.rest.now c.in-Some.first.now c.in-Some.more.now (l.invariant.1 all some hold e) (record { inside = around.0; before = around.1; after = around.2 }) in
      let same = c.in_ok-tag.ensures took.taken took.own took.text in
      rw (c.in_ok-push.ensures.items, same) took.left,
)

pub returns-in_err-tag-2 : goal.returns-in_err-tag-2
returns-in_err-tag-2 c = λ all some hold e.
    let l = c.loop-first in
    let none = split_once_first 44 l.rest.now None c.in_default.ensures.cases (omega arith) in
    let last = leaves_last tag_text is_tag tag_no_comma all l.found.items l.rest.now (l.invariant.1 all some hold e) none in
    handed_on all c.from_residual-in_err-tag-2.result c.in_err-tag-2.field-0.0 (c.in_err-tag-2.ensures last.0 last.1 last.2) c.from_residual-in_err-tag-2.ensures.1

pub returns : goal.returns
returns c = λ all some hold e.
    let l = c.loop-first in
    let none = split_once_first 44 l.rest.now None c.in_default.ensures.cases (omega arith) in
    let last = leaves_last tag_text is_tag tag_no_comma all l.found.items l.rest.now (l.invariant.1 all some hold e) none in
    let same = c.in_ok-tag-2.ensures last.0 last.1 last.2 in
    rw (c.new.ensures, c.in_ok-push-2.ensures.items, same) (sym last.3)
