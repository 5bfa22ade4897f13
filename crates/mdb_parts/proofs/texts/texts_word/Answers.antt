use Rattle.std.proofs.Common.{Some, None, sym, arith, rules}
use Rattle.std.proofs.lemmas.Str.Pattern.{split_once_first}
use Rattle.mdb_parts.specs.Reading.{lacks}
use Rattle.mdb_parts.proofs.CommaLemmas.{leaves_all, leaves_split, leaves_last}
use Rattle.mdb_parts.proofs.texts.texts_word.Goals as goal

pub loop-first-init : goal.loop-first-init
loop-first-init c = (c.utf8.word, λ all some hold e. rw c.new-found.ensures.items (leaves_all (λ t. t) (lacks 44) all c.args.word.now some hold e))

pub loop-first-preserved : goal.loop-first-preserved
loop-first-preserved c = (
  search rules,
  λ all some hold e.
      let l = c.loop-first in
      let around = split_once_first 44 l.rest.now (Some (c.in-Some.first, c.in-Some.more)) c.in-Some.ensures.cases (omega arith) in
      let took = leaves_split (λ t. t) (lacks 44) (λ x h. h) all l.found.items l.rest.now c.in-Some.first.now c.in-Some.more.now (l.invariant.1 all some hold e) (record { inside = around.0; before = around.1; after = around.2 }) in
      rw (c.in_ok-push.ensures.items, c.in_ok-text.ensures, took.text) took.left,
)

pub returns : goal.returns
returns c = λ all some hold e.
    let l = c.loop-first in
    let none = split_once_first 44 l.rest.now None c.in_default.ensures.cases (omega arith) in
    let last = leaves_last (λ t. t) (lacks 44) (λ x h. h) all l.found.items l.rest.now (l.invariant.1 all some hold e) none in
    rw (c.new.ensures, c.in_ok-push-2.ensures.items, c.in_ok-text-2.ensures, last.2) (sym last.3)
