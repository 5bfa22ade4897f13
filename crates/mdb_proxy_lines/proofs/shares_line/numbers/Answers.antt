use Rattle.std.proofs.Common.{◌≡◌, Some, None, sym, arith, rules}
use Rattle.std.specs.Prelude.{decimal}
use Rattle.std.proofs.lemmas.Str.Pattern.{split_once_first}
use Rattle.mdb_parts.proofs.CommaLemmas.{leaves_all, leaves_split, leaves_last}
use Rattle.mdb_proxy_lines.specs.ProxyLines.{is_share}
use Rattle.mdb_proxy_lines.proofs.Reading.{share-lacks, handed_on}
use Rattle.mdb_proxy_lines.proofs.shares_line.numbers.Goals as goal

pub loop-first-init : goal.loop-first-init
loop-first-init c = (c.utf8.text, λ shares some hold e. rw c.new-found.ensures.items (leaves_all decimal is_share shares c.args.text.now some hold e))

pub returns-in_err-share : goal.returns-in_err-share
returns-in_err-share c = λ shares some hold e.
    let l = c.loop-first in
    let around = split_once_first 44 l.rest.now (Some (c.in-Some.first, c.in-Some.more)) c.in-Some.ensures.cases (omega arith) in
    let took = leaves_split decimal is_share share-lacks shares l.found.items l.rest.now c.in-Some.first.now c.in-Some.more.now (l.invariant.1 shares some hold e) (record { inside = around.0; before = around.1; after = around.2 }) in
    handed_on (λ v. v.items ≡ shares) c.from_residual.result c.in_err-share.field-0.0 (c.in_err-share.ensures took.taken took.own took.text) c.from_residual.ensures.1

pub loop-first-preserved : goal.loop-first-preserved
loop-first-preserved c = (
  search rules,
  λ shares some hold e.
      let l = c.loop-first in
      let around = split_once_first 44 l.rest.now (Some (c.in-Some.first, c.in-Some.more)) c.in-Some.ensures.cases (omega arith) in
      let took = leaves_split decimal is_share share-lacks shares l.found.items l.rest.now c.in-Some.first.now c.in-Some.more.now (l.invariant.1 shares some hold e) (record { inside = around.0; before = around.1; after = around.2 }) in
      let same = c.in_ok-share.ensures took.taken took.own took.text in
      rw (c.in_ok-push.ensures.items, same) took.left,
)

pub returns-in_err-share-2 : goal.returns-in_err-share-2
returns-in_err-share-2 c = λ shares some hold e.
    let l = c.loop-first in
    let none = split_once_first 44 l.rest.now None c.in_default.ensures.cases (omega arith) in
    let last = leaves_last decimal is_share share-lacks shares l.found.items l.rest.now (l.invariant.1 shares some hold e) none in
    handed_on (λ v. v.items ≡ shares) c.from_residual-in_err-share-2.result c.in_err-share-2.field-0.0 (c.in_err-share-2.ensures last.0 last.1 last.2) c.from_residual-in_err-share-2.ensures.1

pub returns : goal.returns
returns c = λ shares some hold e.
    let l = c.loop-first in
    let none = split_once_first 44 l.rest.now None c.in_default.ensures.cases (omega arith) in
    let last = leaves_last decimal is_share share-lacks shares l.found.items l.rest.now (l.invariant.1 shares some hold e) none in
    let same = c.in_ok-share-2.ensures last.0 last.1 last.2 in
    rw (c.in_ok-push-2.ensures.items, same) (sym last.3)
