use Rattle.std.proofs.Common.{◌≡◌, ◌<◌, ◌≤◌, false, length, get_or, nat_lt, nat_le, rules, refl, sym, ◌∙◌, ap, arith}
use Rattle.std.proofs.lemmas.List.{drop_more, drop_all}
use Rattle.std.proofs.lemmas.Bool.Decides.{nat_tests}
use Rattle.mdb_intervals.specs.Spans.{SpanSet, has, ended}
use Rattle.mdb_intervals.proofs.Members.{has-place}
use Rattle.mdb_intervals.proofs.spans.Spans.contains.Goals as goal

pub returns-then-at-len : goal.returns-then-at-len
returns-then-at-len c =
    let ss = c.self.inside.spans.items in
    let k = c.ended-at.result in
    let n = c.args.number in
    let e : k ≡ ended n ss = rw c.as_slice.ensures.value at c.ended-at.ensures.count in
    let l : k < length ss = search rules in
    let d = c.index.result.now in
    let r : d ≡ get_or ss k d = c.index.ensures in
    let there : has n ss ≡ nat_le d.from n = has-place 0 n ss c.self.invariant ∙ rw (← e, drop_more ss k d l, ← r) refl in
    sym there ∙ ap (λ (s : SpanSet). has n s.spans) c.self.view_is

pub returns-else-at-len : goal.returns-else-at-len
returns-else-at-len c =
    let ss = c.self.inside.spans.items in
    let k = c.ended-at.result in
    let n = c.args.number in
    let e : k ≡ ended n ss = rw c.as_slice.ensures.value at c.ended-at.ensures.count in
    let g : length ss ≤ k = search rules in
    let out : nat_lt k c.len.result ≡ false = grind (arith, nat_tests, c.if-at-len.false) in
    let there : has n ss ≡ false = has-place 0 n ss c.self.invariant ∙ rw (← e, drop_all k ss g) refl in
    out ∙ (sym there ∙ ap (λ (s : SpanSet). has n s.spans) c.self.view_is)
