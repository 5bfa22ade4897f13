use Rattle.std.proofs.Common.{sym, ap, ◌∙◌, arith, length, ◌<◌, ◌≤◌}
use Rattle.mdb_hello.specs.Kinds.{put_tag}
use Rattle.mdb_hello.proofs.Placed.{put_less, put_equal, put_end}
use Rattle.mdb_hello.proofs.tag_values.put.Goals as goal

pub returns-in-Less : goal.returns-in-Less
returns-in-Less c =
    let l = c.loop-at in
    let here : l.at < length l.tags.items = omega (arith, c.loop-at-test.true, c.len-at-end.ensures, ap (λ v. v.len) l.invariant.0, l.tags.ok.0) in
    c.in_ok-insert-in-Less.ensures.items
    ∙ put_less (l.name, c.args.value) l.tags.items l.at c.index.result.now here c.index.ensures
    (rw (← c.as_str.ensures, ← c.as_str-in-loop-at.ensures) (sym c.cmp.ensures ∙ c.in-Less.is)) l.invariant.2
    ∙ (λ i. put_tag (l.invariant.1 i, c.args.value) (l.invariant.0 i).items)

pub returns-in-Equal : goal.returns-in-Equal
returns-in-Equal c =
    let l = c.loop-at in
    let here : l.at < length l.tags.items = omega (arith, c.loop-at-test.true, c.len-at-end.ensures, ap (λ v. v.len) l.invariant.0, l.tags.ok.0) in
    put_equal (l.name, c.args.value) l.tags.items l.at c.index_mut.result.now c.index.result.now here c.index_mut.ensures.value c.index.ensures
    (rw (← c.as_str.ensures, ← c.as_str-in-loop-at.ensures) (sym c.cmp.ensures ∙ c.in-Equal.is)) l.invariant.2
    ∙ (λ i. put_tag (l.invariant.1 i, c.args.value) (l.invariant.0 i).items)

pub returns : goal.returns
returns c =
    let l = c.loop-at in
    let all : length l.tags.items ≤ l.at = omega (arith, c.loop-at-test.false, c.len-at-end.ensures, ap (λ v. v.len) l.invariant.0, l.tags.ok.0) in
    c.in_ok-push.ensures.items ∙ put_end (l.name, c.args.value) l.tags.items l.at all l.invariant.2
    ∙ (λ i. put_tag (l.invariant.1 i, c.args.value) (l.invariant.0 i).items)
