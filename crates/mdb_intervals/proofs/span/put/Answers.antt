use Rattle.std.proofs.Common.{◌≡◌, ◌+◌, ◌-◌, ◌<◌, true, false, suc, length, get_or, drop, add-one, rules, sym, ◌∙◌, arith}
use Rattle.std.proofs.lemmas.List.{get_or_default, take_rest}
use Rattle.mdb_intervals.specs.Spans.{begins_after, ended}
use Rattle.mdb_intervals.proofs.Puts.{put-end, put-alone, put-before, put-inside, put-after, put-joined, some-after}
use Rattle.mdb_intervals.proofs.span.put.Goals as goal

pub returns-then-at-len-clause-items : goal.returns-then-at-len-clause-items
returns-then-at-len-clause-items c =
    let e : c.ended-at.result ≡ ended (c.args.number - 1) c.args.spans.now.items = rw (c.saturating_sub.ensures, c.as_slice.ensures.value) at c.ended-at.ensures.count in
    c.put_alone.ensures.items ∙ put-end c.args.number c.args.spans.now.items c.ended-at.result e (omega (arith, c.if-at-len.true, c.len.ensures, c.args.spans.now.ok.0))

pub returns-then-span-number-gt1-clause-items : goal.returns-then-span-number-gt1-clause-items
returns-then-span-number-gt1-clause-items c =
    let ss = c.args.spans.now.items in
    let k = c.ended-at.result in
    let e : k ≡ ended (c.args.number - 1) ss = rw (c.saturating_sub.ensures, c.as_slice.ensures.value) at c.ended-at.ensures.count in
    let l : k < length ss = search rules in
    let d = c.index-span.result.now in
    let r : d ≡ get_or ss k d = c.index-span.ensures in
    c.put_alone-then-span-number-gt1.ensures.items ∙ put-alone c.args.number ss k d e l (rw (← r) c.if-number-span.true) (rw (← r) c.if-span-number-gt1.true)

pub returns-else-span-number-gt1-clause-items : goal.returns-else-span-number-gt1-clause-items
returns-else-span-number-gt1-clause-items c =
    let ss = c.args.spans.now.items in
    let k = c.ended-at.result in
    let e : k ≡ ended (c.args.number - 1) ss = rw (c.saturating_sub.ensures, c.as_slice.ensures.value) at c.ended-at.ensures.count in
    let l : k < length ss = search rules in
    let d = c.index-span.result.now in
    let r : d ≡ get_or ss k d = c.index-span.ensures in
    let j : c.index_mut.result.now ≡ get_or ss k d = c.index_mut.ensures.value ∙ get_or_default ss k _ d l in
    rw j (put-before c.args.number ss k d e l (rw (← r) c.if-number-span.true) (rw (← r) c.if-span-number-gt1.false))

pub returns-then-begins_after-clause-items : goal.returns-then-begins_after-clause-items
returns-then-begins_after-clause-items c =
    let ss = c.args.spans.now.items in
    let k = c.ended-at.result in
    let e : k ≡ ended (c.args.number - 1) ss = rw (c.saturating_sub.ensures, c.as_slice.ensures.value) at c.ended-at.ensures.count in
    let l : k < length ss = search rules in
    let d = c.index-span.result.now in
    let r : d ≡ get_or ss k d = c.index-span.ensures in
    let meets : begins_after c.args.number (drop (suc k) ss) ≡ true = rw (c.deref.ensures.value, take_rest ss (k + 1), add-one k) at (sym c.begins_after.ensures ∙ c.if-begins_after.true) in
    let m : suc k < length ss = some-after c.args.number (suc k) ss meets in
    let j : c.index_mut-then-begins_after.result.now ≡ get_or ss k d = c.index_mut-then-begins_after.ensures.value ∙ get_or_default ss k _ d l in
    let t : c.index.result.now ≡ get_or ss (suc k) d = (rw (add-one k) at c.index.ensures) ∙ get_or_default ss (suc k) _ d m in
    c.remove-gone.ensures.items ∙ rw (j, t, add-one k) (put-joined c.args.number ss k d e l (rw (← r) c.if-number-span.false) (rw (← r) c.if-span-number.true) meets m)

pub returns-else-begins_after-clause-items : goal.returns-else-begins_after-clause-items
returns-else-begins_after-clause-items c =
    let ss = c.args.spans.now.items in
    let k = c.ended-at.result in
    let e : k ≡ ended (c.args.number - 1) ss = rw (c.saturating_sub.ensures, c.as_slice.ensures.value) at c.ended-at.ensures.count in
    let l : k < length ss = search rules in
    let d = c.index-span.result.now in
    let r : d ≡ get_or ss k d = c.index-span.ensures in
    let alone : begins_after c.args.number (drop (suc k) ss) ≡ false = rw (c.deref.ensures.value, take_rest ss (k + 1), add-one k) at (sym c.begins_after.ensures ∙ c.if-begins_after.false) in
    let j : c.index_mut-else-begins_after.result.now ≡ get_or ss k d = c.index_mut-else-begins_after.ensures.value ∙ get_or_default ss k _ d l in
    rw j (put-after c.args.number ss k d e l (rw (← r) c.if-number-span.false) (rw (← r) c.if-span-number.true) alone)

pub returns-else-span-number-clause-items : goal.returns-else-span-number-clause-items
returns-else-span-number-clause-items c =
    let ss = c.args.spans.now.items in
    let k = c.ended-at.result in
    let e : k ≡ ended (c.args.number - 1) ss = rw (c.saturating_sub.ensures, c.as_slice.ensures.value) at c.ended-at.ensures.count in
    let l : k < length ss = search rules in
    let d = c.index-span.result.now in
    let r : d ≡ get_or ss k d = c.index-span.ensures in
    put-inside c.args.number ss k d e l (rw (← r) c.if-number-span.false) (rw (← r) c.if-span-number.false)
