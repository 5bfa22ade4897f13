use Rattle.std.proofs.Common.{◌≡◌, ◌+◌, ◌≤◌, length, is_some, sym, arith, subst}
use Rattle.std.specs.List.{count_by}
use Rattle.std.proofs.lemmas.List.Sums.{count_by-le-length, length-filter}
use Rattle.mdb_pool.specs.Kept.Values.{kept_requests, unserved_in}
use Rattle.mdb_pool.specs.Kept.Places.{is_queued}
use Rattle.mdb_pool.specs.Acts.Changes.{pending_ones, unserved_ones}
use Rattle.mdb_pool.proofs.KeptInLittle.AskedOfThoseThatStay.{unserved-kept}
use Rattle.mdb_pool.proofs.Turns.CountUnserved.{unserved-count}
use Rattle.mdb_pool.proofs.kept.draft.Draft.unserved_count.Goals as goal

pub returns : goal.returns
returns c = λ xs z.
    let s = c.args.self.now in
    let all : length (unserved_ones s) ≡ count_by (λ q. is_queued q.phase) s.kept.requests + count_by (λ x. is_some x.holder) (pending_ones s) = unserved-count s xs z in
    let kept = kept_requests s in
    let most : length (unserved_ones s) ≤ length kept = subst (λ qs. length qs ≤ length kept) (unserved-kept s) (subst (λ n. n ≤ length kept) (sym (length-filter (λ q. unserved_in s q.phase) kept)) (count_by-le-length (λ q. unserved_in s q.phase) kept)) in
    omega (arith, c.saturating_add.ensures, c.queued_count.ensures, c.awaited_count.ensures, all, most, c.asked-requests.ensures.value, c.asked-requests.type_inv)
