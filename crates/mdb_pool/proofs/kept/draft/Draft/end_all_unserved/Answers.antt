use Rattle.std.proofs.Common.{◌≡◌, List, ℕ, ◌∙◌, ap, sym, subst, take}
use Rattle.std.specs.List.{slice_index}
use Rattle.std.proofs.lemmas.List.{take_more, take_all}
use Rattle.mdb_pool.specs.Core.{PoolCore}
use Rattle.mdb_pool.specs.Acts.Ended.{ended_all}
use Rattle.mdb_pool.specs.Kept.Values.{with_requests}
use Rattle.mdb_pool.proofs.Turns.EndUnserved.{none-ended, one-more-ended}
use Rattle.mdb_pool.proofs.kept.draft.Draft.end_all_unserved.Goals as goal

pub loop-number-init : goal.loop-number-init
loop-number-init c = none-ended c.args.self.now

pub loop-number-preserved : goal.loop-number-preserved
loop-number-preserved c =
    let s = c.args.self.now in let ks = c.args.numbers.now in let i = c.loop-number.number-index in
    subst (λ (js : List ℕ). c.end_unserved.new.self ≡ with_requests s (ended_all s js)) (sym (take_more ks i 0 c.loop-number-test.true))
    (one-more-ended s c.loop-number.self c.end_unserved.new.self (take i ks) (slice_index ks i) c.loop-number.invariant c.in_ok-end_unserved.ensures.core)

pub returns-clause-core : goal.returns-clause-core
returns-clause-core c =
    let s = c.args.self.now in
    c.loop-number.invariant ∙ ap (λ (js : List ℕ). with_requests s (ended_all s js)) (take_all c.loop-number.number-index c.args.numbers.now c.loop-number-test.false)

pub returns-clause-inner : goal.returns-clause-inner
returns-clause-inner c = ap (λ (p : PoolCore). p.kept.inner) c.loop-number.invariant

pub returns-in_err-end_unserved-clause-inner : goal.returns-in_err-end_unserved-clause-inner
returns-in_err-end_unserved-clause-inner c = c.end_unserved.ensures.inner ∙ ap (λ (p : PoolCore). p.kept.inner) c.loop-number.invariant
