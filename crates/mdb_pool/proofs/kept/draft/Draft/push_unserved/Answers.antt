use Rattle.std.proofs.Common.{◌≡◌, ◌++◌, filter, take, sym, subst}
use Rattle.std.specs.List.{filter_map, slice_index}
use Rattle.std.proofs.lemmas.List.{take_more}
use Rattle.mdb_pool.specs.Kept.Values.{request_at, unserved_in}
use Rattle.mdb_pool.specs.Acts.Changes.{off_facts}
use Rattle.mdb_pool.proofs.Turns.EndUnserved.{number-told}
use Rattle.mdb_pool.proofs.kept.draft.Draft.push_unserved.Goals as goal

pub loop-number-preserved : goal.loop-number-preserved
loop-number-preserved c =
    let s = c.args.self.now in let ks = c.args.numbers.now in let i = c.loop-number.number-index in
    subst (λ js. c.push_numbered.new.facts.items ≡ c.args.facts.now.items ++ off_facts s c.args.moment (filter (λ q. unserved_in s q.phase) (filter_map (request_at s) js)))
    (sym (take_more ks i 0 c.loop-number-test.true))
    (number-told s c.args.moment (take i ks) (slice_index ks i) c.args.facts.now.items c.loop-number.facts.items c.push_numbered.new.facts.items c.loop-number.invariant c.in_ok-push_numbered.ensures)
