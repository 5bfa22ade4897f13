use Rattle.std.proofs.Common.{◌++◌, ◌∷◌, [], ◌∙◌, ap}
use Rattle.mdb_pool.specs.Acts.Changes.{available_ones, pending_ones, shut_facts, off_facts}
use Rattle.mdb_pool_rules.specs.Facts.{pool_closed_fact}
use Rattle.mdb_pool.proofs.Answered.Close.{all-end, all-told}
use Rattle.mdb_pool.proofs.kept.draft.Draft.close_open.Goals as goal

pub returns-clause-core : goal.returns-clause-core
returns-clause-core c = λ xs z. c.in_ok-close_with.ensures.core ∙ all-end c.args.self.now c.args.moment c.as_slice.result.now (c.as_slice.ensures.value ∙ c.in_ok-numbers.ensures xs z)

pub returns-clause-facts : goal.returns-clause-facts
returns-clause-facts c = λ xs z.
    let s = c.args.self.now in
    c.in_ok-close_with.ensures.facts ∙ ap (λ qs. (((c.args.facts.now.items ++ shut_facts s (available_ones s)) ++ shut_facts s (pending_ones s)) ++ off_facts s c.args.moment qs) ++ pool_closed_fact s.pool s.address ∷ []) (all-told s xs z c.as_slice.result.now (c.as_slice.ensures.value ∙ c.in_ok-numbers.ensures xs z))
