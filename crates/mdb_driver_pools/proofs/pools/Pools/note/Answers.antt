use Rattle.std.proofs.Common.{◌||◌, sym, ◌∙◌, ap}
use Rattle.mdb_intervals.specs.Spans.{has as is_within}
use Rattle.mdb_driver_pools.proofs.InMemory.NewParties.{named-party, none-named}
use Rattle.mdb_driver_pools.proofs.pools.Pools.note.Goals as goal

pub returns-in-Some-clause-known : goal.returns-in-Some-clause-known
returns-in-Some-clause-known c = λ r. c.insert_ready.ensures.has r ∙ ap (λ b. b || is_within r c.args.self.now.known.spans) (named-party c.args.act.now c.in-Some.party r (sym c.named_by.ensures ∙ c.in-Some.is))

pub returns-in-None-clause-known : goal.returns-in-None-clause-known
returns-in-None-clause-known c = λ r. sym (ap (λ b. b || is_within r c.args.self.now.known.spans) (none-named c.args.act.now r (sym c.named_by.ensures ∙ c.in-None.is)))
