use Rattle.std.proofs.Common.{◌∙◌, ap}
use Rattle.mdb_pool.specs.Core.{PoolCore}
use Rattle.mdb_pool.specs.Kept.Keyed.{marked}
use Rattle.mdb_pool.proofs.Answered.GiveUp.{late-accepts}
use Rattle.mdb_pool.proofs.KeptInLittle.AskedOfThoseThatStay.{ended-came}
use Rattle.mdb_pool.proofs.kept.draft.Draft.give_up_late.Goals as goal

pub returns-clause-accepts : goal.returns-clause-accepts
returns-clause-accepts c = λ xs z. late-accepts c.args.self.now c.settle.new.self c.serve.new.self c.args.facts.now.items c.serve.new.facts.items c.args.moment c.args.request c.in_ok-reply.reply xs z c.requires.ended
    (c.in_ok-settle.ensures.core ∙ ap (λ (u : PoolCore). record u { kept = record u.kept { settled = marked c.args.request u.kept.settled } }) c.set_last.ensures.core) c.in_ok-serve.ensures.home c.in_ok-serve.ensures.notes c.in_ok-serve.ensures.serves c.in_ok-reply.ensures

pub settle-requires : goal.settle-requires
settle-requires c = rw c.set_last.ensures.core (ended-came _ c.requires.ended)
