use Rattle.std.proofs.Common.{◌∙◌, ap}
use Rattle.mdb_slots.specs.Sided.{noted}
use Rattle.mdb_pool.specs.Core.{PoolCore}
use Rattle.mdb_pool.specs.Kept.Places.{is_available}
use Rattle.mdb_pool.proofs.Follows.Availability.{available-told}
use Rattle.mdb_pool.proofs.pool_core.PoolCore.available.Goals as goal

pub returns : goal.returns
returns c = λ xs z.
    c.available.ensures ∙ (ap (λ (v : PoolCore). noted (λ x. x.id) (λ x. x.service) (λ x. x.since) (λ x. is_available x.place) v.kept.connections) c.self.view_is
    ∙ available-told c.args.self.now xs z.matches)
