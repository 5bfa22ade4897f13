use Rattle.std.proofs.Common.{rules, ◌≡◌, ℕ, true, false, Some, refl, sym, ◌∙◌}
use Rattle.mdb_base.specs.declared.address.ServerAddress.{ServerAddress}
use Rattle.mdb_log.specs.declared.generation.PoolGeneration.{PoolGeneration}
use Rattle.mdb_log.specs.declared.job.Job.{Job}
use Rattle.mdb_log.specs.Connections.{has, pending_list}
use Rattle.mdb_pool.specs.Now.{queries}
use Rattle.mdb_pool.specs.Kept.Values.{connection_at, is_pending_at}
use Rattle.mdb_pool.proofs.Told.OfItems.{pending-now}
use Rattle.mdb_pool.proofs.KeptInLittle.ConnectionsThatLive.{pending_lives}
use Rattle.mdb_pool.proofs.pool_core.PoolCore.job.Goals as goal

abbrev job_of : ℕ → ℕ → ServerAddress → PoolGeneration → Job
job_of p id a g = record { pool = p; id = id; address = a; generation = record { pool = p; generation = g } }

same-job : (p q id : ℕ) (a b : ServerAddress) (g k : PoolGeneration) → p ≡ q → a ≡ b → g ≡ k → Some (job_of p id a g) ≡ Some (job_of q id b k)
same-job p q id a b g k e f h = rw (e, f, h) refl

pub generations_before-requires : goal.generations_before-requires
unfolding queries
generations_before-requires c =
    let kept : c.is_pending.result ≡ is_pending_at (connection_at c.args.self.now c.args.id) = search rules in
    pending_lives c.args.self.now c.args.id (sym kept ∙ c.if-not-is_pending.false)

pub returns-then-not-is_pending : goal.returns-then-not-is_pending
unfolding queries
returns-then-not-is_pending c = λ xs z.
    let kept : c.is_pending.result ≡ is_pending_at (connection_at c.args.self.now c.args.id) = search rules in
    let none : has c.args.id (pending_list xs) ≡ false = sym (kept ∙ pending-now c.args.self.now xs z c.args.id) ∙ c.if-not-is_pending.true in
    rw none refl

pub returns : goal.returns
unfolding queries
returns c = λ xs z.
    let kept : c.is_pending.result ≡ is_pending_at (connection_at c.args.self.now c.args.id) = search rules in
    let s = c.args.self.now in
    let waits : has c.args.id (pending_list xs) ≡ true = sym (kept ∙ pending-now c.args.self.now xs z c.args.id) ∙ c.if-not-is_pending.false in
    rw waits (same-job _ s.pool c.args.id _ s.address _ _ c.number-pool.ensures (c.in_ok-address.ensures.cases ∙ c.address.ensures) (c.in_ok-generation.ensures xs z waits))
