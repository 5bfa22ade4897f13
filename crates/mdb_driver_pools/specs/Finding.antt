-- Which of the pools an act concerns, by what they keep, and why it is refused where it concerns none.
use Rattle.std.specs.Prelude.{ℕ, Bool, false, if◌then◌else◌, List, position, Option, Some, None}
use Rattle.mdb_base.specs.declared.address.ServerAddress.{ServerAddress}
use Rattle.mdb_log.specs.declared.step.Act.{Act}
use Rattle.mdb_log.specs.declared.step.Act.TheVariants.{Request, Warm, Maintain, Expire, Collect, Claim, GiveUp, Established, Return, Pin, Replicate, Take, Unpin}
use Rattle.mdb_log.specs.declared.reply.Refused.{Refused}
use Rattle.mdb_log.specs.declared.reply.Refused.TheVariants.{UnknownServer, RequestKnown, UnknownRequest, NotHolder, NotPending, Unpinned}
use Rattle.mdb_pool.specs.Core.{PoolCore}
use Rattle.mdb_pool.specs.Now.{has_job_now, holds_now, is_open_now}
use Rattle.mdb_driver_pools.specs.Living.{lives_at}
use Rattle.mdb_driver_pools.specs.Standing.{at_address, is_open_at, knows}

-- the first pool in which the request is open
abbrev pub asked_by : List PoolCore → ℕ → Option ℕ
asked_by pools r = position (λ s. is_open_now s r) pools

-- the first pool of which the party holds a connection
abbrev pub holder : List PoolCore → ℕ → Option ℕ
holder pools r = position (λ s. holds_now s r) pools

-- the first pool that has a job
abbrev pub first_job : List PoolCore → Option ℕ
first_job pools = position (λ s. has_job_now s) pools

-- the pool with the number, where something lives in it
abbrev pub numbered : List PoolCore → ℕ → Option ℕ
numbered pools p = if lives_at pools p then Some p else None

-- there is a pool, and the request is open in it
abbrev pub asks_in : Option PoolCore → ℕ → Bool
asks_in None r = false
asks_in (Some s) r = is_open_now s r

-- there is a pool, and the party holds a connection of it
abbrev pub holds_in : Option PoolCore → ℕ → Bool
holds_in None r = false
holds_in (Some s) r = holds_now s r

-- there is a pool, and it is open at the address
abbrev pub opens_in : Option PoolCore → ServerAddress → Bool
opens_in None a = false
opens_in (Some s) a = is_open_at a s

-- the pool that the act concerns
abbrev pub index_of : List PoolCore → Act → Option ℕ
index_of pools (Request r a) = at_address pools a
index_of pools (Warm r a) = at_address pools a
index_of pools (Maintain a) = at_address pools a
index_of pools (Expire a) = at_address pools a
index_of pools (Collect r) = asked_by pools r
index_of pools (GiveUp r) = asked_by pools r
index_of pools Claim = first_job pools
index_of pools (Established q c how) = numbered pools q
index_of pools (Return r used) = holder pools r
index_of pools (Pin r) = holder pools r
index_of pools (Replicate q c) = numbered pools q
index_of pools (Take r q c) = numbered pools q
index_of pools (Unpin q c) = numbered pools q
index_of pools _ = None

-- the party that the act names for the first time
abbrev pub named_by : Act → Option ℕ
named_by (Request r a) = Some r
named_by (Warm r a) = Some r
named_by (Take r q c) = Some r
named_by _ = None

-- the act uses up the number of a party that some pool knows
abbrev pub names_known : List PoolCore → Act → Bool
names_known pools (Request r a) = knows pools r
names_known pools (Warm r a) = knows pools r
names_known pools (Take r q c) = knows pools r
names_known pools _ = false

-- Why an act that concerns no pool is refused; a claim is not.
abbrev pub missing_pool : List PoolCore → Act → Option Refused
missing_pool pools (Request r a) = Some UnknownServer
missing_pool pools (Warm r a) = Some UnknownServer
missing_pool pools (Maintain a) = Some UnknownServer
missing_pool pools (Expire a) = Some UnknownServer
missing_pool pools (Collect r) = Some UnknownRequest
missing_pool pools (GiveUp r) = Some UnknownRequest
missing_pool pools (Established q c how) = Some NotPending
missing_pool pools (Return r used) = Some NotHolder
missing_pool pools (Pin r) = Some NotHolder
missing_pool pools (Replicate q c) = Some Unpinned
missing_pool pools (Take r q c) = Some (if knows pools r then RequestKnown else Unpinned)
missing_pool pools (Unpin q c) = Some Unpinned
missing_pool pools _ = None
