-- What the pools that come run out of.
use Rattle.std.specs.Prelude.{ℕ, ◌+◌, nat_lt, if◌then◌else◌, List, [], ◌∷◌, length, Option, Some, None, unwrap_or}
use Rattle.mdb_base.specs.declared.address.ServerAddress.{ServerAddress}
use Rattle.mdb_base.specs.declared.options.Options.{Options}
use Rattle.mdb_log.specs.declared.reply.What.{What}
use Rattle.mdb_log.specs.declared.reply.What.TheVariants.{Pool}

-- the greatest number of a pool
abbrev pub pool_limit : Options → ℕ
pool_limit o = unwrap_or o.limit_pool 4294967295

-- Pools come at these addresses, after n others: the last of them has a number past the limit.
abbrev pub past_last : Options → ℕ → List ServerAddress → Option What
past_last o n [] = None
past_last o n (a ∷ more) = if nat_lt (pool_limit o) (n + length more) then Some Pool else None
