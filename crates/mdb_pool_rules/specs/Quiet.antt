-- When nobody is queued in vain.
use Rattle.std.specs.Prelude.{◌≡◌, false, List, []}
use Rattle.mdb_log.specs.declared.options.PoolOptions.{PoolOptions}
use Rattle.mdb_log.specs.History.{PoolItem}
use Rattle.mdb_log.specs.Requests.{queued}
use Rattle.mdb_log.specs.State.{state_of, ready}

-- a pool that is not ready has nobody queued
abbrev pub IsQuiet : PoolOptions → List PoolItem → Type 0
IsQuiet o xs = ready (state_of o xs) ≡ false → queued xs ≡ []
