-- What may be measured.
use Rattle.std.specs.Prelude.{◌≤◌}
use Rattle.mdb_bench.specs.declared.plan.Plan.{Plan}

-- at most 1,000,000,000 rounds, 1 to 32 threads, 1 to 128 servers, 1 to 10,000 connections
abbrev pub IsWithin : Plan → Type 0
IsWithin p = (p.rounds ≤ 1000000000) × ((1 ≤ p.threads) × (p.threads ≤ 32)) × ((1 ≤ p.servers) × (p.servers ≤ 128)) × ((1 ≤ p.connections) × (p.connections ≤ 10000))
