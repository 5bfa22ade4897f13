-- The scripts that the generator makes.
use Rattle.std.specs.Prelude.{ℕ, zero, suc, ◌+◌, ◌-◌, ◌/◌, ◌%◌, ◌==◌, nat_le, pos, List, [], ◌∷◌, ◌++◌, codes, replicate, Some, None, true, false, if◌then◌else◌}
use Rattle.std.specs.List.{flat_map}
use Rattle.mdb_base.specs.declared.address.ServerAddress.{ServerAddress}
use Rattle.mdb_base.specs.declared.object_id.ObjectId.{ObjectId}
use Rattle.mdb_base.specs.declared.options.Options.{Options}
use Rattle.mdb_log.specs.declared.step.Step.{Step}
use Rattle.mdb_log.specs.declared.step.Act.TheVariants.{Open, Request, Established, Return}
use Rattle.mdb_log.specs.declared.step.Use.{Use}
use Rattle.mdb_log.specs.declared.step.Use.TheVariants as use_
use Rattle.mdb_lines.specs.Script.{line_of}

-- the one server
abbrev pub seed : ServerAddress
seed = record { host = codes "a"; port = 1 }

-- the service behind the load balancer
abbrev pub service : ObjectId
service = record { 0 = 1 ∷ 2 ∷ 3 ∷ 4 ∷ 5 ∷ 6 ∷ 7 ∷ 8 ∷ 9 ∷ 10 ∷ 11 ∷ 12 ∷ [] }

-- at most 3 connections, of which 2 may be pending
abbrev pub options : Options
options = record {
  seeds = seed ∷ [];
  set_name = None;
  direct = false;
  load_balanced = true;
  max_pool_size = Some 3;
  min_pool_size = None;
  max_connecting = Some 2;
  max_idle_time = None;
  max_wait = None;
  heartbeat = None;
  connect = None;
  streaming = None;
  limit_id = None;
  limit_generation = None;
  limit_pool = None;
  limit_monitor = None;
  topology_id = record { 0 = replicate 12 0 };
}

abbrev pub opened : Step
opened = record { moment = 0; act = Open options }

-- in round i party i asks
abbrev pub requested : ℕ → Step
requested i = record { moment = i; act = Request i seed }

abbrev pub established : ℕ → ℕ → Step
established i c = record { moment = i; act = Established 0 c (record { wire = pos 21; service_id = Some service; server_id = None }) }

-- every tenth connection comes back from an operation that failed
abbrev pub use_in : ℕ → Use
use_in i = if i % 10 == 0 then use_.Errored else use_.Ok

-- the party of three rounds before returns its connection
abbrev pub returned : ℕ → Step
returned i = record { moment = i; act = Return (i - 3) (use_in i) }

-- the connection that takes the place of one that failed
abbrev pub replaced : ℕ → List Step
replaced i = if i % 10 == 0 then established i (3 + i / 10) ∷ [] else []

-- In the first three rounds the connection is established; in each later one the party of three rounds before returns its own.
abbrev pub rest : ℕ → List Step
rest i = if nat_le i 3 then established i i ∷ [] else returned i ∷ replaced i

abbrev pub round : ℕ → List Step
round i = requested i ∷ rest i

-- the rounds 1 to n, in order
abbrev pub rounds : ℕ → List Step
rounds zero = []
rounds (suc n) = rounds n ++ round (suc n)

abbrev pub generated : ℕ → List Step
generated n = opened ∷ rounds n

-- the script of n rounds
abbrev pub script : ℕ → List ℕ
script n = flat_map line_of (generated n)
