-- What is kept stands for the events that were recorded.
use Rattle.std.specs.Prelude.{◌≡◌, ℕ, List}
use Rattle.mdb_recording_servers.specs.ServerLives.{server_of, topology_of}
use Rattle.mdb_recording_servers.specs.ServerTables.{server_at}
use Rattle.mdb_recording_servers.specs.declared.event.Seen.{Seen}
use Rattle.mdb_recording_servers.specs.declared.judge.ServerJudge.{ServerJudge}

pub record StandsFor (h : List Seen) (j : ServerJudge) : Type 0 where
  pub servers : (s : ℕ) → server_at j.servers s ≡ server_of s h
  pub topology : j.topology ≡ topology_of h
