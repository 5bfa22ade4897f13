-- What is kept of what was read so far.
use Rattle.std.specs.Prelude.{◌≡◌, ℕ, Bool, List, ◌++◌, string_bytes}
use Rattle.mdb_recordings.specs.Standing.{Stands}
use Rattle.mdb_recordings.specs.declared.standard.Standard.{Standard}
use Rattle.mdb_recording_servers.specs.ServerStanding.{StandsFor}
use Rattle.mdb_recording_lines.specs.Known.{Holds}
use Rattle.mdb_recording_runs.specs.Report.{Read, end_text, told_of, how_many}
use Rattle.mdb_recording_runs.specs.declared.reader.Reader.{Reader}

-- what was read so far, judged by this standard, and the text that was told of it
pub record Keeps (standard : Standard) (s : Read) (text : List ℕ) (r : Reader) : Type 0 where
  pub judged_by : r.standard ≡ standard
  pub names : Holds s.known r.names
  pub judge : Stands s.history r.judge
  pub servers : Holds s.servers r.servers
  pub server_judge : StandsFor s.server_history r.server_judge
  pub tells : string_bytes r.out ≡ text
  pub events : r.events ≡ s.events
  pub findings : r.findings ≡ s.findings
  pub malformed : r.malformed ≡ s.malformed
  pub passed_over : r.passed_over ≡ s.passed_over

-- these rules were tried: what the text gained, and how many are broken
pub record TellsRules {R : Type 0} (broken : R → Bool) (line : R → List ℕ) (rules : List R) (old new : List ℕ) (found : ℕ) : Type 0 where
  pub text : new ≡ old ++ told_of broken line rules
  pub count : found ≡ how_many broken rules

-- all lines were read, and behind what was told of them, the end was told
pub record Ends (s : Read) (text : List ℕ) (r : Reader) : Type 0 where
  pub told : string_bytes r.out ≡ text ++ end_text s
  pub findings : r.findings ≡ s.findings
  pub malformed : r.malformed ≡ s.malformed
  pub events : r.events ≡ s.events
