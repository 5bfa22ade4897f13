-- A description that says again what is known of its server.
use Rattle.std.specs.Prelude.{◌≡◌, None}
use Rattle.mdb_describe.specs.declared.description.ServerDescription.{ServerDescription}
use Rattle.mdb_describe.specs.declared.topology.TopologyDescription.{TopologyDescription}
use Rattle.mdb_describe.specs.Differences.{difference}
use Rattle.mdb_describe.specs.Update.{stored, updated}

-- An update with it only stores it, and no server differs then.
pub record IsRepeated (t : TopologyDescription) (s : ServerDescription) : Type 0 where
  pub alone : updated t s ≡ stored t s
  pub alike : difference t.servers (stored t s).servers ≡ None
