-- Servers that join a list, as the contracts inside the crate say it: a server of which nothing is known joins as `add` says.
use Rattle.std.specs.Prelude.{List, [], ◌∷◌, if◌then◌else◌}
use Rattle.mdb_describe.specs.declared.description.ServerDescription.{ServerDescription}
use Rattle.mdb_describe.specs.Servers.{is_known, put}

-- a server joins at its place, where its address is new
abbrev pub join : ServerDescription → List ServerDescription → List ServerDescription
join d servers = if is_known d.address servers then servers else put d servers

abbrev pub join_all : List ServerDescription → List ServerDescription → List ServerDescription
join_all [] servers = servers
join_all (d ∷ more) servers = join_all more (join d servers)
