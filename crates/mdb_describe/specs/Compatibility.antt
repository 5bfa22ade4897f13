-- Whether the driver, which speaks the wire versions 8 to 29, can speak to a server. An absent wire version counts as 0.
use Rattle.std.specs.Prelude.{ℕ, ℤ, pos, int_lt, List, ◌++◌, codes, if◌then◌else◌, Option, Some, None}
use Rattle.std.specs.Fmt.{signed_decimal}
use Rattle.mdb_base.specs.declared.address.ServerAddress.{ServerAddress}
use Rattle.mdb_base.specs.Spelling.{address}
use Rattle.mdb_hello.specs.declared.response.HelloCommandResponse.{HelloCommandResponse}
use Rattle.mdb_describe.specs.declared.description.ServerDescription.{ServerDescription}
use Rattle.mdb_describe.specs.Fields.{response}

abbrev pub version_or_0 : Option ℤ → ℤ
version_or_0 (Some v) = v
version_or_0 None = pos 0

abbrev pub too_new : ServerAddress → ℤ → List ℕ
too_new a version = codes "server " ++ (address a ++ (codes " requires wire version " ++ (signed_decimal version ++ codes ", this driver supports up to 29")))

abbrev pub too_old : ServerAddress → ℤ → List ℕ
too_old a version = codes "server " ++ (address a ++ (codes " reports wire version " ++ (signed_decimal version ++ codes ", this driver needs at least 8")))

-- the server needs more than 29, or it offers less than 8
abbrev pub incompatibility : ServerAddress → ℤ → ℤ → Option (List ℕ)
incompatibility a least greatest = if int_lt (pos 29) least then Some (too_new a least) else if int_lt greatest (pos 8) then Some (too_old a greatest) else None

abbrev pub incompatibility_of : ServerAddress → Option HelloCommandResponse → Option (List ℕ)
incompatibility_of a (Some r) = incompatibility a (version_or_0 r.min_wire_version) (version_or_0 r.max_wire_version)
incompatibility_of a None = None

-- why the driver cannot speak to a server, where it gave a reply
abbrev pub incompatible : ServerDescription → Option (List ℕ)
incompatible d = incompatibility_of d.address (response d)
