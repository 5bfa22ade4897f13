-- Tests of equality of ids and addresses.
use Rattle.std.specs.Prelude.{Bool, ◌&&◌, ◌==◌, nat_eq}
use Rattle.std.specs.Cmp.Lexicographic.{pointwise}
use Rattle.mdb_base.specs.declared.object_id.ObjectId.{ObjectId}
use Rattle.mdb_base.specs.declared.address.ServerAddress.{ServerAddress}

abbrev pub same_id : ObjectId → ObjectId → Bool
same_id a b = pointwise nat_eq a.0 b.0

-- the same host, byte for byte, and the same port
abbrev pub same_address : ServerAddress → ServerAddress → Bool
same_address a b = pointwise nat_eq a.host b.host && (a.port == b.port)
