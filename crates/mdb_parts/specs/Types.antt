-- Each number of a value is one of its type.
use Rattle.std.specs.Prelude.{◌≡◌, ℕ, ◌<◌, length, slice_index}
use Rattle.mdb_base.specs.declared.object_id.ObjectId.{ObjectId}

abbrev pub IsIdOfTypes : ObjectId → Type 0
IsIdOfTypes id = (length id.0 ≡ 12) × ((i : ℕ) → slice_index id.0 i < 256)
