-- The numbers of the types of values (BSON 1.1, "element").
use Rattle.std.specs.Prelude.{ℕ, ◌==◌, ◌||◌, Option, Some, None, if◌then◌else◌}
use Rattle.mdb_bson.specs.declared.kind.Kind.{Kind}
use Rattle.mdb_bson.specs.declared.kind.Kind.TheVariants.{Text, Document, List, Binary, Id, Bool, Date, Regex, Pointer, Code, Scoped, Int32, Int64, Passed}

-- Double, timestamp, decimal128, undefined, null and the two keys are passed over by their length. A symbol is read as code is.
abbrev pub kind_of : ℕ → Option Kind
kind_of n =
    if n == 2 then Some Text
    else if n == 3 then Some Document
    else if n == 4 then Some List
    else if n == 5 then Some Binary
    else if n == 7 then Some Id
    else if n == 8 then Some Bool
    else if n == 9 then Some Date
    else if n == 11 then Some Regex
    else if n == 12 then Some Pointer
    else if n == 13 || n == 14 then Some Code
    else if n == 15 then Some Scoped
    else if n == 16 then Some Int32
    else if n == 18 then Some Int64
    else if n == 1 || n == 17 then Some (Passed 8)
    else if n == 19 then Some (Passed 16)
    else if n == 6 || n == 10 || n == 127 || n == 255 then Some (Passed 0)
    else None
