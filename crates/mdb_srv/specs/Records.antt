-- What a resolver answers from the records that it holds.
use Rattle.std.specs.Prelude.{◌≡◌, List, [], ◌∷◌, Option, Some, None, Result, Ok, Err}
use Rattle.mdb_srv.specs.declared.resolver.TxtRecord.{TxtRecord}

-- these TXT records, where there is one
abbrev pub txt_answer : List TxtRecord → Option (List TxtRecord)
txt_answer [] = None
txt_answer (found ∷ more) = Some (found ∷ more)

-- what was found is what the resolver tells, where it tells
abbrev pub Tells : {T : Type 0} → Option T → T → Type 0
Tells None found = Unit {0}
Tells (Some told) found = found ≡ told

-- an answer, with its value seen by f
abbrev pub seen : {T U E : Type 0} → (T → U) → Result T E → Result U E
seen f (Ok x) = Ok (f x)
seen f (Err e) = Err e
