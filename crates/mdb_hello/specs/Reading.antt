-- What a call that reads answers.
use Rattle.std.specs.Prelude.{◌≡◌, ℕ, List, Result, Ok, Err, IsOk}
use Rattle.mdb_hello.specs.declared.error.HelloError.{HelloError}
use Rattle.mdb_hello.specs.declared.error.HelloError.TheVariants as hello

-- The answer is what is read: the value, or the field that has another type or is absent. Only lack of memory says nothing.
abbrev pub Gives : {T : Type 0} → Result T HelloError → Result T (List ℕ) → Type 0
Gives (Ok x) r = r ≡ Ok x
Gives (Err (hello.BadField name)) r = r ≡ Err name.now
Gives (Err hello.OutOfMemory) r = Unit {0}

-- The answer is what is read of a whole document: the value, or the field that has another type or is absent. It is out of memory only where no field is bad.
abbrev pub Reads : {T : Type 0} → Result T HelloError → Result T (List ℕ) → Type 0
Reads (Ok x) r = r ≡ Ok x
Reads (Err (hello.BadField name)) r = r ≡ Err name.now
Reads (Err hello.OutOfMemory) r = IsOk r
