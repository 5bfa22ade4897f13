-- The options of a TXT record's parts.
use Rattle.std.proofs.Common.{ℕ, List, ◌++◌, Result, Ok, Err}
use Rattle.mdb_srv.specs.declared.txt_option.TxtOption.{TxtOption}

-- options before those of the parts that are left
abbrev pub onto : List TxtOption → Result (List TxtOption) (List ℕ) → Result (List TxtOption) (List ℕ)
onto before (Ok options) = Ok (before ++ options)
onto before (Err text) = Err text
