-- The documents of replies, as events carry them.
use Rattle.std.specs.Prelude.{nat_eq, List, codes, filter, Bool, not}
use Rattle.std.specs.Cmp.Lexicographic.{pointwise}
use Rattle.mdb_base.specs.Document.{Field}

abbrev pub is_authentication : Field → Bool
is_authentication f = pointwise nat_eq f.0 (codes "speculativeAuthenticate")

-- no field that speaks of an authentication is told
abbrev pub without_authentication : List Field → List Field
without_authentication fields = filter (λ f. not (is_authentication f)) fields
