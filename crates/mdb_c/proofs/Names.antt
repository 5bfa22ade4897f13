-- What a resolver of one entry holds.
use Rattle.std.proofs.Common.{◌≡◌, ℕ, List, [], ◌∷◌, true, nat_eq, refl, arith}
use Rattle.std.specs.Bool.{Decides}
use Rattle.std.specs.Cmp.Lexicographic.{pointwise}
use Rattle.std.proofs.lemmas.Bool.Decides.{Decides-eqb}
use Rattle.std.proofs.lemmas.Slice.Eq.{slice_eq-Decides}
use Rattle.mdb_srv.specs.Memory.{txt_in}
use Rattle.mdb_srv.specs.declared.resolver.SrvRecord.{SrvRecord}
use Rattle.mdb_srv.specs.declared.resolver.TxtRecord.{TxtRecord}

same_bytes : (xs : List ℕ) → pointwise nat_eq xs xs ≡ true
same_bytes xs = let d : Decides (pointwise nat_eq xs xs) (xs ≡ xs) = slice_eq-Decides Decides-eqb xs xs (pointwise nat_eq xs xs) refl in let same : xs ≡ xs = refl in grind (arith, d, same)

-- the records of the one entry's own name
pub txt_of_one : (query name : List ℕ) (srv : List SrvRecord) (txt : List TxtRecord) → query ≡ name → txt_in (record { query = query; srv = srv; txt = txt } ∷ []) name ≡ txt
txt_of_one query name srv txt e = rw (e, same_bytes name) refl
