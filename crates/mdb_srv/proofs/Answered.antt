-- The records that an answer to a lookup of TXT records gives.
use Rattle.std.proofs.Common.{◌≡◌, List, [], ◌∷◌, Option, unwrap_or, refl, ap, ◌∙◌}
use Rattle.mdb_srv.specs.declared.resolver.TxtRecord.{TxtRecord}
use Rattle.mdb_srv.specs.Records.{txt_answer}

answered : (records : List TxtRecord) → unwrap_or (txt_answer records) [] ≡ records
answered [] = refl
answered (found ∷ more) = refl

-- the answer is of these records
pub given : (answer : Option (List TxtRecord)) (records : List TxtRecord) → answer ≡ txt_answer records → unwrap_or answer [] ≡ records
given answer records e = ap (λ o. unwrap_or o []) e ∙ answered records
