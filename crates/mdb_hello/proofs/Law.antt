-- What a table of fields is written as is read back.
use Rattle.std.proofs.Common.{◌≡◌, ℕ, List, [], ◌∷◌, ◌++◌, Bool, true, false, ◌&&◌, not, Option, Some, None, is_some, Ok, if◌then◌else◌, nat_eq, refl, sym, ap, ◌∙◌, append_assoc}
use Rattle.std.proofs.lemmas.Bool.{true≢false}
use Rattle.std.specs.Cmp.Lexicographic.{pointwise}
use Rattle.mdb_base.specs.Document.{Field, Content}
use Rattle.mdb_hello.specs.Kinds.{Kind, Of, named}
use Rattle.mdb_hello.specs.ReadBack.{IsPlainSlot, ArePlain}
use Rattle.mdb_hello.specs.Reply.{read, reply_of, values, written}
use Rattle.mdb_hello.specs.Table.{Row, Slot, Values, of_its_type, on_ok, beside, read_found, read_row, read_rows, written_slot, written_rows, reply_fields}
use Rattle.mdb_hello.specs.declared.response.HelloCommandResponse.{HelloCommandResponse}
use Rattle.mdb_hello.proofs.KindLaws.{read_back}
use Rattle.mdb_hello.proofs.Tagged.{and_first, and_second}

abbrev same_name : List ℕ → List ℕ → Bool
same_name a b = pointwise nat_eq a b

-- no row has this name
abbrev lacks : List ℕ → List Row → Bool
lacks name [] = true
lacks name (row ∷ rows) = (not (same_name row.name name) && not (same_name name row.name)) && lacks name rows

abbrev are_apart : List Row → Bool
are_apart [] = true
are_apart (row ∷ rows) = same_name row.name row.name && (lacks row.name rows && are_apart rows)

-- the fields have none of the names of the rows
abbrev Free : List Row → List Field → Type 0
Free [] fs = Unit {0}
Free (row ∷ rows) fs = (named row.name fs ≡ None) × Free rows fs

named_past : (name : List ℕ) (xs ys : List Field) → named name xs ≡ None → named name (xs ++ ys) ≡ named name ys
named_past name [] ys e = refl
named_past name (f ∷ xs) ys e = past_first (same_name f.0 name) f.1 (named name xs) (named name (xs ++ ys)) (named name ys) e (named_past name xs ys) where
  past_first : (b : Bool) (c : Content) (o p q : Option Content) → (if b then Some c else o) ≡ None → (o ≡ None → p ≡ q) → (if b then Some c else p) ≡ q
  past_first true c o p q e h = absurd (true≢false (ap is_some e))
  past_first false c o p q e h = h e

not_false : (b : Bool) → not b ≡ true → b ≡ false
not_false false e = refl
not_false true e = sym e

slot_lacks : (must : Bool) (k : Kind) (name : List ℕ) (x : Slot must (Of k)) (other : List ℕ) → same_name name other ≡ false → named other (written_slot must k name x) ≡ None
slot_lacks true k name x other e = rw e refl
slot_lacks false k name None other e = refl
slot_lacks false k name (Some x) other e = rw e refl

rest_lacks : (rows : List Row) (v : Values rows) (name : List ℕ) → lacks name rows ≡ true → named name (written_rows rows v) ≡ None
rest_lacks [] v name e = refl
rest_lacks (row ∷ rows) v name e =
    let here = and_first (not (same_name row.name name) && not (same_name name row.name)) (lacks name rows) e in
    let later = and_second (not (same_name row.name name) && not (same_name name row.name)) (lacks name rows) e in
    let apart = not_false (same_name row.name name) (and_first (not (same_name row.name name)) (not (same_name name row.name)) here) in
    named_past name (written_slot row.required row.kind row.name v.0) (written_rows rows v.1) (slot_lacks row.required row.kind row.name v.0 name apart)
    ∙ rest_lacks rows v.1 name later

still_free : (rows : List Row) (before : List Field) (must : Bool) (k : Kind) (name : List ℕ) (x : Slot must (Of k)) → lacks name rows ≡ true → Free rows before
    → Free rows (before ++ written_slot must k name x)
still_free [] before must k name x e free = tt
still_free (row ∷ rows) before must k name x e free =
    let here = and_first (not (same_name row.name name) && not (same_name name row.name)) (lacks name rows) e in
    let later = and_second (not (same_name row.name name) && not (same_name name row.name)) (lacks name rows) e in
    let apart = not_false (same_name name row.name) (and_second (not (same_name row.name name)) (not (same_name name row.name)) here) in (
      named_past row.name before (written_slot must k name x) free.0 ∙ slot_lacks must k name x row.name apart,
      still_free rows before must k name x later free.1,
    )

slot_back : (must : Bool) (k : Kind) (name : List ℕ) (x : Slot must (Of k)) (rest : List Field) → same_name name name ≡ true → named name rest ≡ None → IsPlainSlot must k x
    → read_found must k name (named name (written_slot must k name x ++ rest)) ≡ Ok x
slot_back true k name x rest e none plain = rw e (ap (of_its_type name) (read_back k x plain))
slot_back false k name None rest e none plain = ap (read_found false k name) none
slot_back false k name (Some x) rest e none plain = rw e (ap (λ (o : Option (Of k)). on_ok Some (of_its_type name o)) (read_back k x plain))

pub rows_back : (rows : List Row) (before : List Field) (v : Values rows) → are_apart rows ≡ true → Free rows before → ArePlain rows v
    → read_rows rows (before ++ written_rows rows v) ≡ Ok v
rows_back [] before v e free plain = refl
rows_back (row ∷ rows) before v e free plain =
    let own = and_first (same_name row.name row.name) (lacks row.name rows && are_apart rows) e in
    let others = and_second (same_name row.name row.name) (lacks row.name rows && are_apart rows) e in
    let alone = and_first (lacks row.name rows) (are_apart rows) others in
    let later = and_second (lacks row.name rows) (are_apart rows) others in
    let slot = written_slot row.required row.kind row.name v.0 in
    let rest = written_rows rows v.1 in
    let first : read_row row (before ++ (slot ++ rest)) ≡ Ok v.0 =
    ap (read_found row.required row.kind row.name) (named_past row.name before (slot ++ rest) free.0)
    ∙ slot_back row.required row.kind row.name v.0 rest own (rest_lacks rows v.1 row.name alone) plain.0 in
    let more : read_rows rows (before ++ (slot ++ rest)) ≡ Ok v.1 =
    ap (read_rows rows) (sym (append_assoc before slot rest)) ∙ rows_back rows (before ++ slot) v.1 later (still_free rows before row.required row.kind row.name v.0 alone free.1) plain.1 in
    λ i. beside (first i) (more i)

free_of_nothing : (rows : List Row) → Free rows []
free_of_nothing [] = tt
free_of_nothing (row ∷ rows) = (refl, free_of_nothing rows)

-- a reply is read back from what it is written as
pub reply_back : (r : HelloCommandResponse) → ArePlain reply_fields (values r) → read (written r) ≡ Ok r
reply_back r plain = ap (on_ok reply_of) (rows_back reply_fields [] (values r) refl (free_of_nothing reply_fields) plain)
