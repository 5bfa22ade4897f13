-- The first bad field of a table is the error of its reading.
use Rattle.std.proofs.Common.{◌≡◌, ℕ, List, [], ◌∷◌, ◌++◌, Option, Some, None, Result, Ok, Err, IsOk, refl, sym, ap, ◌∙◌}
use Rattle.std.specs.Option.{option_or}
use Rattle.std.specs.Result.{result_err}
use Rattle.mdb_base.specs.Document.{Field}
use Rattle.mdb_hello.specs.Groups.{five, bad_in_front, bad_in_back}
use Rattle.mdb_hello.specs.Reply.{read, reply_of}
use Rattle.mdb_hello.specs.Table.{Row, on_ok, beside, read_row, read_rows, first_bad, reply_fields}

of_two : {A B : Type 0} (a : Result A (List ℕ)) (b : Result B (List ℕ)) → result_err (beside a b) ≡ option_or (result_err a) (result_err b)
of_two (Err e) b = refl
of_two (Ok x) (Err e) = refl
of_two (Ok x) (Ok y) = refl

pub bad_is_error : (rows : List Row) (doc : List Field) → first_bad rows doc ≡ result_err (read_rows rows doc)
bad_is_error [] doc = refl
bad_is_error (row ∷ rows) doc = ap (option_or (result_err (read_row row doc))) (bad_is_error rows doc) ∙ sym (of_two (read_row row doc) (read_rows rows doc))

grouped : (o p q : Option (List ℕ)) → option_or o (option_or p q) ≡ option_or (option_or o p) q
grouped None p q = refl
grouped (Some e) p q = refl

parted : (xs ys : List Row) (doc : List Field) → first_bad (xs ++ ys) doc ≡ option_or (first_bad xs doc) (first_bad ys doc)
parted [] ys doc = refl
parted (x ∷ xs) ys doc =
    ap (option_or (result_err (read_row x doc))) (parted xs ys doc) ∙ grouped (result_err (read_row x doc)) (first_bad xs doc) (first_bad ys doc)

three : (a b c : List Row) (doc : List Field) → first_bad (a ++ (b ++ c)) doc ≡ option_or (first_bad a doc) (option_or (first_bad b doc) (first_bad c doc))
three a b c doc = parted a (b ++ c) doc ∙ ap (option_or (first_bad a doc)) (parted b c doc)

in_halves : (doc : List Field) → first_bad reply_fields doc ≡ option_or (bad_in_front doc) (bad_in_back doc)
in_halves doc =
    let first = three (five 0) (five 5) (five 10) doc in
    let second = three (five 15) (five 20) (five 25) doc in
    parted (five 0 ++ (five 5 ++ five 10)) (five 15 ++ (five 20 ++ five 25)) doc ∙ (λ i. option_or (first i) (second i))

passes : {A B : Type 0} (f : A → B) (r : Result A (List ℕ)) → None ≡ result_err r → IsOk (on_ok f r)
passes f (Ok x) e = refl
passes f (Err name) e = absurd (cc e)

fails : {A B : Type 0} (f : A → B) (r : Result A (List ℕ)) (name : List ℕ) → Some name ≡ result_err r → on_ok f r ≡ Err name
fails f (Ok x) name e = absurd (cc e)
fails f (Err own) name e = cc e

-- a document with no bad field is read
pub good_is_read : (doc : List Field) → None ≡ option_or (bad_in_front doc) (bad_in_back doc) → IsOk (read doc)
good_is_read doc e = passes reply_of (read_rows reply_fields doc) (e ∙ sym (in_halves doc) ∙ bad_is_error reply_fields doc)

-- a document with a bad field is refused by its name
pub bad_is_refused : (doc : List Field) (name : List ℕ) → Some name ≡ option_or (bad_in_front doc) (bad_in_back doc) → read doc ≡ Err name
bad_is_refused doc name e = fails reply_of (read_rows reply_fields doc) name (e ∙ sym (in_halves doc) ∙ bad_is_error reply_fields doc)
