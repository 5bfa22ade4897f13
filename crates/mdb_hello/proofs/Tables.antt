-- Reading a table of fields part by part.
use Rattle.std.proofs.Common.{◌≡◌, ℕ, List, [], ◌∷◌, ◌++◌, Result, Ok, Err, IsOk, refl, ap, ◌∙◌, append_assoc}
use Rattle.mdb_base.specs.Document.{Field}
use Rattle.mdb_hello.specs.Groups.{five, read_front, read_back, reply_of_halves}
use Rattle.mdb_hello.specs.Kinds.{Of}
use Rattle.mdb_hello.specs.Reading.{Gives, Reads}
use Rattle.mdb_hello.specs.Reply.{read, reply_of}
use Rattle.mdb_hello.specs.declared.error.HelloError.{HelloError}
use Rattle.mdb_hello.specs.declared.error.HelloError.TheVariants as hello
use Rattle.mdb_hello.specs.Table.{Row, Slot, Values, on_ok, beside, read_row, read_rows}

abbrev pub joined : (xs ys : List Row) → Values xs × Values ys → Values (xs ++ ys)
joined [] ys p = p.1
joined (x ∷ xs) ys p = (p.0.0, joined xs ys (p.0.1, p.1))

second_alone : {B : Type 0} (r : Result B (List ℕ)) → r ≡ on_ok (λ (p : Unit {0} × B). p.1) (beside (Ok tt) r)
second_alone (Ok x) = refl
second_alone (Err e) = refl

twice : {A B C : Type 0} (f : B → C) (g : A → B) (r : Result A (List ℕ)) → on_ok f (on_ok g r) ≡ on_ok (λ x. f (g x)) r
twice f g (Ok x) = refl
twice f g (Err e) = refl

under_first : {A B C : Type 0} (f : B → C) (a : Result A (List ℕ)) (b : Result B (List ℕ)) → beside a (on_ok f b) ≡ on_ok (λ (p : A × B). (p.0, f p.1)) (beside a b)
under_first f (Err e) b = refl
under_first f (Ok x) (Err e) = refl
under_first f (Ok x) (Ok y) = refl

moved : {A B C : Type 0} (a : Result A (List ℕ)) (b : Result B (List ℕ)) (c : Result C (List ℕ)) → beside a (beside b c) ≡ on_ok (λ (p : (A × B) × C). (p.0.0, (p.0.1, p.1))) (beside (beside a b) c)
moved (Err e) b c = refl
moved (Ok x) (Err e) c = refl
moved (Ok x) (Ok y) (Err e) = refl
moved (Ok x) (Ok y) (Ok z) = refl

pub read_rows-append : (xs ys : List Row) (doc : List Field) → read_rows (xs ++ ys) doc ≡ on_ok (joined xs ys) (beside (read_rows xs doc) (read_rows ys doc))
read_rows-append [] ys doc = second_alone (read_rows ys doc)
read_rows-append (x ∷ xs) ys doc =
    let a = read_row x doc in
    let b = read_rows xs doc in
    let c = read_rows ys doc in
    ap (beside a) (read_rows-append xs ys doc) ∙ under_first (joined xs ys) a (beside b c) ∙ ap (on_ok (λ (p : Slot x.required (Of x.kind) × (Values xs × Values ys)). (p.0, joined xs ys p.1))) (moved a b c)
    ∙ twice _ _ (beside (beside a b) c)

both : {A B C D : Type 0} (f : A → C) (g : B → D) (a : Result A (List ℕ)) (b : Result B (List ℕ)) → beside (on_ok f a) (on_ok g b) ≡ on_ok (λ (p : A × B). (f p.0, g p.1)) (beside a b)
both f g (Err e) b = refl
both f g (Ok x) (Err e) = refl
both f g (Ok x) (Ok y) = refl

abbrev three_joined : (a b c : List Row) → Values a × (Values b × Values c) → Values (a ++ (b ++ c))
three_joined a b c p = joined a (b ++ c) (p.0, joined b c p.1)

three : (a b c : List Row) (doc : List Field) → read_rows (a ++ (b ++ c)) doc ≡ on_ok (three_joined a b c) (beside (read_rows a doc) (beside (read_rows b doc) (read_rows c doc)))
three a b c doc =
    let x = read_rows a doc in
    let y = beside (read_rows b doc) (read_rows c doc) in
    read_rows-append a (b ++ c) doc ∙ ap (λ r. on_ok (joined a (b ++ c)) (beside x r)) (read_rows-append b c doc)
    ∙ ap (on_ok (joined a (b ++ c))) (under_first (joined b c) x y) ∙ twice _ _ (beside x y)

abbrev front : List Row
front = five 0 ++ (five 5 ++ five 10)

abbrev back : List Row
back = five 15 ++ (five 20 ++ five 25)

pub read_in_halves : (doc : List Field) → read doc ≡ on_ok reply_of_halves (beside (read_front doc) (read_back doc))
read_in_halves doc =
    let first = three (five 0) (five 5) (five 10) doc in
    let second = three (five 15) (five 20) (five 25) doc in
    let f = three_joined (five 0) (five 5) (five 10) in
    let g = three_joined (five 15) (five 20) (five 25) in
    ap (on_ok reply_of) (read_rows-append front back doc ∙ (λ i. on_ok (joined front back) (beside (first i) (second i))) ∙ ap (on_ok (joined front back)) (both f g (read_front doc) (read_back doc)))
    ∙ ap (on_ok reply_of) (twice _ _ (beside (read_front doc) (read_back doc))) ∙ twice _ _ (beside (read_front doc) (read_back doc))

-- an error is handed on
pub handed_on : {A B : Type 0} (f : A → B) (e : HelloError) (r : Result A (List ℕ)) (s : Result B (List ℕ)) → s ≡ on_ok f r → Gives {T = A} (Err e) r → Gives {T = B} (Err e) s
handed_on f (hello.BadField name) r s is gives = is ∙ ap (on_ok f) gives
handed_on f hello.OutOfMemory r s is gives = tt

-- five parts added one after the other
pub five_added : {X : Type 0} (old p q r s t a b c d e : List X) → a ≡ old ++ p → b ≡ a ++ q → c ≡ b ++ r → d ≡ c ++ s → e ≡ d ++ t → e ≡ old ++ (p ++ (q ++ (r ++ (s ++ t))))
five_added old p q r s t a b c d e ea eb ec ed ee =
    ee ∙ ap (λ xs. xs ++ t) (ed ∙ ap (λ xs. xs ++ s) (ec ∙ ap (λ xs. xs ++ r) (eb ∙ ap (λ xs. xs ++ q) ea)))
    ∙ append_assoc (((old ++ p) ++ q) ++ r) s t ∙ append_assoc ((old ++ p) ++ q) r (s ++ t) ∙ append_assoc (old ++ p) q (r ++ (s ++ t)) ∙ append_assoc old p (q ++ (r ++ (s ++ t)))

-- two parts added one after the other
pub two_added : {X : Type 0} (old p q a b : List X) → a ≡ old ++ p → b ≡ a ++ q → b ≡ old ++ (p ++ q)
two_added old p q a b ea eb = eb ∙ ap (λ xs. xs ++ q) ea ∙ append_assoc old p q

-- lack of memory where the reading gives a value
pub whole : {T : Type 0} (answer : Result T HelloError) (r : Result T (List ℕ)) → IsOk r → Gives answer r → Reads answer r
whole (Ok x) r ok gives = gives
whole (Err (hello.BadField name)) r ok gives = gives
whole (Err hello.OutOfMemory) r ok gives = ok
