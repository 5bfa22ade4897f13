-- Optional parts: where a part's name stands, and where it doesn't.
use Rattle.std.proofs.Common.{◌≡◌, ℕ, ◌<◌, ◌^◌, Bool, true, false, eqb, List, [], ◌∷◌, ◌++◌, Option, Some, None, option_map, IfSome, refl, ap, ◌∙◌, arith, inl, inr, append_assoc, decimal, ℤ, pos, int_le, FitsSigned}
use Rattle.std.specs.Int.{w64}
use Rattle.std.specs.Fmt.{signed_decimal}
use Rattle.std.proofs.lemmas.Bool.{eqb-true, cases_Bool, and_parts}
use Rattle.mdb_base.specs.declared.object_id.ObjectId.{ObjectId}
use Rattle.mdb_base.specs.Spelling.{object_id}
use Rattle.mdb_base.specs.AddressReading.{until, beyond, after}
use Rattle.mdb_base.proofs.Words.{after_here}
use Rattle.mdb_base.proofs.AddressAgain.{word_cut}
use Rattle.mdb_parts.specs.Parts.{Part, flag, parts_text, apart, is_spaced, are_spaced, are_apart, may_follow}
use Rattle.mdb_parts.specs.Reading.{lacks, Follows}
use Rattle.mdb_parts.proofs.TextLemmas.{follows_rest, decimal_lacks, signed_lacks}
use Rattle.mdb_parts.proofs.AddressLemmas.{id_lacks}

after_apart : (name other rest : List ℕ) → apart name other ≡ true → after name (other ++ rest) ≡ None
unfolding after
after_apart [] other rest h = absurd (cc)
after_apart (n ∷ ns) [] rest h = absurd (cc)
after_apart (n ∷ ns) (b ∷ bs) rest h = elim (cases_Bool (eqb b n)) [
  | inl same ↦ rw same (after_apart ns bs rest (rw same at h))
  | inr other ↦ rw other refl
]

after_nothing : (name : List ℕ) → is_spaced name ≡ true → after name [] ≡ None
unfolding after
after_nothing [] h = absurd (cc)
after_nothing (n ∷ ns) h = refl

pub parts_lack : (name : List ℕ) (ps : List Part) → are_apart name ps ≡ true → after name (parts_text ps) ≡ None
unfolding parts_text
parts_lack name [] h = after_nothing name h
parts_lack name ((other, None) ∷ ps) h = parts_lack name ps (and_parts _ _ h).1
parts_lack name ((other, Some text) ∷ ps) h = rw (append_assoc other text (parts_text ps)) (after_apart name other (text ++ parts_text ps) (and_parts _ _ h).0)

spaced_follow : (name rest : List ℕ) → is_spaced name ≡ true → Follows (name ++ rest)
spaced_follow [] rest h = absurd (cc)
spaced_follow (b ∷ bs) rest h = eqb-true b 32 h

pub parts_follow : (ps : List Part) → are_spaced ps ≡ true → Follows (parts_text ps)
unfolding parts_text
parts_follow [] h = tt
parts_follow ((other, None) ∷ ps) h = parts_follow ps (and_parts _ _ h).1
parts_follow ((other, Some text) ∷ ps) h = rw (append_assoc other text (parts_text ps)) (spaced_follow other (text ++ parts_text ps) (and_parts _ _ h).0)

-- where the name isn't found, the part isn't there
pub part_missing : (name text : List ℕ) (o : Option (List ℕ)) (ps : List Part) → None ≡ after name text → text ≡ parts_text ((name, o) ∷ ps) → (None ≡ o) × (text ≡ parts_text ps)
unfolding parts_text
part_missing name text None ps none e = (refl, e)
part_missing name text (Some word) ps none e =
    let here : after name ((name ++ word) ++ parts_text ps) ≡ Some (word ++ parts_text ps) = rw (append_assoc name word (parts_text ps)) (after_here name (word ++ parts_text ps)) in
    let f = none ∙ ap (after name) e ∙ here in absurd (cc)

-- where the name is found, the part is there
pub part_found : (name text rest front back : List ℕ) (o : Option (List ℕ)) (ps : List Part) → Some rest ≡ after name text → front ≡ until 32 rest → back ≡ beyond 32 rest
    → IfSome o (λ w. lacks 32 w ≡ true) → may_follow name ps ≡ true → text ≡ parts_text ((name, o) ∷ ps) → (Some front ≡ o) × (back ≡ parts_text ps)
unfolding parts_text
part_found name text rest front back None ps found f b l follows e =
    let g = found ∙ ap (after name) e ∙ parts_lack name ps (and_parts (are_apart name ps) (are_spaced ps) follows).0 in absurd (cc)
part_found name text rest front back (Some word) ps found f b l follows e =
    let here : after name ((name ++ word) ++ parts_text ps) ≡ Some (word ++ parts_text ps) = rw (append_assoc name word (parts_text ps)) (after_here name (word ++ parts_text ps)) in
    let g : Some rest ≡ Some (word ++ parts_text ps) = found ∙ ap (after name) e ∙ here in
    let same : rest ≡ word ++ parts_text ps = cc in
    let p = word_cut 32 word (parts_text ps) l (follows_rest (parts_text ps) (parts_follow ps (and_parts (are_apart name ps) (are_spaced ps) follows).1)) in
    (ap Some (f ∙ rw same p.0), b ∙ rw same p.1)

-- the words of values lack spaces

pub words_lack-32 : (o : Option ℕ) → IfSome o (λ n. n < 2 ^ 32) → IfSome (option_map decimal o) (λ w. lacks 32 w ≡ true)
words_lack-32 None h = tt
words_lack-32 (Some n) h = decimal_lacks 32 n (omega arith) (omega arith)

pub words_lack-64 : (o : Option ℕ) → IfSome o (λ n. n < 2 ^ 64) → IfSome (option_map decimal o) (λ w. lacks 32 w ≡ true)
words_lack-64 None h = tt
words_lack-64 (Some n) h = decimal_lacks 32 n (omega arith) h

pub words_lack-signed : (o : Option ℤ) → IfSome o (λ z. FitsSigned w64 z × (int_le (pos 0) z ≡ true)) → IfSome (option_map signed_decimal o) (λ w. lacks 32 w ≡ true)
words_lack-signed None h = tt
words_lack-signed (Some z) h = signed_lacks 32 z (omega arith) h.0

pub words_lack-id : (o : Option ObjectId) → IfSome (option_map object_id o) (λ w. lacks 32 w ≡ true)
words_lack-id None = tt
words_lack-id (Some id) = id_lacks id

pub words_lack-flag : (b : Bool) → IfSome (flag b) (λ w. lacks 32 w ≡ true)
words_lack-flag true = refl
words_lack-flag false = tt

pub ruleset words_lack = (words_lack-flag, words_lack-32, words_lack-64, words_lack-signed, words_lack-id)
