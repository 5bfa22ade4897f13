-- A value of each kind is read back from what it is written as.
use Rattle.std.proofs.Common.{◌≡◌, ℕ, ℤ, List, [], ◌∷◌, map, true, Some, option_map, Ordering, Less, Equal, Greater, nat_cmp, refl, ap, ◌∙◌, arith}
use Rattle.std.proofs.lemmas.Bool.{false≢true}
use Rattle.std.specs.Cmp.Lexicographic.{slice_cmp}
use Rattle.std.specs.Ordering.{match_ordering, is_lt}
use Rattle.mdb_base.proofs.Documents.{fields_listed, contents_listed}
use Rattle.mdb_base.specs.Document.{text}
use Rattle.mdb_base.specs.Tags.{Tag, is_by_name, is_below_first}
use Rattle.mdb_hello.specs.Kinds.{Kind, a_flag, a_text, some_texts, a_small_number, a_number, a_count, an_id, some_tags, a_last_write, a_version, a_document, Of, all_texts, put_tag, put_tags, tag_field, is_small, small_number, read_as, written_as}
use Rattle.mdb_hello.specs.ReadBack.{IsPlain}
use Rattle.mdb_hello.proofs.Tagged.{and_first, and_second}

texts_back : (texts : List (List ℕ)) → all_texts (map text texts) ≡ Some texts
texts_back [] = refl
texts_back (t ∷ texts) = ap (option_map (λ more. t ∷ more)) (texts_back texts)

less : (o : Ordering) → is_lt o ≡ true → o ≡ Less
less Less e = refl
less Equal e = absurd (false≢true e)
less Greater e = absurd (false≢true e)

put_first : (tag : Tag) (tags : List Tag) → is_below_first tag.0 tags ≡ true → put_tag tag tags ≡ tag ∷ tags
put_first tag [] e = refl
put_first tag (next ∷ tags) e =
    ap (λ o. match_ordering o (tag ∷ next ∷ tags) ((next.0, tag.1) ∷ tags) (next ∷ put_tag tag tags)) (less (slice_cmp nat_cmp tag.0 next.0) e)

tags_back : (tags : List Tag) → is_by_name tags ≡ true → put_tags [] (map tag_field tags) ≡ Some tags
tags_back [] e = refl
tags_back (tag ∷ tags) e =
    ap (option_map (put_tag tag)) (tags_back tags (and_second (is_below_first tag.0 tags) (is_by_name tags) e))
    ∙ ap Some (put_first tag tags (and_first (is_below_first tag.0 tags) (is_by_name tags) e))

small_back : (n : ℤ) → is_small n ≡ true → small_number n ≡ Some n
small_back n e = rw e refl

pub read_back : (k : Kind) (x : Of k) → IsPlain k x → read_as k (written_as k x) ≡ Some x
read_back a_flag x h = refl
read_back a_text x h = refl
read_back some_texts x h = ap all_texts (contents_listed (map text x)) ∙ texts_back x
read_back a_small_number x h = small_back x h
read_back a_number x h = refl
read_back a_count x h = ap Some (omega (arith, h))
read_back an_id x h = refl
read_back some_tags x h = ap (put_tags []) (fields_listed (map tag_field x)) ∙ tags_back x h
read_back a_last_write x h = refl
read_back a_version x h = refl
read_back a_document x h = ap Some (fields_listed x)
