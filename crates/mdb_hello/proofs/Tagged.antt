-- Tags that are put in their places, one after the other.
use Rattle.std.proofs.Common.{◌≡◌, ℕ, ◌-◌, ◌<◌, ◌≤◌, get_or, arith, List, [], ◌∷◌, ◌++◌, map, take, length, Option, Some, None, option_map, option_and_then, Bool, true, false, ◌&&◌, Ordering, Less, Equal, Greater, nat_cmp, String, Global, string_bytes, refl, sym, ap, ◌∙◌}
use Rattle.std.proofs.lemmas.Cmp.{nat_list_cmp_total}
use Rattle.std.proofs.lemmas.Bool.{false≢true}
use Rattle.std.proofs.lemmas.List.{take_more}
use Rattle.std.specs.Cmp.Lexicographic.{slice_cmp}
use Rattle.std.specs.Ordering.{match_ordering, ordering_reverse, is_lt}
use Rattle.mdb_base.specs.Document.{Field, value_content, named_content}
use Rattle.mdb_base.specs.Tags.{Tag, is_before, is_below_first, is_by_name}
use Rattle.mdb_base.specs.declared.document.Value.{Value}
use Rattle.mdb_hello.specs.Kinds.{text_in, put_tag, put_tags}

swapped : (o : Option (List Tag)) (t : Option (List ℕ)) (g : List ℕ → List Tag → List Tag) (h : List Tag → Option (List Tag))
    → option_and_then (λ b. option_map (g b) (option_and_then h o)) t ≡ option_and_then (λ ts. option_and_then (λ b. option_map (g b) (h ts)) t) o
swapped (Some ts) t g h = refl
swapped None None g h = refl
swapped None (Some b) g h = refl

itself : (o : Option (List Tag)) → o ≡ option_and_then (λ ts. Some ts) o
itself (Some ts) = refl
itself None = refl

pub put_tags-append : (tags : List Tag) (fs gs : List Field) → put_tags tags (fs ++ gs) ≡ option_and_then (λ ts. put_tags ts fs) (put_tags tags gs)
put_tags-append tags [] gs = itself (put_tags tags gs)
put_tags-append tags (f ∷ fs) gs =
    ap (λ o. option_and_then (λ b. option_map (put_tag (f.0, b)) o) (text_in f.1)) (put_tags-append tags fs gs)
    ∙ swapped (put_tags tags gs) (text_in f.1) (λ b. put_tag (f.0, b)) (λ ts. put_tags ts fs)

through : (t : Option (List ℕ)) (g : List ℕ → List Tag) (h : List Tag → Option (List Tag)) → option_and_then h (option_and_then (λ b. Some (g b)) t) ≡ option_and_then (λ b. h (g b)) t
through None g h = refl
through (Some b) g h = refl

named_append : (fs : List (String Global × Value)) (f : String Global × Value) → map named_content (fs ++ f ∷ []) ≡ map named_content fs ++ named_content f ∷ []
named_append [] f = refl
named_append (g ∷ fs) f = ap (λ more. named_content g ∷ more) (named_append fs f)

-- the field before `at` is put first, where it is a text
pub put_last : (tags : List Tag) (fs : List (String Global × Value)) (at : ℕ) (f : String Global × Value) → at ≤ length fs → 0 < at → f ≡ get_or fs (at - 1) f
    → put_tags tags (map named_content (take at fs))
    ≡ option_and_then (λ bytes. put_tags (put_tag (string_bytes f.0, bytes) tags) (map named_content (take (at - 1) fs))) (text_in (value_content f.1))
put_last tags fs at f le some e =
    let before = take (at - 1) fs in
    let whole : take at fs ≡ before ++ f ∷ [] =
    ap (λ n. take n fs) (omega (arith, some)) ∙ take_more fs (at - 1) f (omega (arith, le, some)) ∙ ap (λ g. before ++ g ∷ []) (sym e) in
    ap (λ gs. put_tags tags (map named_content gs)) whole ∙ ap (put_tags tags) (named_append before f) ∙ put_tags-append tags (map named_content before) (named_content f ∷ [])
    ∙ through (text_in (value_content f.1)) (λ b. put_tag (string_bytes f.0, b) tags) (λ ts. put_tags ts (map named_content before))

pub put_text : (tags : List Tag) (fs : List (String Global × Value)) (at : ℕ) (f : String Global × Value) (bytes : List ℕ) → at ≤ length fs → 0 < at → f ≡ get_or fs (at - 1) f
    → text_in (value_content f.1) ≡ Some bytes → put_tags tags (map named_content (take at fs)) ≡ put_tags (put_tag (string_bytes f.0, bytes) tags) (map named_content (take (at - 1) fs))
put_text tags fs at f bytes le some e is =
    put_last tags fs at f le some e
    ∙ ap (λ t. option_and_then (λ b. put_tags (put_tag (string_bytes f.0, b) tags) (map named_content (take (at - 1) fs))) t) is

pub put_other : (tags : List Tag) (fs : List (String Global × Value)) (at : ℕ) (f : String Global × Value) → at ≤ length fs → 0 < at → f ≡ get_or fs (at - 1) f
    → text_in (value_content f.1) ≡ None → put_tags tags (map named_content (take at fs)) ≡ None
put_other tags fs at f le some e is =
    put_last tags fs at f le some e
    ∙ ap (λ t. option_and_then (λ b. put_tags (put_tag (string_bytes f.0, b) tags) (map named_content (take (at - 1) fs))) t) is

after_less : (a b : List ℕ) → slice_cmp nat_cmp a b ≡ Greater → is_before b a ≡ true
after_less a b e = ap is_lt (nat_list_cmp_total.antisymm b a ∙ ap ordering_reverse e)

below_placed : (name : List ℕ) (new tag : Tag) (tags more : List Tag) (o : Ordering) → is_before name new.0 ≡ true → is_before name tag.0 ≡ true
    → is_below_first name (match_ordering o (new ∷ tag ∷ tags) ((tag.0, new.1) ∷ tags) (tag ∷ more)) ≡ true
below_placed name new tag tags more Less n t = n
below_placed name new tag tags more Equal n t = t
below_placed name new tag tags more Greater n t = t

below_put : (name : List ℕ) (new : Tag) (tags : List Tag) → is_before name new.0 ≡ true → is_below_first name tags ≡ true → is_below_first name (put_tag new tags) ≡ true
below_put name new [] n b = n
below_put name new (tag ∷ tags) n b = below_placed name new tag tags (put_tag new tags) (slice_cmp nat_cmp new.0 tag.0) n b

and_both : (a b : Bool) → a ≡ true → b ≡ true → (a && b) ≡ true
and_both a b e f = rw (e, f) refl

pub and_first : (a b : Bool) → (a && b) ≡ true → a ≡ true
and_first true b e = refl
and_first false b e = e

pub and_second : (a b : Bool) → (a && b) ≡ true → b ≡ true
and_second true b e = e
and_second false b e = absurd (false≢true e)

by_name_placed : (new tag : Tag) (tags more : List Tag) (o : Ordering) → slice_cmp nat_cmp new.0 tag.0 ≡ o
    → is_below_first tag.0 tags ≡ true → is_by_name tags ≡ true → (is_before tag.0 new.0 ≡ true → is_by_name (tag ∷ more) ≡ true)
    → is_by_name (match_ordering o (new ∷ tag ∷ tags) ((tag.0, new.1) ∷ tags) (tag ∷ more)) ≡ true
by_name_placed new tag tags more Less e b s later = and_both (is_before new.0 tag.0) _ (ap is_lt e) (and_both (is_below_first tag.0 tags) (is_by_name tags) b s)
by_name_placed new tag tags more Equal e b s later = and_both (is_below_first tag.0 tags) (is_by_name tags) b s
by_name_placed new tag tags more Greater e b s later = later (after_less new.0 tag.0 e)

-- tags stay by name
pub by_name_put : (new : Tag) (tags : List Tag) → is_by_name tags ≡ true → is_by_name (put_tag new tags) ≡ true
by_name_put new [] s = refl
by_name_put new (tag ∷ tags) s =
    let b = and_first (is_below_first tag.0 tags) (is_by_name tags) s in
    let more = and_second (is_below_first tag.0 tags) (is_by_name tags) s in
    by_name_placed new tag tags (put_tag new tags) (slice_cmp nat_cmp new.0 tag.0) refl b more
    (λ after. and_both (is_below_first tag.0 (put_tag new tags)) (is_by_name (put_tag new tags)) (below_put tag.0 new tags after b) (by_name_put new tags more))
