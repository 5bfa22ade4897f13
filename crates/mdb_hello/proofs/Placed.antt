-- Where a tag is put in its place.
use Rattle.std.proofs.Common.{◌≡◌, ℕ, suc, ◌+◌, ◌<◌, ◌≤◌, List, [], ◌∷◌, ◌++◌, take, drop, set, length, get_or, Less, Equal, nat_cmp, sym, ap, ◌∙◌}
use Rattle.std.proofs.Math.Seq.{drop-cons}
use native.Mathlib.Numerals.{unary_clauses}
use Rattle.std.proofs.lemmas.List.{take-append-drop, take-set, drop-set, take_all, drop_all}
use Rattle.std.specs.Cmp.Lexicographic.{slice_cmp}
use Rattle.std.specs.List.{insert}
use Rattle.std.specs.Ordering.{match_ordering}
use Rattle.mdb_base.specs.Tags.{Tag}
use Rattle.mdb_hello.specs.Kinds.{put_tag}

-- the names of the first tags are below the new one's
abbrev pub LiesPast : Tag → List Tag → ℕ → Type 0
LiesPast new tags at = put_tag new tags ≡ take at tags ++ put_tag new (drop at tags)

cut_at : (tags : List Tag) (at : ℕ) (tag : Tag) → at < length tags → tag ≡ get_or tags at tag → drop at tags ≡ tag ∷ drop (at + 1) tags
cut_at tags at tag lt e = simp unary_clauses (drop-cons tags at tag lt ∙ ap (λ t. t ∷ drop (suc at) tags) (sym e))

pub put_less : (new : Tag) (tags : List Tag) (at : ℕ) (tag : Tag) → at < length tags → tag ≡ get_or tags at tag → slice_cmp nat_cmp new.0 tag.0 ≡ Less
    → LiesPast new tags at → insert tags at new ≡ put_tag new tags
put_less new tags at tag lt e less past =
    let d = cut_at tags at tag lt e in
    let more = drop (at + 1) tags in
    let first = ap (λ o. match_ordering o (new ∷ tag ∷ more) ((tag.0, new.1) ∷ more) (tag ∷ put_tag new more)) less in
    sym (past ∙ ap (λ xs. take at tags ++ xs) (ap (put_tag new) d ∙ first ∙ ap (λ xs. new ∷ xs) (sym d)))

one_place : (tags : List Tag) (at : ℕ) (tag other : Tag) → at < length tags → tag ≡ get_or tags at tag → other ≡ get_or tags at other → other ≡ tag
one_place tags at tag other lt e f = ap (λ xs. get_or xs 0 tag) (sym (cut_at tags at other lt f) ∙ cut_at tags at tag lt e)

pub put_equal : (new : Tag) (tags : List Tag) (at : ℕ) (tag seen : Tag) → at < length tags → tag ≡ get_or tags at tag → seen ≡ get_or tags at seen
    → slice_cmp nat_cmp new.0 seen.0 ≡ Equal → LiesPast new tags at → set tags at (tag.0, new.1) ≡ put_tag new tags
put_equal new tags at tag seen lt e f order past =
    let same = ap (λ (t : Tag). slice_cmp nat_cmp new.0 t.0) (one_place tags at seen tag lt f e) ∙ order in
    let d = cut_at tags at tag lt e in
    let more = drop (at + 1) tags in
    let first = ap (λ o. match_ordering o (new ∷ tag ∷ more) ((tag.0, new.1) ∷ more) (tag ∷ put_tag new more)) same in
    let split = sym (take-append-drop at (set tags at (tag.0, new.1))) in
    let parts = ap (λ xs. xs ++ drop at (set tags at (tag.0, new.1))) (take-set tags at (tag.0, new.1)) ∙ ap (λ xs. take at tags ++ xs) (drop-set tags at (tag.0, new.1) lt) in
    split ∙ parts ∙ sym (past ∙ ap (λ xs. take at tags ++ xs) (ap (put_tag new) d ∙ first))

pub put_end : (new : Tag) (tags : List Tag) (at : ℕ) → length tags ≤ at → LiesPast new tags at → tags ++ new ∷ [] ≡ put_tag new tags
put_end new tags at le past =
    sym (past ∙ ap (λ xs. take at tags ++ xs) (ap (put_tag new) (drop_all at tags le)) ∙ ap (λ xs. xs ++ new ∷ []) (take_all at tags le))
