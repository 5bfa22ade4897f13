-- The tags that are put in their places one after the other are those of the fields.
use Rattle.std.proofs.Common.{◌≡◌, ℕ, List, [], ◌∷◌, map, Bool, true, false, Option, Some, None, option_map, option_and_then, if◌then◌else◌, nat_eq, Ordering, Less, Equal, Greater, nat_cmp, Result, Ok, Err, IfOk, codes, refl, sym, ap, ◌∙◌}
use Rattle.std.proofs.lemmas.Cmp.{nat_list_cmp_total}
use Rattle.std.proofs.lemmas.Map.Lookups.{exact_bytes}
use Rattle.std.specs.Cmp.Lexicographic.{pointwise, slice_cmp, same_text}
use Rattle.std.specs.Ordering.{match_ordering, ordering_reverse}
use Rattle.mdb_base.specs.Document.{Content, int, boolean, text, list, id, date, nested, Fields, Field, listed_fields}
use Rattle.mdb_base.specs.Tags.{Tag, is_by_name}
use Rattle.mdb_hello.specs.Groups.{five, reply_of_halves, read_front, read_back}
use Rattle.mdb_hello.specs.Kinds.{text_in, tags_in, named, put_tag, put_tags, tag_field}
use Rattle.mdb_hello.specs.Reading.{Gives}
use Rattle.mdb_hello.specs.Reply.{read}
use Rattle.mdb_hello.specs.Table.{on_ok, of_its_type, optional_in, beside, read_rows}
use Rattle.mdb_hello.specs.TagRule.{AreTagsOf, HasTagsOf}
use Rattle.mdb_hello.specs.declared.error.HelloError.{HelloError}
use Rattle.mdb_hello.specs.declared.response.HelloCommandResponse.{HelloCommandResponse}
use Rattle.mdb_hello.proofs.Tables.{read_in_halves}
use Rattle.mdb_hello.proofs.Tagged.{by_name_put}

abbrev same : List ℕ → List ℕ → Bool
same a b = pointwise nat_eq a b

abbrev found : List ℕ → List Tag → Option Content
found name tags = named name (map tag_field tags)

abbrev first : Bool → List ℕ → Option Content → Option Content
first b bytes more = if b then Some (text bytes) else more

absent : (a b : List ℕ) → a ≡ b → slice_cmp nat_cmp a b ≡ Greater → ⊥
absent a b e order =
    let own : slice_cmp nat_cmp a a ≡ Greater = ap (slice_cmp nat_cmp a) e ∙ order in
    cc (sym own ∙ nat_list_cmp_total.antisymm a a ∙ ap ordering_reverse own)

-- one of two tests holds at most
turned : (b d : Bool) (x y : List ℕ) (more : Option Content) → (b ≡ true → d ≡ true → ⊥) → first d y (first b x more) ≡ first b x (first d y more)
turned true true x y more never = absurd (never refl refl)
turned true false x y more never = refl
turned false d x y more never = refl

covered : (b : Bool) (x y : List ℕ) (more : Option Content) → first b x more ≡ first b x (first b y more)
covered true x y more = refl
covered false x y more = refl

placed : (name : List ℕ) (new tag : Tag) (tags more : List Tag) (o : Ordering) → slice_cmp nat_cmp new.0 tag.0 ≡ o
    → found name more ≡ first (same new.0 name) new.1 (found name tags)
    → found name (match_ordering o (new ∷ tag ∷ tags) ((tag.0, new.1) ∷ tags) (tag ∷ more)) ≡ first (same new.0 name) new.1 (found name (tag ∷ tags))
placed name new tag tags more Less is later = refl
placed name new tag tags more Equal is later =
    let e : new.0 ≡ tag.0 = exact_bytes new.0 tag.0 is in
    covered (same tag.0 name) new.1 tag.1 (found name tags) ∙ sym (ap (λ own. first (same own name) new.1 (found name (tag ∷ tags))) e)
placed name new tag tags more Greater is later =
    ap (first (same tag.0 name) tag.1) later
    ∙ turned (same new.0 name) (same tag.0 name) new.1 tag.1 (found name tags)
    (λ a b. absent new.0 tag.0 (same_text new.0 name (sym a) ∙ sym (same_text tag.0 name (sym b))) is)

found_put : (name : List ℕ) (new : Tag) (tags : List Tag) → found name (put_tag new tags) ≡ first (same new.0 name) new.1 (found name tags)
found_put name new [] = refl
found_put name new (tag ∷ tags) = placed name new tag tags (put_tag new tags) (slice_cmp nat_cmp new.0 tag.0) refl (found_put name new tags)

is_text : (c : Content) (bytes : List ℕ) → text_in c ≡ Some bytes → text bytes ≡ c
is_text (text own) bytes e = cc e
is_text (int n) bytes e = absurd (cc e)
is_text (boolean b) bytes e = absurd (cc e)
is_text (list cs) bytes e = absurd (cc e)
is_text (id i) bytes e = absurd (cc e)
is_text (date d) bytes e = absurd (cc e)
is_text (nested fs) bytes e = absurd (cc e)

put_first : (f : Field) (fs : List Field) (tags : List Tag) (t : Option (List ℕ)) (o : Option (List Tag)) → text_in f.1 ≡ t → put_tags [] fs ≡ o
    → option_and_then (λ bytes. option_map (put_tag (f.0, bytes)) o) t ≡ Some tags → ((ts : List Tag) → put_tags [] fs ≡ Some ts → AreTagsOf fs ts) → AreTagsOf (f ∷ fs) tags
put_first f fs tags None o is put e rest = absurd (cc e)
put_first f fs tags (Some bytes) None is put e rest = absurd (cc e)
put_first f fs tags (Some bytes) (Some ts) is put e rest =
    let r = rest ts put in
    let whole : put_tag (f.0, bytes) ts ≡ tags = cc e in
    record {
      order = ap is_by_name (sym whole) ∙ by_name_put (f.0, bytes) ts r.order;
      values = λ name.
          ap (found name) (sym whole) ∙ found_put name (f.0, bytes) ts ∙ ap (first (same f.0 name) bytes) (r.values name)
          ∙ ap (λ c. if same f.0 name then Some c else named name fs) (is_text f.1 bytes is);
    }

pub put_all : (fs : List Field) (tags : List Tag) → put_tags [] fs ≡ Some tags → AreTagsOf fs tags
put_all [] tags e = let none : [] ≡ tags = cc e in record { order = ap is_by_name (sym none); values = λ name. ap (found name) (sym none) }
put_all (f ∷ fs) tags e = put_first f fs tags (text_in f.1) (put_tags [] fs) refl refl e (put_all fs)

whole : (fs : Fields) (tags : Option (List Tag)) (o : Option (List Tag)) → put_tags [] (listed_fields fs) ≡ o → on_ok Some (of_its_type (codes "tags") o) ≡ Ok tags
    → HasTagsOf (Some (nested fs)) tags
whole fs tags None put e = absurd (cc e)
whole fs None (Some ts) put e = absurd (cc e)
whole fs (Some tags) (Some ts) put e = let own : ts ≡ tags = cc e in put_all (listed_fields fs) tags (put ∙ ap Some own)

has_tags : (c : Option Content) (tags : Option (List Tag)) → optional_in tags_in (codes "tags") c ≡ Ok tags → HasTagsOf c tags
has_tags None None e = tt
has_tags None (Some tags) e = absurd (cc e)
has_tags (Some (nested fs)) tags e = whole fs tags (put_tags [] (listed_fields fs)) refl e
has_tags (Some (int n)) tags e = absurd (cc e)
has_tags (Some (boolean b)) tags e = absurd (cc e)
has_tags (Some (text own)) tags e = absurd (cc e)
has_tags (Some (list cs)) tags e = absurd (cc e)
has_tags (Some (id i)) tags e = absurd (cc e)
has_tags (Some (date d)) tags e = absurd (cc e)

ok_of : {A B : Type 0} (f : A → B) (r : Result A (List ℕ)) (y : B) → on_ok f r ≡ Ok y → (x : A) × ((r ≡ Ok x) × (f x ≡ y))
ok_of f (Ok x) y e = (x, (refl, cc e))
ok_of f (Err name) y e = absurd (cc e)

ok_first : {A B : Type 0} (a : Result A (List ℕ)) (b : Result B (List ℕ)) (p : A × B) → beside a b ≡ Ok p → a ≡ Ok p.0
ok_first (Err name) b p e = absurd (cc e)
ok_first (Ok x) (Err name) p e = absurd (cc e)
ok_first {A} {B} (Ok x) (Ok y) p e = let own : (x, y) ≡ p = cc e in ap (λ (q : A × B). Ok q.0) own

ok_second : {A B : Type 0} (a : Result A (List ℕ)) (b : Result B (List ℕ)) (p : A × B) → beside a b ≡ Ok p → b ≡ Ok p.1
ok_second (Err name) b p e = absurd (cc e)
ok_second (Ok x) (Err name) p e = absurd (cc e)
ok_second {A} {B} (Ok x) (Ok y) p e = let own : (x, y) ≡ p = cc e in ap (λ (q : A × B). Ok q.1) own

-- a reply that is read has the tags of its document
pub reply_tags : (doc : List Field) (reply : HelloCommandResponse) → read doc ≡ Ok reply → HasTagsOf (named (codes "tags") doc) reply.tags
reply_tags doc reply e =
    let p = ok_of reply_of_halves (beside (read_front doc) (read_back doc)) reply (sym (read_in_halves doc) ∙ e) in
    let back = ok_second (read_front doc) (read_back doc) p.0 p.1.0 in
    let state = ok_first (read_rows (five 15) doc) _ p.0.1 back in
    let at1 = ok_second _ _ p.0.1.0 state in
    let at2 = ok_second _ _ p.0.1.0.1 at1 in
    let at3 = ok_second _ _ p.0.1.0.1.1 at2 in
    let at4 = ok_second _ _ p.0.1.0.1.1.1 at3 in
    let row = ok_first _ _ p.0.1.0.1.1.1.1 at4 in
    has_tags (named (codes "tags") doc) reply.tags (row ∙ ap (λ (r : HelloCommandResponse). Ok r.tags) p.1.1)

-- so has the answer of a call that reads
pub answer_tags : (doc : List Field) (answer : Result HelloCommandResponse HelloError) → Gives answer (read doc) → IfOk answer (λ reply. HasTagsOf (named (codes "tags") doc) reply.tags)
answer_tags doc (Ok reply) gives = reply_tags doc reply gives
answer_tags doc (Err e) gives = tt
