-- A document and a value, level by level.
use Rattle.std.proofs.Common.{◌≡◌, List, [], ◌∷◌, map, rules, Vec, Global, String, refl, ap, ◌∙◌}
use Rattle.mdb_base.specs.Document.{Content, Field, doc_content, value_content, named, named_content, fields_of, listed_fields, contents_of, listed_contents, nested, list}
use Rattle.mdb_base.specs.declared.document.Value.{Value}
use Rattle.mdb_base.specs.declared.document.Value as value
use Rattle.mdb_base.specs.declared.document.Doc.{Doc, out-Doc, the_lemmas}
use Rattle.mdb_base.specs.declared.document.Value.TheViews.{roll-Doc}

names_first : (fs : List (String Global × Value)) → map named (map (λ (f : String Global × Value). (f.0, value_content f.1)) fs) ≡ map named_content fs
names_first [] = refl
names_first (f ∷ fs) = ap (λ more. named_content f ∷ more) (names_first fs)

pub doc_content_out : (d : Doc) → doc_content d ≡ map named_content (out-Doc d).fields.items
doc_content_out d = search (rules, the_lemmas, names_first (out-Doc d).fields.items)

pub doc_content_roll : (v : Vec (String Global × Value) Global) → doc_content (roll-Doc (record { fields = v })) ≡ map named_content v.items
doc_content_roll v = search (rules, the_lemmas, names_first v.items)

-- what stands inside a value comes out of it as it went in
pub fields_listed : (fs : List Field) → listed_fields (fields_of fs) ≡ fs
fields_listed [] = refl
fields_listed (f ∷ fs) = ap (λ more. f ∷ more) (fields_listed fs)

pub contents_listed : (cs : List Content) → listed_contents (contents_of cs) ≡ cs
contents_listed [] = refl
contents_listed (c ∷ cs) = ap (λ more. c ∷ more) (contents_listed cs)

pub nested_content : (d : Doc) → value_content (value.Nested d) ≡ nested (fields_of (doc_content d))
nested_content d = search (rules, the_lemmas)

pub list_content : (v : Vec Value Global) → value_content (value.List v) ≡ list (contents_of (map value_content v.items))
list_content v = search (rules, the_lemmas)

pub nested_roll : (v : Vec (String Global × Value) Global) → value_content (value.Nested (roll-Doc (record { fields = v }))) ≡ nested (fields_of (map named_content v.items))
nested_roll v = nested_content (roll-Doc (record { fields = v })) ∙ ap (λ fs. nested (fields_of fs)) (doc_content_roll v)
