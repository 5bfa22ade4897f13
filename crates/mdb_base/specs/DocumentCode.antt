-- A code of what a document says, by which proofs tell two documents apart: a tree of numbers that gives the document back.
use Rattle.std.specs.Prelude.{◌≡◌, ℕ, zero, suc, ℤ, pos, negsuc, List, [], ◌∷◌, true, false, refl}
use Rattle.std.specs.Coded.{Coded, coded_list, coded×}
use denote.Struct.Codes.{code_by, itself}
use base.Stored.{Gv, gnil, gnum, gcons}
use mathlib.Core.Path.{ap}
use Rattle.mdb_base.specs.Document.{Content, int, boolean, text, list, id, date, nested, Contents, no_contents, content, Fields, no_fields, field, Field}

abbrev numbers_code : List ℕ → Gv
numbers_code [] = gnil
numbers_code (n ∷ ns) = gcons (gnum n) (numbers_code ns)

abbrev numbers_in : Gv → List ℕ
numbers_in (gcons (gnum n) g) = n ∷ numbers_in g
numbers_in _ = []

abbrev integer_code : ℤ → Gv
integer_code (pos n) = gcons gnil (gnum n)
integer_code (negsuc n) = gcons (gnum 0) (gnum n)

abbrev integer_in : Gv → ℤ
integer_in (gcons gnil (gnum n)) = pos n
integer_in (gcons _ (gnum n)) = negsuc n
integer_in _ = pos 0

abbrev mutual
  pub content_code : Content → Gv
  content_code (boolean false) = gnil
  content_code (boolean true) = gnum 0
  content_code (int n) = gcons (gnum 0) (integer_code n)
  content_code (text t) = gcons (gnum 1) (numbers_code t)
  content_code (list cs) = gcons (gnum 2) (contents_code cs)
  content_code (id i) = gcons (gnum 3) (numbers_code i.0)
  content_code (date d) = gcons (gnum 4) (integer_code d.0)
  content_code (nested fs) = gcons (gnum 5) (fields_code fs)

  contents_code : Contents → Gv
  contents_code no_contents = gnil
  contents_code (content c cs) = gcons (content_code c) (contents_code cs)

  fields_code : Fields → Gv
  fields_code no_fields = gnil
  fields_code (field name c fs) = gcons (gcons (numbers_code name) (content_code c)) (fields_code fs)

abbrev mutual
  content_in : Gv → Content
  content_in gnil = boolean false
  content_in (gcons (gnum zero) g) = int (integer_in g)
  content_in (gcons (gnum (suc zero)) g) = text (numbers_in g)
  content_in (gcons (gnum (suc (suc zero))) g) = list (contents_in g)
  content_in (gcons (gnum (suc (suc (suc zero)))) g) = id (record { 0 = numbers_in g })
  content_in (gcons (gnum (suc (suc (suc (suc zero))))) g) = date (record { 0 = integer_in g })
  content_in (gcons (gnum (suc (suc (suc (suc (suc n)))))) g) = nested (fields_in g)
  content_in _ = boolean true

  contents_in : Gv → Contents
  contents_in (gcons g more) = content (content_in g) (contents_in more)
  contents_in _ = no_contents

  fields_in : Gv → Fields
  fields_in (gcons (gcons name g) more) = field (numbers_in name) (content_in g) (fields_in more)
  fields_in _ = no_fields

pub numbers_back : (ns : List ℕ) → numbers_in (numbers_code ns) ≡ ns
numbers_back [] = refl
numbers_back (n ∷ ns) = ap (λ more. n ∷ more) (numbers_back ns)

integer_back : (n : ℤ) → integer_in (integer_code n) ≡ n
integer_back (pos n) = refl
integer_back (negsuc n) = refl

mutual
  pub content_back : (c : Content) → content_in (content_code c) ≡ c
  content_back (boolean false) = refl
  content_back (boolean true) = refl
  content_back (int n) = ap int (integer_back n)
  content_back (text t) = ap text (numbers_back t)
  content_back (list cs) = ap list (contents_back cs)
  content_back (id i) = ap (λ ns. id (record { 0 = ns })) (numbers_back i.0)
  content_back (date d) = ap (λ n. date (record { 0 = n })) (integer_back d.0)
  content_back (nested fs) = ap nested (fields_back fs)

  contents_back : (cs : Contents) → contents_in (contents_code cs) ≡ cs
  contents_back no_contents = refl
  contents_back (content c cs) = λ i. content (content_back c i) (contents_back cs i)

  fields_back : (fs : Fields) → fields_in (fields_code fs) ≡ fs
  fields_back no_fields = refl
  fields_back (field name c fs) = λ i. field (numbers_back name i) (content_back c i) (fields_back fs i)

abbrev pub fields_coded : Coded (List Field)
fields_coded = coded_list (code_by (Gv × Gv) (coded× itself itself) (λ f. (numbers_code f.0, content_code f.1)) (λ g. (numbers_in g.0, content_in g.1)) (λ f i. (numbers_back f.0 i, content_back f.1 i)))
