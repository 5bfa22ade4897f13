-- Values with commas between them: what stands round the first comma, and that the last value has none.
use Rattle.std.proofs.Common.{◌≡◌, ℕ, ◌<◌, not, Bool, true, false, eqb, List, [], ◌∷◌, ◌++◌, length, refl, sym, ◌∙◌, arith, eq-eqb, append_assoc, length-append, codes}
use Rattle.std.specs.List.{list_all, position_or_len, before_first, after_first, flat_map}
use Rattle.std.proofs.lemmas.List.{append-nil}
use Rattle.std.proofs.Math.Seq.{take-append_seam, drop-append-add}
use Rattle.std.proofs.lemmas.Bool.{and_parts, and_from}
use Rattle.mdb_parts.specs.Parts.{commas}
use Rattle.mdb_parts.specs.Reading.{lacks}

not_so : (t : Bool) → not t ≡ true → t ≡ false
not_so true h = sym h
not_so false h = refl

-- the first such byte stands behind a word that lacks it
pub place_behind : (c : ℕ) (word rest : List ℕ) → lacks c word ≡ true → position_or_len (λ b. eqb b c) (word ++ c ∷ rest) ≡ length word
place_behind c [] rest l = rw (eq-eqb c c refl) refl
place_behind c (b ∷ bs) rest l = let p = and_parts _ _ l in let more = place_behind c bs rest p.1 in rw (not_so (eqb b c) p.0) (omega (arith, more))

pub place_none : (c : ℕ) (word : List ℕ) → lacks c word ≡ true → position_or_len (λ b. eqb b c) word ≡ length word
place_none c [] l = refl
place_none c (b ∷ bs) l = let p = and_parts _ _ l in let more = place_none c bs p.1 in rw (not_so (eqb b c) p.0) (omega (arith, more))

-- values whose texts have no comma
abbrev pub LackCommas : {A : Type 0} → (A → List ℕ) → (A → Bool) → Type 0
LackCommas {A} show rule = (x : A) → rule x ≡ true → lacks 44 (show x) ≡ true

-- what is read of these values: those that were found, and the text of the others, one at least
pub record Leaves {A : Type 0} (show : A → List ℕ) (rule : A → Bool) (values found : List A) (rest : List ℕ) : Type 0 where
  pub next : A
  pub later : List A
  pub all : values ≡ found ++ next ∷ later
  pub text : rest ≡ commas show (next ∷ later)
  pub own : rule next ≡ true
  pub others : list_all rule later ≡ true

pub leaves_all : {A : Type 0} (show : A → List ℕ) (rule : A → Bool) (values : List A) (text : List ℕ) → 0 < length values → list_all rule values ≡ true → text ≡ commas show values → Leaves show rule values [] text
leaves_all show rule [] text some h e = absurd (omega arith)
leaves_all show rule (a ∷ more) text some h e = let p = and_parts _ _ h in record { next = a; later = more; all = refl; text = e; own = p.0; others = p.1 }

abbrev pub is_comma : ℕ → Bool
is_comma b = eqb b 44

-- what stands round the first comma
pub record Splits (text first more : List ℕ) : Type 0 where
  pub inside : position_or_len is_comma text < length text
  pub before : first ≡ before_first is_comma text
  pub after : more ≡ after_first is_comma text

pub record Takes {A : Type 0} (show : A → List ℕ) (rule : A → Bool) (values found : List A) (first more : List ℕ) : Type 0 where
  pub taken : A
  pub own : rule taken ≡ true
  pub text : first ≡ show taken
  pub left : Leaves show rule values (found ++ taken ∷ []) more

pub leaves_split : {A : Type 0} (show : A → List ℕ) (rule : A → Bool) → LackCommas show rule → (values found : List A) (rest first more : List ℕ) → Leaves show rule values found rest → Splits rest first more → Takes show rule values found first more
leaves_split {A} show rule lack values found rest first more l s = takes l.next l.later l.all l.text l.own l.others
  where
    takes : (a : A) (later : List A) → values ≡ found ++ a ∷ later → rest ≡ commas show (a ∷ later) → rule a ≡ true → list_all rule later ≡ true → Takes show rule values found first more
    takes a [] all e h hs =
        let one : rest ≡ show a = e ∙ append-nil (show a) in
        let place : position_or_len is_comma rest ≡ length rest = rw one (place_none 44 (show a) (lack a h)) in
        absurd (omega (arith, s.inside, place))
    takes a (b ∷ later) all e h hs =
        let p = and_parts (rule b) (list_all rule later) hs in
        let tail = commas show (b ∷ later) in
        let place : position_or_len is_comma (show a ++ 44 ∷ tail) ≡ length (show a) = place_behind 44 (show a) tail (lack a h) in
        record {
          taken = a;
          own = h;
          text = s.before ∙ rw (e, place) (take-append_seam (show a) (44 ∷ tail));
          left = record {
            next = b;
            later = later;
            all = all ∙ sym (append_assoc found (a ∷ []) (b ∷ later));
            text = s.after ∙ rw (e, place) (drop-append-add (show a) (44 ∷ tail) 1);
            own = p.0;
            others = p.1;
          };
        }

pub leaves_last : {A : Type 0} (show : A → List ℕ) (rule : A → Bool) → LackCommas show rule → (values found : List A) (rest : List ℕ) → Leaves show rule values found rest → position_or_len is_comma rest ≡ length rest
    → (a : A) × (rule a ≡ true) × (rest ≡ show a) × (values ≡ found ++ a ∷ [])
leaves_last {A} show rule lack values found rest l none = last l.next l.later l.all l.text l.own
  where
    last : (a : A) (later : List A) → values ≡ found ++ a ∷ later → rest ≡ commas show (a ∷ later) → rule a ≡ true
        → (a : A) × (rule a ≡ true) × (rest ≡ show a) × (values ≡ found ++ a ∷ [])
    last a [] all e h = (a, h, e ∙ append-nil (show a), all)
    last a (b ∷ later) all e h =
        let tail = commas show (b ∷ later) in
        let place : position_or_len is_comma (show a ++ 44 ∷ tail) ≡ length (show a) = place_behind 44 (show a) tail (lack a h) in
        let size : length (show a) ≡ length (show a ++ 44 ∷ tail) = sym place ∙ rw e at none in
        absurd (omega (arith, size, length-append (show a) (44 ∷ tail)))

-- other bytes that such texts lack

pub lacks_append : (c : ℕ) (xs ys : List ℕ) → lacks c xs ≡ true → lacks c ys ≡ true → lacks c (xs ++ ys) ≡ true
lacks_append c [] ys l m = m
lacks_append c (x ∷ xs) ys l m = let p = and_parts _ _ l in and_from _ _ p.0 (lacks_append c xs ys p.1 m)

more_lack : {A : Type 0} (show : A → List ℕ) (rule : A → Bool) → ((x : A) → rule x ≡ true → lacks 32 (show x) ≡ true) → (values : List A) → list_all rule values ≡ true → lacks 32 (flat_map (λ b. codes "," ++ show b) values) ≡ true
more_lack show rule lack [] h = refl
more_lack show rule lack (a ∷ more) h = let p = and_parts _ _ h in lacks_append 32 (show a) (flat_map (λ b. codes "," ++ show b) more) (lack a p.0) (more_lack show rule lack more p.1)

pub commas_lack : {A : Type 0} (show : A → List ℕ) (rule : A → Bool) → ((x : A) → rule x ≡ true → lacks 32 (show x) ≡ true) → (values : List A) → list_all rule values ≡ true → lacks 32 (commas show values) ≡ true
commas_lack show rule lack [] h = refl
commas_lack show rule lack (a ∷ more) h = let p = and_parts _ _ h in lacks_append 32 (show a) (flat_map (λ b. codes "," ++ show b) more) (lack a p.0) (more_lack show rule lack more p.1)
