-- What is spelled alike is the same: words, numbers, values and optional parts.
use Rattle.std.proofs.Common.{◌≡◌, ℕ, ◌<◌, ◌^◌, Bool, true, List, [], ◌∷◌, ◌++◌, ◌&&◌, map, length, Option, Some, None, option_map, IfSome, refl, sym, ap, ◌∙◌, arith, append_assoc, append-nil, decimal, ℤ, pos, int_le, FitsSigned}
use Rattle.std.specs.Int.{w64}
use Rattle.std.specs.List.{list_all}
use Rattle.std.specs.Fmt.{signed_decimal}
use Rattle.std.proofs.lemmas.Bool.{and_parts}
use Rattle.std.proofs.lemmas.List.{append_cancel_left}
use Rattle.std.proofs.lemmas.Fmt.{decimal_injective, signed_decimal_injective}
use Rattle.mdb_base.specs.AddressRule.{is_address}
use Rattle.mdb_base.specs.AddressReading.{until, beyond, after, address_of}
use Rattle.mdb_base.specs.Spelling.{address, object_id}
use Rattle.mdb_base.specs.declared.address.ServerAddress.{ServerAddress}
use Rattle.mdb_base.specs.declared.object_id.ObjectId.{ObjectId}
use Rattle.mdb_base.proofs.Words.{after_here}
use Rattle.mdb_base.proofs.AddressAgain.{IsRest, rest_nil, rest_cons, word_cut, address_again}
use Rattle.mdb_parts.specs.Parts.{Part, parts_text, commas, addresses, are_apart, are_spaced, may_follow}
use Rattle.mdb_parts.specs.Types.{IsIdOfTypes}
use Rattle.mdb_parts.specs.Reading.{lacks, Follows}
use Rattle.mdb_parts.proofs.TextLemmas.{follows_rest, decimal_lacks, short_64}
use Rattle.mdb_parts.proofs.AddressLemmas.{address_no_comma, id_again}
use Rattle.mdb_parts.proofs.CommaLemmas.{LackCommas}
use Rattle.mdb_parts.proofs.PartLemmas.{parts_lack, parts_follow}

some_same : {A : Type 0} (a b : A) → Some a ≡ Some b → a ≡ b
some_same a b h = cc

-- words

pub cut_same : (c : ℕ) (w v rest more : List ℕ) → lacks c w ≡ true → lacks c v ≡ true → IsRest c rest → IsRest c more → w ++ rest ≡ v ++ more → (w ≡ v) × (rest ≡ more)
cut_same c w v rest more lw lv r m e =
    let p = word_cut c w rest lw r in
    let q = word_cut c v more lv m in
    (sym p.0 ∙ ap (until c) e ∙ q.0, sym p.1 ∙ ap (beyond c) e ∙ q.1)

pub word_same : (w v rest more : List ℕ) → lacks 32 w ≡ true → lacks 32 v ≡ true → Follows rest → Follows more → w ++ rest ≡ v ++ more → (w ≡ v) × (rest ≡ more)
word_same w v rest more lw lv r m e = cut_same 32 w v rest more lw lv (follows_rest rest r) (follows_rest more m) e

pub number_same : (n k : ℕ) (rest more : List ℕ) → n < 2 ^ 64 → k < 2 ^ 64 → Follows rest → Follows more → decimal n ++ rest ≡ decimal k ++ more → (n ≡ k) × (rest ≡ more)
number_same n k rest more ln lk r m e =
    let p = word_same (decimal n) (decimal k) rest more (decimal_lacks 32 n (omega arith) ln) (decimal_lacks 32 k (omega arith) lk) r m e in
    (decimal_injective n k ln lk p.0, p.1)

-- addresses and ids

pub address_same : (a b : ServerAddress) → is_address a ≡ true → is_address b ≡ true → address a ≡ address b → a ≡ b
address_same a b ha hb e = some_same a b (sym (address_again a ha) ∙ ap address_of e ∙ address_again b hb)

-- values with commas between them
pub commas_same : {A : Type 0} (show : A → List ℕ) (rule : A → Bool) → LackCommas show rule → ((x y : A) → rule x ≡ true → rule y ≡ true → show x ≡ show y → x ≡ y)
    → (xs ys : List A) → 0 < length xs → 0 < length ys → list_all rule xs ≡ true → list_all rule ys ≡ true → commas show xs ≡ commas show ys → xs ≡ ys
commas_same show rule lack one [] ys la lb ha hb e = absurd (omega arith)
commas_same show rule lack one (a ∷ xs) [] la lb ha hb e = absurd (omega arith)
commas_same show rule lack one (a ∷ []) (b ∷ []) la lb ha hb e =
    let p = and_parts _ _ ha in
    let q = and_parts _ _ hb in
    let same = one a b p.0 q.0 (sym (append-nil (show a)) ∙ e ∙ append-nil (show b)) in cc
commas_same show rule lack one (a ∷ []) (b ∷ d ∷ ys) la lb ha hb e =
    let p = and_parts _ _ ha in
    let q = and_parts _ _ hb in
    let s = cut_same 44 (show a) (show b) [] (44 ∷ commas show (d ∷ ys)) (lack a p.0) (lack b q.0) (rest_nil 44) (rest_cons 44 (commas show (d ∷ ys))) e in
    absurd (let f : ◌≡◌ {A = List ℕ} [] (44 ∷ commas show (d ∷ ys)) = s.1 in cc)
commas_same show rule lack one (a ∷ c ∷ xs) (b ∷ []) la lb ha hb e =
    let p = and_parts _ _ ha in
    let q = and_parts _ _ hb in
    let s = cut_same 44 (show a) (show b) (44 ∷ commas show (c ∷ xs)) [] (lack a p.0) (lack b q.0) (rest_cons 44 (commas show (c ∷ xs))) (rest_nil 44) e in
    absurd (let f : ◌≡◌ {A = List ℕ} (44 ∷ commas show (c ∷ xs)) [] = s.1 in cc)
commas_same show rule lack one (a ∷ c ∷ xs) (b ∷ d ∷ ys) la lb ha hb e =
    let p = and_parts _ _ ha in
    let q = and_parts _ _ hb in
    let s = cut_same 44 (show a) (show b) (44 ∷ commas show (c ∷ xs)) (44 ∷ commas show (d ∷ ys)) (lack a p.0) (lack b q.0) (rest_cons 44 (commas show (c ∷ xs))) (rest_cons 44 (commas show (d ∷ ys))) e in
    let first = one a b p.0 q.0 s.0 in
    let tail : commas show (c ∷ xs) ≡ commas show (d ∷ ys) = append_cancel_left (44 ∷ []) (commas show (c ∷ xs)) (commas show (d ∷ ys)) s.1 in
    let more = commas_same show rule lack one (c ∷ xs) (d ∷ ys) (omega arith) (omega arith) p.1 q.1 tail in cc

pub addresses_same : (xs ys : List ServerAddress) → 0 < length xs → 0 < length ys → list_all is_address xs ≡ true → list_all is_address ys ≡ true → addresses xs ≡ addresses ys → xs ≡ ys
addresses_same = commas_same address is_address address_no_comma address_same

pub id_same : (x y : ObjectId) → IsIdOfTypes x → IsIdOfTypes y → object_id x ≡ object_id y → x ≡ y
id_same x y hx hy e = some_same x y (sym (id_again x (object_id y) hx (sym e)) ∙ id_again y (object_id y) hy refl)

-- optional parts

pub part_same : (name : List ℕ) (o p : Option (List ℕ)) (ps qs : List Part) → IfSome o (λ w. lacks 32 w ≡ true) → IfSome p (λ w. lacks 32 w ≡ true) → may_follow name ps ≡ true → may_follow name qs ≡ true
    → parts_text ((name, o) ∷ ps) ≡ parts_text ((name, p) ∷ qs) → (o ≡ p) × (parts_text ps ≡ parts_text qs)
unfolding parts_text
part_same name None None ps qs lo lp fo fp e = (refl, e)
part_same name None (Some w) ps qs lo lp fo fp e =
    let lacking = parts_lack name ps (and_parts (are_apart name ps) (are_spaced ps) fo).0 in
    let here : after name ((name ++ w) ++ parts_text qs) ≡ Some (w ++ parts_text qs) = rw (append_assoc name w (parts_text qs)) (after_here name (w ++ parts_text qs)) in
    let f = sym lacking ∙ ap (after name) e ∙ here in absurd (cc)
part_same name (Some w) None ps qs lo lp fo fp e =
    let lacking = parts_lack name qs (and_parts (are_apart name qs) (are_spaced qs) fp).0 in
    let here : after name ((name ++ w) ++ parts_text ps) ≡ Some (w ++ parts_text ps) = rw (append_assoc name w (parts_text ps)) (after_here name (w ++ parts_text ps)) in
    let f = sym lacking ∙ ap (after name) (sym e) ∙ here in absurd (cc)
part_same name (Some w) (Some v) ps qs lo lp fo fp e =
    let same : name ++ (w ++ parts_text ps) ≡ name ++ (v ++ parts_text qs) = sym (append_assoc name w (parts_text ps)) ∙ e ∙ append_assoc name v (parts_text qs) in
    let tails = append_cancel_left name (w ++ parts_text ps) (v ++ parts_text qs) same in
    let s = word_same w v (parts_text ps) (parts_text qs) lo lp (parts_follow ps (and_parts (are_apart name ps) (are_spaced ps) fo).1) (parts_follow qs (and_parts (are_apart name qs) (are_spaced qs) fp).1) tails in
    (ap Some s.0, s.1)

pub values_same : {A : Type 0} (show : A → List ℕ) (P : A → Type 0) → ((x y : A) → P x → P y → show x ≡ show y → x ≡ y) → (o p : Option A) → IfSome o P → IfSome p P → option_map show o ≡ option_map show p → o ≡ p
values_same show P same None None ho hp e = refl
values_same show P same None (Some y) ho hp e = absurd (cc)
values_same show P same (Some x) None ho hp e = absurd (cc)
values_same show P same (Some x) (Some y) ho hp e = ap Some (same x y ho hp (some_same (show x) (show y) e))

pub numbers_same-32 : (o p : Option ℕ) → IfSome o (λ n. n < 2 ^ 32) → IfSome p (λ n. n < 2 ^ 32) → option_map decimal o ≡ option_map decimal p → o ≡ p
numbers_same-32 o p ho hp e = values_same decimal (λ n. n < 2 ^ 32) (λ n k ln lk same. decimal_injective n k (omega (arith, ln)) (omega (arith, lk)) same) o p ho hp e

pub numbers_same-64 : (o p : Option ℕ) → IfSome o (λ n. n < 2 ^ 64) → IfSome p (λ n. n < 2 ^ 64) → option_map decimal o ≡ option_map decimal p → o ≡ p
numbers_same-64 o p ho hp e = values_same decimal (λ n. n < 2 ^ 64) (λ n k ln lk same. decimal_injective n k ln lk same) o p ho hp e

pub numbers_same-signed : (o p : Option ℤ) → IfSome o (λ z. FitsSigned w64 z × (int_le (pos 0) z ≡ true)) → IfSome p (λ z. FitsSigned w64 z × (int_le (pos 0) z ≡ true)) → option_map signed_decimal o ≡ option_map signed_decimal p → o ≡ p
numbers_same-signed o p ho hp e =
    values_same signed_decimal (λ z. FitsSigned w64 z × (int_le (pos 0) z ≡ true)) (λ y z hy hz same. signed_decimal_injective y z (short_64 y hy.0 hy.1) (short_64 z hz.0 hz.1) same) o p ho hp e

pub ids_same : (o p : Option ObjectId) → IfSome o IsIdOfTypes → IfSome p IsIdOfTypes → option_map object_id o ≡ option_map object_id p → o ≡ p
ids_same o p ho hp e = values_same object_id IsIdOfTypes id_same o p ho hp e

-- all parts at once: where the names are the same, and no part can be read as a later one, the parts are the same

abbrev pub AllLack : List Part → Type 0
AllLack [] = Unit {0}
AllLack (p ∷ ps) = IfSome p.1 (λ w. lacks 32 w ≡ true) × AllLack ps

abbrev pub are_distinct : List Part → Bool
are_distinct [] = true
are_distinct (p ∷ ps) = may_follow p.0 ps && are_distinct ps

abbrev pub name_of : Part → List ℕ
name_of p = p.0

pub parts_same : (ps qs : List Part) → map name_of ps ≡ map name_of qs → are_distinct ps ≡ true → are_distinct qs ≡ true → AllLack ps → AllLack qs → parts_text ps ≡ parts_text qs → ps ≡ qs
parts_same [] [] names dp dq lp lq e = refl
parts_same [] (q ∷ qs) names dp dq lp lq e = absurd (cc)
parts_same (p ∷ ps) [] names dp dq lp lq e = absurd (cc)
parts_same ((n, o) ∷ ps) ((m, x) ∷ qs) names dp dq lp lq e =
    let name : m ≡ n = cc in
    let others : map name_of ps ≡ map name_of qs = cc in
    let fp = and_parts (may_follow n ps) (are_distinct ps) dp in
    let fq = and_parts (may_follow m qs) (are_distinct qs) dq in
    let here = part_same n o x ps qs lp.0 lq.0 fp.0 (rw name at fq.0) (rw name at e) in
    let more = parts_same ps qs others fp.1 fq.1 lp.1 lq.1 here.1 in
    rw (name, here.0, more) refl
