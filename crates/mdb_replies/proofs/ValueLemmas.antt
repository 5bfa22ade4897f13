-- The bytes that the words of values lack, and what their rules say.
use Rattle.std.proofs.Common.{◌≡◌, ℕ, ℤ, ◌<◌, ◌≤◌, ◌&&◌, Bool, true, false, leb, if◌then◌else◌, List, [], ◌∷◌, ◌++◌, length, Option, Some, None, option_map, IfSome, FitsSigned, refl, sym, ap, ◌∙◌, arith, codes, bytes_eq, inl, inr}
use Rattle.std.specs.Int.{w32}
use Rattle.std.specs.Fmt.{signed_decimal}
use Rattle.std.specs.List.{list_all}
use Rattle.std.proofs.lemmas.Bool.{cases_Bool, leb-true, and_parts, and_from}
use Rattle.std.proofs.lemmas.Slice.Eq.{bytes_eq-Decides}
use Rattle.mdb_base.specs.AddressReading.{until, beyond, address_of}
use Rattle.mdb_base.specs.AddressRule.{is_address, IsAddressText}
use Rattle.mdb_base.specs.Spelling.{address}
use Rattle.mdb_base.specs.Tags.{Tag, is_by_name}
use Rattle.mdb_base.specs.declared.address.ServerAddress.{ServerAddress}
use Rattle.mdb_base.proofs.AddressAgain.{rest_cons, word_cut, address_again}
use Rattle.mdb_parts.specs.Parts.{texts}
use Rattle.mdb_parts.specs.Reading.{lacks}
use Rattle.mdb_parts.specs.WordRule.{is_word, keeps}
use Rattle.mdb_parts.proofs.TextLemmas.{signed_lacks}
use Rattle.mdb_parts.proofs.AddressLemmas.{address_lacks, address_no_comma, address_spelled}
use Rattle.mdb_parts.proofs.CommaLemmas.{lacks_append, commas_lack}
use Rattle.mdb_parts.proofs.WordLemmas.{word_lacks}
use Rattle.mdb_replies.specs.Values.{bool_word, tag_text, tags_text, is_tag, are_tags, is_spelled, is_address_text, all_different, are_hosts}

-- tags

pub tag_cut : (t : Tag) (word : List ℕ) → is_tag t ≡ true → word ≡ tag_text t → (until 58 word ≡ t.0) × (beyond 58 word ≡ codes ":" ++ t.1)
tag_cut t word h e =
    let p = and_parts (is_word t.0) (is_word t.1) h in
    let q = word_cut 58 t.0 (58 ∷ t.1) (word_lacks 58 refl t.0 p.0) (rest_cons 58 t.1) in
    (ap (until 58) e ∙ q.0, ap (beyond 58) e ∙ q.1)

pub tag_lacks : (c : ℕ) → lacks c (codes ":_") ≡ true → (t : Tag) → is_tag t ≡ true → ((w : List ℕ) → is_word w ≡ true → lacks c w ≡ true) → lacks c (tag_text t) ≡ true
tag_lacks c other t h word =
    let p = and_parts (is_word t.0) (is_word t.1) h in
    lacks_append c t.0 (58 ∷ t.1) (word t.0 p.0) (and_from _ _ (and_parts _ _ other).0 (word t.1 p.1))

pub tag_no_comma : (t : Tag) → is_tag t ≡ true → lacks 44 (tag_text t) ≡ true
tag_no_comma t h = tag_lacks 44 refl t h (λ w k. word_lacks 44 refl w k)

tag_no_space : (t : Tag) → is_tag t ≡ true → lacks 32 (tag_text t) ≡ true
tag_no_space t h = tag_lacks 32 refl t h (λ w k. word_lacks 32 refl w k)

-- what the rules of tags say
pub record TagRules (tags : List Tag) : Type 0 where
  pub some : 0 < length tags
  pub order : is_by_name tags ≡ true
  pub own : list_all is_tag tags ≡ true

pub tag_rules : (tags : List Tag) → are_tags tags ≡ true → TagRules tags
unfolding are_tags
tag_rules tags h =
    let p = and_parts (leb 1 (length tags)) (is_by_name tags && list_all is_tag tags) h in
    let q = and_parts (is_by_name tags) (list_all is_tag tags) p.1 in
    let one : 1 ≤ length tags = leb-true 1 (length tags) p.0 in
    record { some = omega arith; order = q.0; own = q.1 }

pub words_lack-tags : (o : Option (List Tag)) → keeps are_tags o ≡ true → IfSome (option_map tags_text o) (λ w. lacks 32 w ≡ true)
words_lack-tags None h = tt
words_lack-tags (Some tags) h = commas_lack tag_text is_tag tag_no_space tags (tag_rules tags h).own

pub tags_made : (all pairs : List Tag) (o : Option (List Tag)) → is_by_name all ≡ true → pairs ≡ all → o ≡ (if is_by_name pairs then Some pairs else None) → o ≡ Some all
tags_made all pairs o order same made = made ∙ rw (same, order) refl

-- truth values and numbers

pub words_lack_bool : (o : Option Bool) → IfSome (option_map bool_word o) (λ w. lacks 32 w ≡ true)
words_lack_bool None = tt
words_lack_bool (Some true) = refl
words_lack_bool (Some false) = refl

pub words_lack_signed32 : (o : Option ℤ) → IfSome o (FitsSigned w32) → IfSome (option_map signed_decimal o) (λ w. lacks 32 w ≡ true)
words_lack_signed32 None h = tt
words_lack_signed32 (Some z) h = signed_lacks 32 z (omega arith) (let small = h.sfits in record { sfits = omega (arith, small) })

-- texts of addresses

-- an address that a text is
pub record IsTextOf (text : List ℕ) (a : ServerAddress) : Type 0 where
  pub rule : is_address a ≡ true
  pub text_is : text ≡ address a

pub text_of : (text : List ℕ) → is_address_text text ≡ true → (a : ServerAddress) × IsTextOf text a
unfolding is_address_text
text_of text h = by (address_of text) h
  where
    by : (o : Option ServerAddress) → is_spelled o text ≡ true → (a : ServerAddress) × IsTextOf text a
    by None k = absurd (cc)
    by (Some a) k =
        let p = and_parts (is_address a) (bytes_eq (address a) text) k in
        (a, record { rule = p.0; text_is = sym ((bytes_eq-Decides (address a) text).0 p.1) })

pub of_text : (text : List ℕ) (a : ServerAddress) → IsTextOf text a → is_address_text text ≡ true
unfolding is_address_text
of_text text a h =
    let read : address_of text ≡ Some a = ap address_of h.text_is ∙ address_again a h.rule in
    rw read (and_from (is_address a) (bytes_eq (address a) text) h.rule ((bytes_eq-Decides (address a) text).1 (sym h.text_is)))

pub text_stands : (text : List ℕ) (a : ServerAddress) → IsTextOf text a → IsAddressText text a
text_stands text a h = address_spelled a text h.rule h.text_is

-- what is read of a text is its address where it is spelled so, and nowhere else
pub text_decided : (text : List ℕ) (a : ServerAddress) → is_address a ≡ true → ((b : ServerAddress) → IsAddressText text b → a ≡ b) → bytes_eq (address a) text ≡ is_address_text text
text_decided text a rule only = elim (cases_Bool (bytes_eq (address a) text)) [
  | inl same ↦ same ∙ sym (of_text text a (record { rule = rule; text_is = sym ((bytes_eq-Decides (address a) text).0 same) }))
  | inr other ↦ other ∙ sym (not_text other)
]
  where
    not_text : bytes_eq (address a) text ≡ false → is_address_text text ≡ false
    not_text other = elim (cases_Bool (is_address_text text)) [
      | inl is ↦ absurd (
          let t = text_of text is in
          let b : a ≡ t.0 = only t.0 (text_stands text t.0 t.1) in
          let k : bytes_eq (address a) text ≡ true = (bytes_eq-Decides (address a) text).1 (ap address b ∙ sym t.1.text_is) in
          let f : true ≡ false = sym k ∙ other in cc)
      | inr none ↦ none
    ]

-- a text of which nothing is read is none
pub text_refused : (text : List ℕ) → ((b : ServerAddress) → IsAddressText text b → ⊥) → false ≡ is_address_text text
text_refused text none = elim (cases_Bool (is_address_text text)) [
  | inl is ↦ absurd (let t = text_of text is in none t.0 (text_stands text t.0 t.1))
  | inr other ↦ sym other
]

text_lacks : (c : ℕ) → ((a : ServerAddress) → is_address a ≡ true → lacks c (address a) ≡ true) → (text : List ℕ) → is_address_text text ≡ true → lacks c text ≡ true
text_lacks c lack text h = let t = text_of text h in rw (t.1.text_is) (lack t.0 t.1.rule)

pub text_no_space : (text : List ℕ) → is_address_text text ≡ true → lacks 32 text ≡ true
text_no_space = text_lacks 32 address_lacks

texts_no_comma : (texts : List (List ℕ)) → list_all is_address_text texts ≡ true → list_all (lacks 44) texts ≡ true
texts_no_comma [] h = refl
texts_no_comma (t ∷ ts) h = let p = and_parts _ _ h in and_from _ _ (text_lacks 44 address_no_comma t p.0) (texts_no_comma ts p.1)

pub words_lack-address : (o : Option (List ℕ)) → keeps is_address_text o ≡ true → IfSome o (λ w. lacks 32 w ≡ true)
words_lack-address None h = tt
words_lack-address (Some text) h = text_no_space text h

-- what the rules of hosts say
pub record HostRules (hosts : List (List ℕ)) : Type 0 where
  pub some : 0 < length hosts
  pub own : list_all is_address_text hosts ≡ true
  pub commas : list_all (lacks 44) hosts ≡ true

pub host_rules : (hosts : List (List ℕ)) → are_hosts hosts ≡ true → HostRules hosts
unfolding are_hosts
host_rules hosts h =
    let r3 = all_different hosts && list_all is_address_text hosts in
    let p = and_parts (leb 1 (length hosts)) (leb (length hosts) 128 && r3) h in
    let q = and_parts (leb (length hosts) 128) r3 p.1 in
    let r = and_parts (all_different hosts) (list_all is_address_text hosts) q.1 in
    let one : 1 ≤ length hosts = leb-true 1 (length hosts) p.0 in
    record { some = omega arith; own = r.1; commas = texts_no_comma hosts r.1 }

pub words_lack-hosts : (o : Option (List (List ℕ))) → keeps are_hosts o ≡ true → IfSome (option_map texts o) (λ w. lacks 32 w ≡ true)
words_lack-hosts None h = tt
words_lack-hosts (Some hosts) h = commas_lack (λ t. t) is_address_text text_no_space hosts (host_rules hosts h).own
