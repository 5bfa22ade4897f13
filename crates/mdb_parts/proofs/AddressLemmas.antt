-- Addresses and ids: the bytes that their spelling lacks, and what stands where in it.
use Rattle.std.proofs.Common.{◌≡◌, ℕ, zero, suc, ◌<◌, ◌≤◌, ◌^◌, ◌&&◌, not, Bool, true, eqb, leb, List, [], ◌∷◌, ◌++◌, length, get_or, map, Some, refl, ap, arith, inl, inr, decimal, codes}
use Rattle.std.specs.List.{list_all}
use Rattle.std.specs.Char.{to_ascii_lowercase}
use Rattle.std.specs.Int.{IsInRange}
use Rattle.std.specs.Str.Parse.{AllDigits}
use Rattle.std.proofs.lemmas.Str.Parse.{digit_from_value}
use Rattle.std.proofs.lemmas.Fmt.{decimal_is_IsNumeral}
use Rattle.std.proofs.lemmas.Bool.Decides.{nat_tests}
use Rattle.std.proofs.lemmas.Bool.{eqb-true, ne_eqb, cases_Bool, leb-true, and_parts, and_from, or_cases}
use Rattle.hex.specs.Hex.{encode_with, lower_digits}
use Rattle.hex.proofs.HexLemmas.{decode_sized-encode_lower}
use Rattle.mdb_base.specs.declared.object_id.ObjectId.{ObjectId}
use Rattle.mdb_base.specs.declared.address.ServerAddress.{ServerAddress}
use Rattle.mdb_base.specs.Spelling.{address, has_colon, object_id, id_of, id_of_bytes}
use Rattle.mdb_base.specs.AddressRule.{is_name_byte, is_v6_byte, is_name_host, is_v6_host, is_host, is_address, IsAddressText}
use Rattle.mdb_parts.specs.Parts.{addresses}
use Rattle.mdb_parts.specs.Types.{IsIdOfTypes}
use Rattle.mdb_parts.specs.Reading.{lacks}
use Rattle.mdb_parts.proofs.CommaLemmas.{commas_lack}

list_all_more : (p q : ℕ → Bool) → ((b : ℕ) → p b ≡ true → q b ≡ true) → (bs : List ℕ) → list_all p bs ≡ true → list_all q bs ≡ true
list_all_more p q more [] h = refl
list_all_more p q more (b ∷ bs) h = let parts = and_parts _ _ h in and_from _ _ (more b parts.0) (list_all_more p q more bs parts.1)

-- a test that both kinds of bytes of hosts pass
host_passes : (q : ℕ → Bool) → ((b : ℕ) → is_name_byte b ≡ true → q b ≡ true) → ((b : ℕ) → is_v6_byte b ≡ true → q b ≡ true) → (host : List ℕ) → is_host host ≡ true → list_all q host ≡ true
unfolding is_name_host is_v6_host
host_passes q name v6 host h = elim (or_cases (is_name_host host) (is_v6_host host) h) [
  | inl n ↦ (let p = and_parts (leb 1 (length host)) (leb (length host) 255 && list_all is_name_byte host) n in
      list_all_more is_name_byte q name host (and_parts (leb (length host) 255) (list_all is_name_byte host) p.1).1)
  | inr v ↦ (let p = and_parts (leb 2 (length host)) (leb (length host) 45 && (list_all is_v6_byte host && has_colon host)) v in
      let r = and_parts (leb (length host) 45) (list_all is_v6_byte host && has_colon host) p.1 in
      list_all_more is_v6_byte q v6 host (and_parts (list_all is_v6_byte host) (has_colon host) r.1).0)
]

-- neither a space, nor a comma, nor a letter in upper case
abbrev pub is_plain : ℕ → Bool
is_plain b = not (eqb b 32) && (not (eqb b 44) && eqb (to_ascii_lowercase b) b)

name_plain : (b : ℕ) → is_name_byte b ≡ true → is_plain b ≡ true
name_plain b h = grind (arith, nat_tests)

v6_plain : (b : ℕ) → is_v6_byte b ≡ true → is_plain b ≡ true
v6_plain b h = grind (arith, nat_tests)

all_append : (q : ℕ → Bool) (xs ys : List ℕ) → list_all q xs ≡ true → list_all q ys ≡ true → list_all q (xs ++ ys) ≡ true
all_append q [] ys l m = m
all_append q (x ∷ xs) ys l m = let p = and_parts _ _ l in and_from _ _ p.0 (all_append q xs ys p.1 m)

digits_plain : (ds : List ℕ) → AllDigits 10 ds → list_all is_plain ds ≡ true
digits_plain [] h = refl
digits_plain (d ∷ ds) h = and_from (is_plain d) (list_all is_plain ds) (digit_plain d (digit_from_value d h.0)) (digits_plain ds h.1)
  where
    digit_plain : (d : ℕ) → IsInRange 48 57 d → is_plain d ≡ true
    digit_plain d range = grind (arith, nat_tests)

-- the spelling of an address has plain bytes alone
pub address_passes : (a : ServerAddress) → is_address a ≡ true → list_all is_plain (address a) ≡ true
address_passes a h =
    let p = and_parts (is_host a.host) (leb 1 a.port && leb a.port 65535) h in
    let le : a.port ≤ 65535 = leb-true a.port 65535 (and_parts (leb 1 a.port) (leb a.port 65535) p.1).1 in
    let lt : a.port < 2 ^ 64 = omega arith in
    let host = host_passes is_plain name_plain v6_plain a.host p.0 in
    let port = digits_plain (decimal a.port) (decimal_is_IsNumeral a.port lt).0.1 in
    elim (cases_Bool (has_colon a.host)) [
      | inl some ↦ rw some (all_append is_plain a.host (codes "]:" ++ decimal a.port) host port)
      | inr none ↦ rw none (all_append is_plain a.host (codes ":" ++ decimal a.port) host port)
    ]

lowered : (bs : List ℕ) → list_all is_plain bs ≡ true → map to_ascii_lowercase bs ≡ bs
lowered [] h = refl
lowered (b ∷ bs) h =
    let p = and_parts (is_plain b) (list_all is_plain bs) h in
    let q = and_parts (not (eqb b 44)) (eqb (to_ascii_lowercase b) b) (and_parts (not (eqb b 32)) (not (eqb b 44) && eqb (to_ascii_lowercase b) b) p.0).1 in
    let same : to_ascii_lowercase b ≡ b = eqb-true (to_ascii_lowercase b) b q.1 in
    let more = lowered bs p.1 in
    rw (same, more) refl

pub address_lacks : (a : ServerAddress) → is_address a ≡ true → lacks 32 (address a) ≡ true
address_lacks a h = list_all_more is_plain (λ b. not (eqb b 32)) (λ b p. (and_parts (not (eqb b 32)) (not (eqb b 44) && eqb (to_ascii_lowercase b) b) p).0) (address a) (address_passes a h)

pub address_spelled : (a : ServerAddress) (word : List ℕ) → is_address a ≡ true → word ≡ address a → IsAddressText word a
address_spelled a word h e = record { rule = h; spelled = inl (rw e (lowered (address a) (address_passes a h))) }

-- an address has no comma
pub address_no_comma : (a : ServerAddress) → is_address a ≡ true → lacks 44 (address a) ≡ true
address_no_comma a h =
    list_all_more is_plain (λ b. not (eqb b 44)) (λ b p. (and_parts (not (eqb b 44)) (eqb (to_ascii_lowercase b) b) (and_parts (not (eqb b 32)) (not (eqb b 44) && eqb (to_ascii_lowercase b) b) p).1).0) (address a) (address_passes a h)

pub addresses_lack : (seeds : List ServerAddress) → list_all is_address seeds ≡ true → lacks 32 (addresses seeds) ≡ true
addresses_lack = commas_lack address is_address address_lacks

-- ids

table_lacks : (c : ℕ) (t : List ℕ) → lacks c t ≡ true → 0 < c → (i : ℕ) → not (eqb (get_or t i 0) c) ≡ true
table_lacks c [] h some i = rw (ne_eqb 0 c (λ e. omega arith)) refl
table_lacks c (b ∷ bs) h some zero = (and_parts _ _ h).0
table_lacks c (b ∷ bs) h some (suc i) = table_lacks c bs (and_parts _ _ h).1 some i

hex_lacks : (c : ℕ) (t xs : List ℕ) → lacks c t ≡ true → 0 < c → lacks c (encode_with t xs) ≡ true
unfolding encode_with
hex_lacks c t [] h some = refl
hex_lacks c t (b ∷ bs) h some = and_from _ _ (table_lacks c t h some _) (and_from _ _ (table_lacks c t h some _) (hex_lacks c t bs h some))

pub id_lacks_byte : (c : ℕ) → lacks c lower_digits ≡ true → 0 < c → (id : ObjectId) → lacks c (object_id id) ≡ true
id_lacks_byte c table some id = hex_lacks c lower_digits id.0 table some

pub id_lacks : (id : ObjectId) → lacks 32 (object_id id) ≡ true
id_lacks id = hex_lacks 32 lower_digits id.0 refl (omega arith)

pub id_again : (id : ObjectId) (word : List ℕ) → IsIdOfTypes id → word ≡ object_id id → id_of word ≡ Some id
id_again id word h e = rw e (ap id_of_bytes (decode_sized-encode_lower id.0 12 h.0 h.1))
