-- Texts of addresses, errors, ends and events have printable bytes alone, where the messages of errors have.
use Rattle.std.proofs.Common.{◌≡◌, ℕ, zero, suc, ◌<◌, ◌≤◌, ◌^◌, ◌/◌, ◌%◌, ◌&&◌, Bool, true, leb, List, [], ◌∷◌, ◌++◌, length, get_or, Option, Some, None, IfSome, refl, arith, inl, inr, decimal, codes, flat_map, ℤ, pos, negsuc, FitsSigned}
use Rattle.std.specs.Int.{w64, IsInRange}
use Rattle.std.specs.List.{list_all}
use Rattle.std.specs.Fmt.{signed_decimal}
use Rattle.std.specs.Str.Parse.{AllDigits}
use Rattle.std.proofs.lemmas.Str.Parse.{digit_from_value}
use Rattle.std.proofs.lemmas.Fmt.{decimal_is_IsNumeral}
use Rattle.std.proofs.lemmas.Bool.Decides.{nat_tests}
use Rattle.std.proofs.lemmas.Bool.{cases_Bool, leb-true, and_parts, and_from, or_cases}
use Rattle.hex.specs.Hex.{encode_with, lower_digits}
use Rattle.mdb_base.specs.AddressRule.{is_name_byte, is_v6_byte, is_name_host, is_v6_host, is_host, is_address}
use Rattle.mdb_base.specs.ErrorText.{kind_text, labels_text, version_part, error_text}
use Rattle.mdb_base.specs.Spelling.{address, has_colon, object_id}
use Rattle.mdb_base.specs.declared.address.ServerAddress.{ServerAddress}
use Rattle.mdb_base.specs.declared.error.Error.{Error}
use Rattle.mdb_base.specs.declared.error.ErrorKind.{ErrorKind}
use Rattle.mdb_base.specs.declared.error.ErrorKind.TheVariants as kind
use Rattle.mdb_base.specs.declared.object_id.ObjectId.{ObjectId}
use Rattle.mdb_base.specs.declared.topology_version.TopologyVersion.{TopologyVersion}
use Rattle.mdb_parts.specs.ErrorParts.{is_error, IsVersionOfTypes, IsKindOfTypes, IsErrorOfTypes}
use Rattle.mdb_parts.specs.Types.{IsIdOfTypes}
use Rattle.mdb_parts.specs.WordRule.{is_word_byte, is_word}
use Rattle.mdb_event_reading.proofs.BarLemmas.{label_words}

abbrev pub prints : List ℕ → Bool
prints text = list_all (λ b. leb 32 b && leb b 126) text

all_more : (p q : ℕ → Bool) → ((b : ℕ) → p b ≡ true → q b ≡ true) → (bs : List ℕ) → list_all p bs ≡ true → list_all q bs ≡ true
all_more p q more [] h = refl
all_more p q more (b ∷ bs) h = let parts = and_parts _ _ h in and_from _ _ (more b parts.0) (all_more p q more bs parts.1)

-- texts one behind the other
pub both_print : (xs ys : List ℕ) → prints xs ≡ true → prints ys ≡ true → prints (xs ++ ys) ≡ true
both_print [] ys l m = m
both_print (x ∷ xs) ys l m = let p = and_parts _ _ l in and_from _ _ p.0 (both_print xs ys p.1 m)

-- numbers

digits_print : (ds : List ℕ) → AllDigits 10 ds → prints ds ≡ true
digits_print [] h = refl
digits_print (d ∷ ds) h = and_from (leb 32 d && leb d 126) (prints ds) (digit d (digit_from_value d h.0)) (digits_print ds h.1)
  where
    digit : (d : ℕ) → IsInRange 48 57 d → leb 32 d && leb d 126 ≡ true
    digit d range = grind (arith, nat_tests)

pub decimal_prints : (n : ℕ) → n < 2 ^ 64 → prints (decimal n) ≡ true
decimal_prints n lt = digits_print (decimal n) (decimal_is_IsNumeral n lt).0.1

pub narrow_prints : (n : ℕ) → n < 2 ^ 32 → prints (decimal n) ≡ true
narrow_prints n lt = decimal_prints n (omega arith)

pub signed_prints : (z : ℤ) → FitsSigned w64 z → prints (signed_decimal z) ≡ true
signed_prints (pos n) fits = decimal_prints n (omega (arith, fits))
signed_prints (negsuc n) fits = decimal_prints (suc n) (omega (arith, fits))

-- words, addresses and ids

pub word_prints : (word : List ℕ) → is_word word ≡ true → prints word ≡ true
unfolding is_word
word_prints word h =
    let p = and_parts (leb 1 (length word)) (leb (length word) 64 && list_all is_word_byte word) h in
    all_more is_word_byte (λ b. leb 32 b && leb b 126) byte word (and_parts (leb (length word) 64) (list_all is_word_byte word) p.1).1
  where
    byte : (b : ℕ) → is_word_byte b ≡ true → leb 32 b && leb b 126 ≡ true
    byte b h = grind (arith, nat_tests)

host_prints : (host : List ℕ) → is_host host ≡ true → prints host ≡ true
unfolding is_name_host is_v6_host
host_prints host h = elim (or_cases (is_name_host host) (is_v6_host host) h) [
  | inl n ↦ (let p = and_parts (leb 1 (length host)) (leb (length host) 255 && list_all is_name_byte host) n in
      all_more is_name_byte (λ b. leb 32 b && leb b 126) name_byte host (and_parts (leb (length host) 255) (list_all is_name_byte host) p.1).1)
  | inr v ↦ (let p = and_parts (leb 2 (length host)) (leb (length host) 45 && (list_all is_v6_byte host && has_colon host)) v in
      let q = and_parts (leb (length host) 45) (list_all is_v6_byte host && has_colon host) p.1 in
      all_more is_v6_byte (λ b. leb 32 b && leb b 126) v6_byte host (and_parts (list_all is_v6_byte host) (has_colon host) q.1).0)
]
  where
    name_byte : (b : ℕ) → is_name_byte b ≡ true → leb 32 b && leb b 126 ≡ true
    name_byte b h = grind (arith, nat_tests)

    v6_byte : (b : ℕ) → is_v6_byte b ≡ true → leb 32 b && leb b 126 ≡ true
    v6_byte b h = grind (arith, nat_tests)

pub address_prints : (a : ServerAddress) → is_address a ≡ true → prints (address a) ≡ true
address_prints a h =
    let p = and_parts (is_host a.host) (leb 1 a.port && leb a.port 65535) h in
    let le : a.port ≤ 65535 = leb-true a.port 65535 (and_parts (leb 1 a.port) (leb a.port 65535) p.1).1 in
    let host = host_prints a.host p.0 in
    let port = decimal_prints a.port (omega arith) in
    elim (cases_Bool (has_colon a.host)) [
      | inl some ↦ rw some (both_print a.host (codes "]:" ++ decimal a.port) host port)
      | inr none ↦ rw none (both_print a.host (codes ":" ++ decimal a.port) host port)
    ]

digit_of : (t : List ℕ) → prints t ≡ true → (k : ℕ) → k < length t → leb 32 (get_or t k 0) && leb (get_or t k 0) 126 ≡ true
digit_of [] h k lt = absurd (omega arith)
digit_of (b ∷ bs) h zero lt = (and_parts _ _ h).0
digit_of (b ∷ bs) h (suc k) lt = digit_of bs (and_parts _ _ h).1 k (omega arith)

hex_prints : (bs : List ℕ) → ((i : ℕ) → get_or bs i 0 < 256) → prints (encode_with lower_digits bs) ≡ true
unfolding encode_with
hex_prints [] h = refl
hex_prints (b ∷ bs) h =
    let fits : b < 256 = h 0 in
    let high : b / 16 < 16 = omega arith in
    let low : b % 16 < 16 = omega arith in
    and_from _ _ (digit_of lower_digits refl (b / 16) high) (and_from _ _ (digit_of lower_digits refl (b % 16) low) (hex_prints bs (λ k. h (suc k))))

pub id_prints : (id : ObjectId) → IsIdOfTypes id → prints (object_id id) ≡ true
id_prints id h = hex_prints id.0 h.1

-- errors

kind_prints : (k : ErrorKind) → IsKindOfTypes k → prints (kind_text k) ≡ true
kind_prints kind.Network types = refl
kind_prints kind.NetworkTimeout types = refl
kind_prints kind.Auth types = refl
kind_prints kind.IncompatibleServer types = refl
kind_prints (kind.Command code) types = let small = types.sfits in signed_prints code (record { sfits = omega (arith, small) })
kind_prints kind.Other types = refl

more_labels : (labels : List (List ℕ)) → list_all is_word labels ≡ true → prints (flat_map (λ l. codes "," ++ l) labels) ≡ true
more_labels [] h = refl
more_labels (label ∷ labels) h =
    let p = and_parts (is_word label) (list_all is_word labels) h in
    both_print label (flat_map (λ l. codes "," ++ l) labels) (word_prints label p.0) (more_labels labels p.1)

labels_print : (labels : List (List ℕ)) → list_all is_word labels ≡ true → prints (labels_text labels) ≡ true
labels_print [] h = refl
labels_print (label ∷ labels) h =
    let p = and_parts (is_word label) (list_all is_word labels) h in
    both_print label (flat_map (λ l. codes "," ++ l) labels) (word_prints label p.0) (more_labels labels p.1)

version_prints : (o : Option TopologyVersion) → IfSome o IsVersionOfTypes → prints (version_part o) ≡ true
version_prints None types = refl
version_prints (Some v) types =
    both_print (object_id v.process_id) (codes "." ++ signed_decimal v.counter) (id_prints v.process_id types.process) (signed_prints v.counter types.counter)

pub error_prints : (e : Error) → IsErrorOfTypes e → is_error e ≡ true → prints e.message ≡ true → prints (error_text e) ≡ true
error_prints e types h own =
    let message = codes " msg=" ++ e.message in
    let version = version_part e.topology_version ++ message in
    both_print (kind_text e.kind) (labels_text e.labels ++ version) (kind_prints e.kind types.own)
    (both_print (labels_text e.labels) version (labels_print e.labels (label_words e h))
    (both_print (version_part e.topology_version) message (version_prints e.topology_version types.version) own))
