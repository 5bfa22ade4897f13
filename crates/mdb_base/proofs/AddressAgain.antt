-- What is spelled as an address is read again.
use Rattle.std.proofs.Common.{◌≡◌, ℕ, ◌<◌, ◌≤◌, ◌^◌, ◌&&◌, ◌⊎◌, not, Bool, true, false, eqb, leb, List, [], ◌∷◌, ◌++◌, length, Some, None, Result, Ok, Err, MatchResult, refl, sym, ap, ◌∙◌, arith, inl, inr, decimal, codes, eq-eqb, append-nil}
use Rattle.std.specs.List.{list_all}
use Rattle.std.specs.Str.Parse.{without_leading_plus}
use Rattle.std.proofs.lemmas.Str.Parse.{digit_at, without_leading_plus_none}
use Rattle.std.proofs.lemmas.Fmt.{decimal_is_IsNumeral}
use Rattle.std.proofs.lemmas.Bool.{eqb-true, leb-true, cases_Bool, and_parts, and_from, or_cases}
use Rattle.mdb_base.specs.declared.address.ServerAddress.{ServerAddress}
use Rattle.mdb_base.specs.Spelling.{has_colon, address}
use Rattle.mdb_base.specs.declared.address_parse.AddressError.{AddressError}
use Rattle.mdb_base.specs.declared.address_parse.AddressError.TheVariants.{BadAddress, OutOfMemory}
use Rattle.mdb_base.specs.AddressRule.{is_name_byte, is_v6_byte, is_name_host, is_v6_host, is_host, is_address, host_text, IsSpelledAddress}
use Rattle.mdb_base.specs.AddressReading.{until, beyond, after, number_of, port_of, address_from, address_of, Gives}
use Rattle.mdb_base.proofs.Words.{number_read}

-- no such byte stands in a word
abbrev pub lacks : ℕ → List ℕ → Bool
lacks c w = list_all (λ b. not (eqb b c)) w

-- what follows a word begins with such a byte, or is empty
abbrev pub IsRest : ℕ → List ℕ → Type 0
IsRest c rest = (until c rest ≡ []) × (beyond c rest ≡ rest)

pub rest_nil : (c : ℕ) → IsRest c []
unfolding until beyond
rest_nil c = (refl, refl)

pub rest_cons : (c : ℕ) (bs : List ℕ) → IsRest c (c ∷ bs)
unfolding until beyond
rest_cons c bs = rw (eq-eqb c c refl) (refl, refl)

pub word_cut : (c : ℕ) (w rest : List ℕ) → lacks c w ≡ true → IsRest c rest → (until c (w ++ rest) ≡ w) × (beyond c (w ++ rest) ≡ rest)
unfolding until beyond
word_cut c [] rest l r = r
word_cut c (b ∷ bs) rest l r =
    let p = and_parts _ _ l in
    let other : eqb b c ≡ false = not_true (eqb b c) p.0 in
    let more = word_cut c bs rest p.1 r in
    rw other (ap (λ (xs : List ℕ). b ∷ xs) more.0, more.1)
  where
    not_true : (t : Bool) → not t ≡ true → t ≡ false
    not_true true h = sym h
    not_true false h = refl

-- a test that bytes of a word pass, and that c doesn't
pub lacks_by : (test : ℕ → Bool) (c : ℕ) → test c ≡ false → (w : List ℕ) → list_all test w ≡ true → lacks c w ≡ true
lacks_by test c fails [] h = refl
lacks_by test c fails (b ∷ bs) h =
    let p = and_parts _ _ h in
    and_from _ _ (passes b p.0 (cases_Bool (eqb b c))) (lacks_by test c fails bs p.1)
  where
    passes : (b : ℕ) → test b ≡ true → (eqb b c ≡ true) ⊎ (eqb b c ≡ false) → not (eqb b c) ≡ true
    passes b t (inl same) = let e : test b ≡ test c = ap test (eqb-true b c same) in cc
    passes b t (inr other) = rw other refl

pub number_again : (k n : ℕ) → n < 2 ^ k → n < 2 ^ 64 → number_of k (decimal n) ≡ Some n
number_again k n fits lt =
    let numeral = decimal_is_IsNumeral n lt in
    let range = digit_at (decimal n) 0 numeral.0.1 numeral.0.0 in
    let plain : without_leading_plus (decimal n) ≡ decimal n = without_leading_plus_none (decimal n) (λ e. omega (arith, range.0)) in
    number_read k (decimal n) n (rw (plain, numeral.1) (numeral.0, fits)) (rw plain (sym numeral.1))

-- hosts

pub name_parts : (host : List ℕ) → is_name_host host ≡ true → (0 < length host) × (list_all is_name_byte host ≡ true)
unfolding is_name_host
name_parts host h =
    let p = and_parts (leb 1 (length host)) (leb (length host) 255 && list_all is_name_byte host) h in
    (leb-true 1 (length host) p.0, (and_parts (leb (length host) 255) (list_all is_name_byte host) p.1).1)

v6_parts : (host : List ℕ) → is_v6_host host ≡ true → (0 < length host) × (list_all is_v6_byte host ≡ true)
unfolding is_v6_host
v6_parts host h =
    let p = and_parts (leb 2 (length host)) (leb (length host) 45 && (list_all is_v6_byte host && has_colon host)) h in
    let q = and_parts (leb (length host) 45) (list_all is_v6_byte host && has_colon host) p.1 in
    let two : 2 ≤ length host = leb-true 2 (length host) p.0 in
    (omega arith, (and_parts (list_all is_v6_byte host) (has_colon host) q.1).0)

host_lacks : (c : ℕ) → is_name_byte c ≡ false → is_v6_byte c ≡ false → (host : List ℕ) → is_host host ≡ true → lacks c host ≡ true
host_lacks c name v6 host h = elim (or_cases (is_name_host host) (is_v6_host host) h) [
  | inl n ↦ lacks_by is_name_byte c name host (name_parts host n).1
  | inr v ↦ lacks_by is_v6_byte c v6 host (v6_parts host v).1
]

host_some : (host : List ℕ) → is_host host ≡ true → 0 < length host
host_some host h = elim (or_cases (is_name_host host) (is_v6_host host) h) [
  | inl n ↦ (name_parts host n).0
  | inr v ↦ (v6_parts host v).0
]

lacks_colon : (host : List ℕ) → has_colon host ≡ false → lacks 58 host ≡ true
lacks_colon [] h = refl
lacks_colon (b ∷ bs) h = elim (cases_Bool (eqb b 58)) [
  | inl same ↦ absurd (let e : true ≡ false = rw same at h in cc)
  | inr other ↦ and_from _ _ (rw other refl) (lacks_colon bs (rw other at h))
]

pub no_bracket : (host rest : List ℕ) → lacks 91 host ≡ true → 0 < length host → after (codes "[") (host ++ rest) ≡ None
unfolding after
no_bracket [] rest h some = absurd (omega arith)
no_bracket (b ∷ bs) rest h some = elim (cases_Bool (eqb b 91)) [
  | inl same ↦ absurd (let e : not true ≡ true = rw same at (and_parts (not (eqb b 91)) (lacks 91 bs) h).0 in cc)
  | inr other ↦ rw other refl
]

-- The host with what follows: nothing, or a colon and the port.

plain_again : (host rest : List ℕ) (n : ℕ) → is_host host ≡ true → has_colon host ≡ false → IsRest 58 rest → port_of rest ≡ Some n → address_of (host ++ rest) ≡ Some (record { host = host; port = n })
unfolding address_of after
plain_again host rest n h none r e =
    let word = host ++ rest in
    let p = word_cut 58 host rest (lacks_colon host none) r in
    ap (address_from word) (no_bracket host rest (host_lacks 91 refl refl host h) (host_some host h))
    ∙ rw (p.1, p.0, e) refl

bracket_again : (host rest : List ℕ) (n : ℕ) → is_host host ≡ true → port_of rest ≡ Some n → address_of (codes "[" ++ (host ++ (codes "]" ++ rest))) ≡ Some (record { host = host; port = n })
unfolding address_of after
bracket_again host rest n h e =
    let p = word_cut 93 host (codes "]" ++ rest) (host_lacks 93 refl refl host h) (rest_cons 93 rest) in
    rw (p.1, p.0, e) refl

port_again : (port : ℕ) → port < 2 ^ 16 → port_of (codes ":" ++ decimal port) ≡ Some port
unfolding port_of after
port_again port fits = let lt : port < 2 ^ 64 = omega arith in number_again 16 port fits lt

default_again : port_of [] ≡ Some 27017
unfolding port_of after
default_again = refl

address_parts : (a : ServerAddress) → is_address a ≡ true → (is_host a.host ≡ true) × (a.port < 2 ^ 16)
address_parts a h =
    let p = and_parts (is_host a.host) (leb 1 a.port && leb a.port 65535) h in
    let le : a.port ≤ 65535 = leb-true a.port 65535 (and_parts (leb 1 a.port) (leb a.port 65535) p.1).1 in
    (p.0, omega arith)

pub address_again : (a : ServerAddress) → is_address a ≡ true → address_of (address a) ≡ Some a
address_again a h =
    let parts = address_parts a h in
    let port = port_again a.port parts.1 in
    elim (cases_Bool (has_colon a.host)) [
      | inl some ↦ rw some (bracket_again a.host (codes ":" ++ decimal a.port) a.port parts.0 port)
      | inr none ↦ rw none (plain_again a.host (codes ":" ++ decimal a.port) a.port parts.0 none (rest_cons 58 (decimal a.port)) port)
    ]

-- an address is read back from its host alone, where its port is the default one
pub host_again : (a : ServerAddress) → is_address a ≡ true → a.port ≡ 27017 → address_of (host_text a.host) ≡ Some a
host_again a h e =
    let parts = address_parts a h in
    let port : port_of [] ≡ Some a.port = default_again ∙ ap Some (sym e) in
    elim (cases_Bool (has_colon a.host)) [
      | inl some ↦ rw some (bracket_again a.host [] a.port parts.0 port)
      | inr none ↦ rw none (ap address_of (sym (append-nil a.host)) ∙ plain_again a.host [] a.port parts.0 none (rest_nil 58) port)
    ]

-- what is read of a spelled address is that address
pub spelled_again : (text : List ℕ) (a : ServerAddress) (r : Result ServerAddress AddressError) → Gives r (address_of text) → IsSpelledAddress text a → MatchResult r (λ x. x ≡ a) (λ e. e ≡ OutOfMemory)
spelled_again text a r gives h = read_back r gives (found h.spelled)
  where
    found : (text ≡ address a) ⊎ ((text ≡ host_text a.host) × (a.port ≡ 27017)) → address_of text ≡ Some a
    found (inl whole) = ap address_of whole ∙ address_again a h.rule
    found (inr short) = ap address_of short.0 ∙ host_again a h.rule short.1

    read_back : (r : Result ServerAddress AddressError) → Gives r (address_of text) → address_of text ≡ Some a → MatchResult r (λ x. x ≡ a) (λ e. e ≡ OutOfMemory)
    read_back (Ok x) gives e = let both : Some x ≡ Some a = sym gives ∙ e in cc
    read_back (Err BadAddress) gives e = absurd (let both : None ≡ Some a = sym gives ∙ e in cc)
    read_back (Err OutOfMemory) gives e = refl
