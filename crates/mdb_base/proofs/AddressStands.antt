-- The address that a text stands for.
use Rattle.std.proofs.Common.{◌≡◌, ℕ, ◌≤◌, ◌&&◌, ◌||◌, ◌⊎◌, not, Bool, true, false, eqb, leb, List, [], ◌∷◌, ◌++◌, length, refl, sym, ap, ◌∙◌, arith, inl, inr, decimal, codes, append-nil, if◌then◌else◌, Result, Ok, Err, IfOk, IfErr, MatchResult}
use Rattle.std.specs.List.{list_all}
use Rattle.std.specs.Char.{to_ascii_lowercase}
use Rattle.std.proofs.lemmas.List.{map-append}
use Rattle.std.proofs.lemmas.Bool.{leb-true, le-leb, cases_Bool, and_parts, and_from, or_cases}
use Rattle.mdb_base.specs.declared.address.ServerAddress.{ServerAddress}
use Rattle.mdb_base.specs.declared.address_parse.AddressError.{AddressError}
use Rattle.mdb_base.specs.declared.address_parse.AddressError.TheVariants.{OutOfMemory}
use Rattle.mdb_base.specs.Spelling.{has_colon, address}
use Rattle.mdb_base.specs.AddressRule.{is_name_byte, is_v6_byte, is_name_host, is_v6_host, is_host, is_address, host_text, IsAddressText}
use Rattle.mdb_base.specs.AddressText.{lowered, IsPort, EndsAs, IsPlain, IsBracketed, IsWritten}
use Rattle.mdb_base.proofs.AddressAgain.{lacks, lacks_by, name_parts}
use Rattle.mdb_base.proofs.AddressText.{low}
use Rattle.mdb_base.proofs.AddressCase.{raise_one, split_low, low_end, raise_end, end_port}

-- hosts

has_no_colon : (host : List ℕ) → lacks 58 host ≡ true → has_colon host ≡ false
has_no_colon [] h = refl
has_no_colon (b ∷ bs) h = let p = and_parts _ _ h in rw (not_true (eqb b 58) p.0, has_no_colon bs p.1) refl
  where
    not_true : (t : Bool) → not t ≡ true → t ≡ false
    not_true true h = sym h
    not_true false h = refl

name_colon : (host : List ℕ) → is_name_host host ≡ true → has_colon host ≡ false
name_colon host h = has_no_colon host (lacks_by is_name_byte 58 refl host (name_parts host h).1)

v6_colon : (host : List ℕ) → is_v6_host host ≡ true → has_colon host ≡ true
unfolding is_v6_host
v6_colon host h =
    let p = and_parts (leb 2 (length host)) (leb (length host) 45 && (list_all is_v6_byte host && has_colon host)) h in
    let q = and_parts (leb (length host) 45) (list_all is_v6_byte host && has_colon host) p.1 in
    (and_parts (list_all is_v6_byte host) (has_colon host) q.1).1

or_right : (p q : Bool) → q ≡ true → (p || q) ≡ true
or_right true q h = refl
or_right false q h = h

regular : (host : List ℕ) (p : ℕ) → is_host host ≡ true → (1 ≤ p) × (p ≤ 65535) → is_address (record { host = host; port = p }) ≡ true
regular host p h range = and_from _ _ h (and_from _ _ (le-leb 1 p range.0) (le-leb p 65535 range.1))

bracketed_name : (host : List ℕ) → is_host host ≡ true → has_colon host ≡ true → is_v6_host host ≡ true
bracketed_name host h some = elim (or_cases (is_name_host host) (is_v6_host host) h) [
  | inl name ↦ absurd (let bad : true ≡ false = sym some ∙ name_colon host name in cc)
  | inr v6 ↦ v6
]

plain_name : (host : List ℕ) → is_host host ≡ true → has_colon host ≡ false → is_name_host host ≡ true
plain_name host h none = elim (or_cases (is_name_host host) (is_v6_host host) h) [
  | inl name ↦ name
  | inr v6 ↦ absurd (let bad : true ≡ false = sym (v6_colon host v6) ∙ none in cc)
]

-- what is written is an address

plain_stands : (text h : List ℕ) (p : ℕ) → IsPlain text h p → IsAddressText text (lowered h p)
plain_stands text h p w = record { rule = regular (low h) p (rw w.name refl) (end_port w.rest p w.ends); spelled = by w.ends }
  where
    whole : low text ≡ low h ++ w.rest
    whole = ap low w.parts ∙ map-append to_ascii_lowercase h w.rest ∙ ap (λ (xs : List ℕ). low h ++ xs) (low_end w.rest p w.ends)

    by : EndsAs w.rest p → (low text ≡ address (lowered h p)) ⊎ ((low text ≡ host_text (low h)) × (p ≡ 27017))
    by (inl (ds, e, i)) = inl (rw (name_colon (low h) w.name) (whole ∙ ap (λ (xs : List ℕ). low h ++ xs) (e ∙ ap (λ (xs : List ℕ). codes ":" ++ xs) i.digits)))
    by (inr (e, d)) = inr (rw (name_colon (low h) w.name) (whole ∙ ap (λ (xs : List ℕ). low h ++ xs) e ∙ append-nil (low h)), d)

bracketed_stands : (text inner h : List ℕ) (p : ℕ) → text ≡ codes "[" ++ inner → IsBracketed inner h p → IsAddressText text (lowered h p)
bracketed_stands text inner h p before w = record { rule = regular (low h) p (or_right (is_name_host (low h)) (is_v6_host (low h)) w.name) (end_port w.ends.0 p w.ends.2); spelled = by w.ends.2 }
  where
    rest : List ℕ
    rest = w.ends.0

    behind : low inner ≡ low h ++ (codes "]" ++ rest)
    behind = ap low w.parts ∙ map-append to_ascii_lowercase h w.rest ∙ ap (λ (xs : List ℕ). low h ++ xs) (ap low w.ends.1 ∙ ap (λ (xs : List ℕ). codes "]" ++ xs) (low_end rest p w.ends.2))

    whole : low text ≡ codes "[" ++ (low h ++ (codes "]" ++ rest))
    whole = ap low before ∙ ap (λ (xs : List ℕ). codes "[" ++ xs) behind

    by : EndsAs rest p → (low text ≡ address (lowered h p)) ⊎ ((low text ≡ host_text (low h)) × (p ≡ 27017))
    by (inl (ds, e, i)) = inl (rw (v6_colon (low h) w.name) (whole ∙ ap (λ (xs : List ℕ). codes "[" ++ (low h ++ (codes "]" ++ xs))) (e ∙ ap (λ (xs : List ℕ). codes ":" ++ xs) i.digits)))
    by (inr (e, d)) = inr (rw (v6_colon (low h) w.name) (whole ∙ ap (λ (xs : List ℕ). codes "[" ++ (low h ++ (codes "]" ++ xs))) e), d)

pub stands : (text h : List ℕ) (p : ℕ) → IsWritten text h p → IsAddressText text (lowered h p)
stands text h p (inl w) = plain_stands text h p w
stands text h p (inr (inner, before, w)) = bracketed_stands text inner h p before w

-- an address is written

-- the host, in brackets where it has a colon, and the end
abbrev pub host_and : List ℕ → List ℕ → List ℕ
host_and host rest = if has_colon host then codes "[" ++ (host ++ (codes "]" ++ rest)) else host ++ rest

abbrev pub WrittenAs : List ℕ → ServerAddress → Type 0
WrittenAs text a = (h : List ℕ) × IsWritten text h a.port × (low h ≡ a.host)

plain_written : (text : List ℕ) (a : ServerAddress) (rest : List ℕ) → is_name_host a.host ≡ true → EndsAs rest a.port → low text ≡ a.host ++ rest → WrittenAs text a
plain_written text a rest name ends place =
    let s = split_low text a.host rest place in
    (s.0, inl (record { rest = s.1; parts = s.2; name = rw s.3 name; ends = rw (raise_end s.1 rest a.port s.4 ends) ends }), s.3)

bracketed_written : (text : List ℕ) (a : ServerAddress) (rest : List ℕ) → is_v6_host a.host ≡ true → EndsAs rest a.port → low text ≡ codes "[" ++ (a.host ++ (codes "]" ++ rest)) → WrittenAs text a
bracketed_written text a rest name ends place =
    let s = split_low text (codes "[") (a.host ++ (codes "]" ++ rest)) place in
    let t = split_low s.1 a.host (codes "]" ++ rest) s.4 in
    let q = split_low t.1 (codes "]") rest t.4 in
    let before : text ≡ codes "[" ++ s.1 = s.2 ∙ ap (λ (xs : List ℕ). xs ++ s.1) (raise_one s.0 91 s.3 (omega arith)) in
    let close : t.1 ≡ codes "]" ++ q.1 = q.2 ∙ ap (λ (xs : List ℕ). xs ++ q.1) (raise_one q.0 93 q.3 (omega arith)) in
    let last : EndsAs q.1 a.port = rw (raise_end q.1 rest a.port q.4 ends) ends in
    (t.0, inr (s.1, before, record { rest = t.1; parts = t.2; name = rw t.3 name; ends = (q.1, close, last) }), t.3)

written_from : (text : List ℕ) (a : ServerAddress) (rest : List ℕ) → is_host a.host ≡ true → EndsAs rest a.port → low text ≡ host_and a.host rest → WrittenAs text a
written_from text a rest host ends place = elim (cases_Bool (has_colon a.host)) [
  | inl some ↦ bracketed_written text a rest (bracketed_name a.host host some) ends (rw some at place)
  | inr none ↦ plain_written text a rest (plain_name a.host host none) ends (rw none at place)
]

short_text : (host : List ℕ) → host_text host ≡ host_and host []
short_text host = elim (cases_Bool (has_colon host)) [
  | inl some ↦ rw some refl
  | inr none ↦ rw none (sym (append-nil host))
]

long_text : (a : ServerAddress) → address a ≡ host_and a.host (codes ":" ++ decimal a.port)
long_text a = elim (cases_Bool (has_colon a.host)) [
  | inl some ↦ rw some refl
  | inr none ↦ rw none refl
]

pub written : (text : List ℕ) (a : ServerAddress) → IsAddressText text a → WrittenAs text a
written text a h = by h.spelled
  where
    parts : (is_host a.host ≡ true) × ((leb 1 a.port && leb a.port 65535) ≡ true)
    parts = and_parts (is_host a.host) (leb 1 a.port && leb a.port 65535) h.rule

    port : IsPort (decimal a.port) a.port
    port = let r = and_parts (leb 1 a.port) (leb a.port 65535) parts.1 in record { least = leb-true 1 a.port r.0; most = leb-true a.port 65535 r.1; digits = refl }

    by : (low text ≡ address a) ⊎ ((low text ≡ host_text a.host) × (a.port ≡ 27017)) → WrittenAs text a
    by (inl e) = written_from text a (codes ":" ++ decimal a.port) parts.0 (inl (decimal a.port, refl, port)) (e ∙ long_text a)
    by (inr (e, d)) = written_from text a [] parts.0 (inr (refl, d)) (e ∙ short_text a.host)

-- what a call gives that makes the address

pub found_as : (text : List ℕ) (x : ServerAddress) (r : Result ServerAddress AddressError) → IsAddressText text x → MatchResult r (λ a. a ≡ x) (λ e. e ≡ OutOfMemory) → IfOk r (λ a. IsAddressText text a)
found_as text x (Ok a) h e = rw e h
found_as text x (Err e) h f = tt

pub memory_as : (text : List ℕ) (x : ServerAddress) (r : Result ServerAddress AddressError) → IsAddressText text x → IfErr r (λ e. e ≡ OutOfMemory → (a : ServerAddress) × IsAddressText text a)
memory_as text x (Ok a) h = tt
memory_as text x (Err e) h = λ _. (x, h)

pub only_as : (x a : ServerAddress) (r : Result ServerAddress AddressError) → x ≡ a → MatchResult r (λ b. b ≡ x) (λ e. e ≡ OutOfMemory) → MatchResult r (λ b. b ≡ a) (λ e. e ≡ OutOfMemory)
only_as x a (Ok b) same e = e ∙ same
only_as x a (Err e) same f = f
