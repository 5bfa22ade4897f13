-- Which of the found hosts are accepted.
use Rattle.std.proofs.Common.{◌≡◌, ℕ, ◌<◌, ◌+◌, Bool, true, false, List, ◌∷◌, length, get_or, drop, not, find, Some, None, Result, Err, refl, sym, ◌∙◌, ap}
use Rattle.std.specs.List.{join_with_byte}
use Rattle.std.proofs.lemmas.List.{drop_more}
use Rattle.std.proofs.lemmas.List.Splits.{join_with_byte-slice_split}
use Rattle.mdb_base.specs.declared.address.ServerAddress.{ServerAddress}
use Rattle.mdb_srv.specs.declared.error.SrvError.{SrvError}
use Rattle.mdb_srv.specs.declared.error.SrvError.TheVariants.{DnsResolve, ResolverFault, OutOfMemory}
use Rattle.mdb_srv.specs.declared.hosts.DomainMismatch.TheVariants.{Error}
use Rattle.mdb_srv.specs.Hosts.{labels, domain, is_within, valid_hosts, no_stranger, some_hosts}
use Rattle.mdb_srv.specs.Answers.{Says, Refuses}
use Rattle.mdb_srv.specs.Refusals.{mismatch}

-- an answer that says the text of the definition's refusal
pub refuses : {T : Type 0} (defined : Result T (List ℕ)) (text : List ℕ) (e : SrvError) → Says text e → defined ≡ Err text → Refuses defined e
refuses defined text (DnsResolve said) says is = rw says is
refuses defined text ResolverFault says is = says
refuses defined text OutOfMemory says is = says

-- no host is a stranger
pub none_strange : (original : List ℕ) (last : List (List ℕ)) (found : List ServerAddress) → last ≡ domain original
    → find (λ host. not (is_within last host)) found ≡ None → valid_hosts original Error found ≡ some_hosts original found
none_strange original last found e none = ap (no_stranger original found) (ap (λ list. find (λ host. not (is_within list host)) found) (sym e) ∙ none)

-- this host is a stranger
pub one_strange : (original named : List ℕ) (last : List (List ℕ)) (found : List ServerAddress) (stranger : ServerAddress)
    → last ≡ domain original → labels named ≡ domain original → find (λ host. not (is_within last host)) found ≡ Some stranger
    → valid_hosts original Error found ≡ Err (mismatch original stranger.host named)
one_strange original named last found stranger e same some =
    let joined : join_with_byte 46 (domain original) ≡ named = ap (join_with_byte 46) (sym same) ∙ join_with_byte-slice_split 46 named in
    ap (no_stranger original found) (ap (λ list. find (λ host. not (is_within list host)) found) (sym e) ∙ some)
    ∙ ap (λ text. Err (mismatch original stranger.host text)) joined

-- the search for what fails a test stops here
pub stops_at : {X : Type 0} (q : X → Bool) (xs : List X) (i : ℕ) (x : X) → i < length xs → x ≡ get_or xs i x
    → find (λ y. not (q y)) xs ≡ find (λ y. not (q y)) (drop i xs) → q x ≡ false → find (λ y. not (q y)) xs ≡ Some x
stops_at q xs i x within is from fails =
    let next : drop i xs ≡ x ∷ drop (i + 1) xs = drop_more xs i x within ∙ ap (λ y. y ∷ drop (i + 1) xs) (sym is) in
    from ∙ ap (find (λ y. not (q y))) next ∙ rw fails refl

-- the search for what fails a test goes on
pub goes_past : {X : Type 0} (q : X → Bool) (xs : List X) (i : ℕ) (x : X) → i < length xs → x ≡ get_or xs i x
    → find (λ y. not (q y)) xs ≡ find (λ y. not (q y)) (drop i xs) → q x ≡ true
    → find (λ y. not (q y)) xs ≡ find (λ y. not (q y)) (drop (i + 1) xs)
goes_past q xs i x within is from passes =
    let next : drop i xs ≡ x ∷ drop (i + 1) xs = drop_more xs i x within ∙ ap (λ y. y ∷ drop (i + 1) xs) (sym is) in
    from ∙ ap (find (λ y. not (q y))) next ∙ rw passes refl
