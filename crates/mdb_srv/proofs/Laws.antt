-- Laws of the hosts that are accepted.
use Rattle.std.proofs.Common.{◌≡◌, ℕ, ◌<◌, length, arith, List, [], ◌∷◌, not, filter, find, Option, Some, None, Bool, true, false, Ok, refl, sym, ap, ◌∙◌}
use Rattle.mdb_base.specs.declared.address.ServerAddress.{ServerAddress}
use Rattle.mdb_srv.specs.declared.hosts.DomainMismatch.{DomainMismatch}
use Rattle.mdb_srv.specs.declared.hosts.DomainMismatch.TheVariants.{Error, Skip}
use Rattle.mdb_srv.specs.Hosts.{matches, valid_hosts, no_stranger, some_hosts}

-- where no element fails a test, filtering by it keeps all
none_fails : {X : Type 0} (q : X → Bool) (xs : List X) → find (λ x. not (q x)) xs ≡ None → filter q xs ≡ xs
none_fails q [] none = refl
none_fails q (x ∷ xs) none = one_kept (q x) refl (none_fails q xs) none
  where
    one_kept : (b : Bool) → q x ≡ b → (find (λ y. not (q y)) xs ≡ None → filter q xs ≡ xs) → find (λ y. not (q y)) (x ∷ xs) ≡ None → filter q (x ∷ xs) ≡ x ∷ xs
    one_kept true is others none = rw is (ap (λ ys. x ∷ ys) (others (rw is at none)))
    one_kept false is others none = absurd (cc (rw is at none))

-- these hosts are accepted just as they are
some_are : (original : List ℕ) (hosts kept : List ServerAddress) → some_hosts original hosts ≡ Ok kept → kept ≡ hosts
some_are original [] kept e = absurd (cc e)
some_are original (host ∷ more) kept e = cc e

-- what is accepted is what is in the domain
accepted_are : (original : List ℕ) (dm : DomainMismatch) (hosts kept : List ServerAddress) → valid_hosts original dm hosts ≡ Ok kept
    → kept ≡ filter (matches original) hosts
accepted_are original Skip hosts kept e = some_are original (filter (matches original) hosts) kept e
accepted_are original Error hosts kept e = strictly (find (λ host. not (matches original host)) hosts) refl e
  where
    strictly : (stranger : Option ServerAddress) → find (λ host. not (matches original host)) hosts ≡ stranger
        → no_stranger original hosts stranger ≡ Ok kept → kept ≡ filter (matches original) hosts
    strictly None none is = some_are original hosts kept is ∙ sym (none_fails (matches original) hosts none)
    strictly (Some stranger) some is = absurd (cc is)

-- where some hosts are left, they are those that match the asked one
pub kept_are : (original : List ℕ) (dm : DomainMismatch) (hosts kept : List ServerAddress) → valid_hosts original dm hosts ≡ some_hosts original kept
    → 0 < length kept → kept ≡ filter (matches original) hosts
kept_are original dm hosts [] e some = absurd (omega (arith, some))
kept_are original dm hosts (host ∷ more) e some = accepted_are original dm hosts (host ∷ more) e
