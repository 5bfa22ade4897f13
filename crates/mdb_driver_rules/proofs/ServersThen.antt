-- The servers that are known after those that went and those that came.
use Rattle.std.proofs.Common.{◌≡◌, ◌&&◌, ◌||◌, Bool, true, false, not, List, [], ◌∷◌, refl, sym, ◌∙◌, ap, if◌then◌else◌, Some, None}
use Rattle.mdb_base.specs.Equality.{same_address}
use Rattle.mdb_base.specs.declared.address.ServerAddress.{ServerAddress}
use Rattle.mdb_describe.specs.declared.description.ServerDescription.{ServerDescription}
use Rattle.mdb_describe.specs.Differences.{missing, unless_empty, is_empty}
use Rattle.mdb_describe.specs.Servers.{is_known, is_listed}
use Rattle.mdb_describe.proofs.Addresses.{same-address}
use Rattle.mdb_describe.specs.declared.diff.Diff.{Diff}

-- what differs is the changed, the removed and the added servers
pub of-difference : (x d : Diff) → unless_empty x ≡ Some d → x ≡ d
of-difference x d e = on (is_empty x.changed && (is_empty x.removed && is_empty x.added)) e
  where
    on : (b : Bool) → (if b then None else Some x) ≡ Some d → x ≡ d
    on true e = cc
    on false e = cc

-- the missing servers are those that are known in one list and not in the other
pub listed-missing : (a : ServerAddress) (others servers : List ServerDescription) → is_listed (missing servers others) a ≡ is_known a servers && not (is_known a others)
listed-missing a others [] = refl
listed-missing a others (s ∷ servers) = on (is_known s.address others) (same_address s.address a) refl refl (listed-missing a others servers)
  where
    on : (b c : Bool) → is_known s.address others ≡ b → same_address s.address a ≡ c → is_listed (missing servers others) a ≡ is_known a servers && not (is_known a others)
        → is_listed (missing (s ∷ servers) others) a ≡ is_known a (s ∷ servers) && not (is_known a others)
    on true true f g deeper =
        let w : is_known a others ≡ true = ap (λ x. is_known x others) (sym (same-address s.address a g)) ∙ f in
        rw (f, g, deeper, w) (none (is_known a servers))
      where
        none : (b : Bool) → b && false ≡ false
        none true = refl
        none false = refl
    on true false f g deeper = rw (f, g) deeper
    on false true f g deeper =
        let w : is_known a others ≡ false = ap (λ x. is_known x others) (sym (same-address s.address a g)) ∙ f in
        rw (f, g, w) refl
    on false false f g deeper = rw (f, g) deeper

-- known before and did not go, or came: that is known now
pub known-now : (a : ServerAddress) (earlier later : List ServerDescription) → (is_known a earlier && not (is_listed (missing earlier later) a)) || is_listed (missing later earlier) a ≡ is_known a later
known-now a earlier later = rw (listed-missing a later earlier, listed-missing a earlier later) (on (is_known a earlier) (is_known a later))
  where
    on : (b c : Bool) → (b && not (b && not c)) || (c && not b) ≡ c
    on true true = refl
    on true false = refl
    on false true = refl
    on false false = refl
