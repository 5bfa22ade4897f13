-- Two addresses are the same where the order of keys has them so.
use Rattle.std.proofs.Common.{◌≡◌, Bool, ◌&&◌, ◌==◌, sym, ap, ◌∙◌}
use Rattle.std.specs.Cmp.Lexicographic.{slice_cmp}
use Rattle.std.specs.Ordering.{nat_cmp, is_eq}
use Rattle.std.proofs.lemmas.Map.Text.{is_eq-slice_cmp}
use Rattle.mdb_base.specs.declared.address.ServerAddress.{ServerAddress}
use Rattle.mdb_base.specs.Equality.{same_address}
use Rattle.mdb_tallies.proofs.Keys.{number_eq, eq_then}
use Rattle.mdb_judging.specs.Newest.{by_host}

pub same-key : (a b : ServerAddress) → is_eq (by_host a b) ≡ same_address a b
same-key a b =
    let o = slice_cmp nat_cmp a.host b.host in
    sym (ap (λ (e : Bool). e && (a.port == b.port)) (sym (is_eq-slice_cmp a.host b.host))
    ∙ ap (λ (e : Bool). is_eq o && e) (number_eq a.port b.port)
    ∙ eq_then o (nat_cmp a.port b.port))
