-- The charge as a count.
use Rattle.std.proofs.Common.{◌≡◌, ℕ, List, count_by, refl}
use Rattle.std.proofs.lemmas.List.Recursion.{is_count_by}
use Rattle.mdb_base.specs.declared.address.ServerAddress.{ServerAddress}
use Rattle.mdb_proxies.specs.declared.asked.Standing.{Standing}
use Rattle.mdb_proxies.specs.Standings.{charged_at, charge_in}

pub charge-count : (os : List Standing) (t : ℕ) (a : ServerAddress) → charge_in os t a ≡ count_by (charged_at t a) os
charge-count os t a = is_count_by (λ (l : List Standing). charge_in l t a) (charged_at t a) refl (λ _ _. refl) os
