-- Which shares a proxy takes.
use Rattle.std.specs.Prelude.{ℕ, Bool, ◌&&◌, nat_lt, nat_le, List, length, sum, slice_index}
use Rattle.std.specs.List.{list_all}

-- The shares are kept: of 1 to 64 tenants, each with some of it, and no more in all than the pool has.
abbrev pub are_shares : List ℕ → ℕ → Bool
are_shares shares max = ((nat_lt 0 (length shares) && nat_le (length shares) 64) && list_all (λ n. nat_lt 0 n) shares) && nat_le (sum shares) max

-- the share of the tenant, 0 where there is no such tenant
abbrev pub share_of : List ℕ → ℕ → ℕ
share_of shares t = slice_index shares t
