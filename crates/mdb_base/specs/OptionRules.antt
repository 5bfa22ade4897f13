-- The rules that options keep.
use Rattle.std.specs.Prelude.{ℕ, ◌-◌, Bool, true, not, ◌&&◌, ◌||◌, ◌==◌, if◌then◌else◌, nat_le, nat_lt, is_some, List, [], ◌∷◌, length, Option, Some, None, unwrap_or}
use Rattle.std.specs.List.{list_any}
use Rattle.mdb_base.specs.declared.address.ServerAddress.{ServerAddress}
use Rattle.mdb_base.specs.declared.options.Options.{Options}
use Rattle.mdb_base.specs.declared.options.BadOption.{BadOption}
use Rattle.mdb_base.specs.declared.options.BadOption.TheVariants.{Seeds, OneSeed, DirectAndBalanced, SetName, MaxOrConnecting, Min, PoolLimit}
use Rattle.mdb_base.specs.Equality.{same_address}

-- no address stands twice
abbrev pub all_different : List ServerAddress → Bool
all_different [] = true
all_different (a ∷ more) = not (list_any (λ b. same_address b a) more) && all_different more

-- 1 to 128 different addresses
abbrev pub are_seeds : List ServerAddress → Bool
are_seeds seeds = nat_le 1 (length seeds) && nat_le (length seeds) 128 && all_different seeds

-- the default, or a number from the least to 65,535
abbrev pub is_size : Option ℕ → ℕ → Bool
is_size None least = true
is_size (Some n) least = nat_le least n && nat_le n 65535

-- the first that is broken
abbrev pub first_broken : List (Bool × BadOption) → Option BadOption
first_broken [] = None
first_broken (rule ∷ rules) = if rule.0 then Some rule.1 else first_broken rules

-- The rules in their order, each with whether it is broken.
abbrev pub rules_of : Options → List (Bool × BadOption)
rules_of o =
    (not (are_seeds o.seeds), Seeds) ∷
    ((o.direct || o.load_balanced) && not (length o.seeds == 1), OneSeed) ∷
    (o.direct && o.load_balanced, DirectAndBalanced) ∷
    (o.load_balanced && is_some o.set_name, SetName) ∷
    (not (is_size o.max_pool_size 1 && is_size o.max_connecting 1), MaxOrConnecting) ∷
    (not (is_size o.min_pool_size 0), Min) ∷
    (nat_lt (unwrap_or o.limit_pool 4294967295) (length o.seeds - 1), PoolLimit) ∷ []

abbrev pub broken_rule : Options → Option BadOption
broken_rule o = first_broken (rules_of o)
