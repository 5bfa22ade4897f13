-- How the first line of a script is spelled.
use Rattle.std.specs.Prelude.{ℕ, List, [], ◌∷◌, ◌++◌, decimal, codes, option_map, Bool, true, false}
use Rattle.mdb_base.specs.declared.options.Options.{Options}
use Rattle.mdb_parts.specs.Parts.{Part, parts_text, flag, addresses}

abbrev pub mode_text : Bool → List ℕ
mode_text true = codes "stream"
mode_text false = codes "poll"

-- the optional parts, in their order
abbrev pub open_parts : Options → List Part
open_parts o =
    (codes " set=", o.set_name)
    ∷ (codes " direct", flag o.direct)
    ∷ (codes " lb", flag o.load_balanced)
    ∷ (codes " max=", option_map decimal o.max_pool_size)
    ∷ (codes " min=", option_map decimal o.min_pool_size)
    ∷ (codes " connecting=", option_map decimal o.max_connecting)
    ∷ (codes " idle=", option_map decimal o.max_idle_time)
    ∷ (codes " wait=", option_map decimal o.max_wait)
    ∷ (codes " heartbeat=", option_map decimal o.heartbeat)
    ∷ (codes " connect=", option_map decimal o.connect)
    ∷ (codes " mode=", option_map mode_text o.streaming)
    ∷ (codes " limit_id=", option_map decimal o.limit_id)
    ∷ (codes " limit_generation=", option_map decimal o.limit_generation)
    ∷ (codes " limit_pool=", option_map decimal o.limit_pool)
    ∷ (codes " limit_monitor=", option_map decimal o.limit_monitor)
    ∷ []

abbrev pub open_text : Options → List ℕ
open_text o = codes "open seeds=" ++ (addresses o.seeds ++ parts_text (open_parts o))
