-- The facts of an accepted step: each part in its turn knows the step and the facts before it.
use Rattle.std.specs.Prelude.{ℕ, Bool, true, false, List, [], ◌∷◌, ◌++◌, flat_map, Option, Some, None}
use Rattle.mdb_base.specs.declared.options.Options.{Options}
use Rattle.mdb_events.specs.declared.fact.Fact.{Fact}
use Rattle.mdb_log.specs.declared.step.Step.{Step}
use Rattle.mdb_log.specs.History.{Item, of_pool}
use Rattle.mdb_pool_rules.specs.Facts.{clear_facts, act_facts}
use Rattle.mdb_pool_rules.specs.Serving.{serving}
use Rattle.mdb_log.specs.Homes.{Home, homes}
use Rattle.mdb_log.specs.Opening.{pool_options}
use Rattle.mdb_driver_rules.specs.Homes.{home_of, begun}
use Rattle.mdb_driver_rules.specs.Turns.{in_turn}
use Rattle.mdb_driver_rules.specs.Monitors.{heartbeat}
use Rattle.mdb_driver_rules.specs.Errors.{Clear, nothing, whole, only, Trouble, is_hard, clears, asks, trouble_of}
use Rattle.mdb_driver_rules.specs.Description.{description_of, rule_after, changed}
use Rattle.mdb_driver_rules.specs.Publishing.{told_by}

-- the trouble that an accepted step tells of
abbrev pub trouble : Options → List Item → Step → Option Trouble
trouble o h step = trouble_of o (begun h step) (description_of o h) step.act

-- what it clears, by whether it changed the description
abbrev pub clear_by : Options → Bool → Option Trouble → Clear
clear_by o b None = nothing
clear_by o b (Some x) = clears o.load_balanced x.row b (is_hard x) x.service

abbrev pub clear_of : Options → List Item → Step → Clear
clear_of o h step = clear_by o (changed o h step) (trouble o h step)

abbrev pub is_clear : Clear → Bool
is_clear nothing = false
is_clear whole = true
is_clear (only s) = true

-- the clear of the pool that the trouble is of
abbrev pub clearing : Options → ℕ → Option Trouble → Clear → List Item → List Fact
clearing o m None clear k = []
clearing o m (Some x) nothing k = []
clearing o m (Some x) whole k = clear_facts x.pool x.address (pool_options o) m (of_pool x.pool k) None x.error
clearing o m (Some x) (only s) k = clear_facts x.pool x.address (pool_options o) m (of_pool x.pool k) (Some s) x.error

-- what the monitor is asked after it
abbrev pub asking : Options → Option Trouble → Clear → List Item → List Fact
asking o None clear k = []
asking o (Some x) clear k = asks o.load_balanced x.row x.error clear x.address

-- the act's own facts in the pool that it concerns
abbrev pub own_facts : Options → List Item → Step → Option Home → List Item → List Fact
own_facts o h step None k = []
own_facts o h step (Some x) k = act_facts x.number x.address (pool_options o) step.moment (of_pool x.number h) (of_pool x.number k) step.act

-- the serving of each pool, by number
abbrev pub serve_all : Options → ℕ → List Item → List Fact
serve_all o m k = flat_map (λ x. serving x.number x.address (pool_options o) m (of_pool x.number k)) (homes k)

-- The heartbeat's event, the publication, the clear, what the monitor is asked, the act's own facts, and the serving.
abbrev pub parts : Options → List Item → Step → List (List Item → List Fact)
parts o h step =
    (λ k. heartbeat o h step.act)
    ∷ told_by o step.moment (rule_after o h step) (description_of o h)
    ++ clearing o step.moment (trouble o h step) (clear_of o h step)
    ∷ asking o (trouble o h step) (clear_of o h step)
    ∷ own_facts o h step (home_of h step.act)
    ∷ serve_all o step.moment
    ∷ []

abbrev pub step_facts : Options → List Item → Step → List Fact
step_facts o h step = in_turn step.moment (parts o h step) (begun h step)
