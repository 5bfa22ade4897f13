-- A pool that is stepped by itself, with one party and one connection.
use Rattle.std.specs.Prelude.{List, [], ◌∷◌}
use Rattle.mdb_log.specs.declared.options.PoolOptions.{PoolOptions}
use Rattle.mdb_log.specs.declared.step.Act.TheVariants as Do
use Rattle.mdb_log.specs.declared.step.Step.{Step}
use Rattle.mdb_log.specs.declared.step.Use.TheVariants.{Ok}
use Rattle.mdb_log.specs.History.{Item, opening, with_entries}
use Rattle.mdb_log.specs.Opening.{pool_options}
use Rattle.mdb_pool_rules.specs.Answer.{entries_for}
use Rattle.mdb_excluded.specs.Entries.{home, usual}
use Rattle.mdb_excluded.specs.Steps.{step, asks, made}

abbrev pub balanced : PoolOptions
balanced = pool_options usual

-- the history of its making and its answers to two steps: party 1 asks, and connection 1 is established, which it holds then
abbrev pub held : List Item
held = with_entries (entries_for 0 home balanced 0 (opening 0 home balanced) (asks 1 ∷ made 1 ∷ [])) (opening 0 home balanced)

-- party 1 returns what it holds
abbrev pub given_back : Step
given_back = step (Do.Return 1 Ok)
