-- When a law excludes an entry after a log.
use Rattle.std.specs.Prelude.{ℕ, ◌≡◌, Bool, true, false, ◌&&◌, is_none, ◌==◌, List, [], ◌∷◌, ◌++◌}
use Rattle.std.specs.List.{list_all}
use Rattle.mdb_base.specs.OptionRules.{broken_rule}
use Rattle.mdb_events.specs.declared.fact.Fact.{Fact}
use Rattle.mdb_events.specs.declared.fact.Fact.TheVariants.{Pool, Raised}
use Rattle.mdb_events.specs.declared.cmap.CmapEvent.TheVariants.{PoolReady}
use Rattle.mdb_log.specs.declared.step.Step.{Step}
use Rattle.mdb_log.specs.declared.step.Act.{Act}
use Rattle.mdb_log.specs.declared.step.Act.TheVariants.{Open}
use Rattle.mdb_log.specs.declared.log.Entry.{Entry}
use Rattle.mdb_driver_rules.specs.Lines.{log_of, steps_of}
use Rattle.mdb_driver_rules.specs.Acts.{is_driver_act}

-- the act opens a driver with options that keep their rules
abbrev pub opens_rightly : Act → Bool
opens_rightly (Open o) = is_none (broken_rule o)
opens_rightly _ = false

-- a driver takes the steps: it is opened by the first, and its callers make the others
abbrev pub are_taken : List Step → Bool
are_taken [] = true
are_taken (first ∷ steps) = opens_rightly first.act && list_all (λ s. is_driver_act s.act) steps

-- The entries are the answers of a driver to their steps, which it takes.
abbrev pub IsWritten : List Entry → Type 0
IsWritten log = (are_taken (steps_of log) ≡ true) × (log ≡ log_of (steps_of log))

-- A driver writes the log, and takes the entry's step; and where the entry comes after it, the law does not hold, whatever comes later.
abbrev pub Excludes : (List Entry → Type 0) → List Entry → Entry → Type 0
Excludes Law log e = IsWritten log × (is_driver_act e.step.act ≡ true) × ((later : List Entry) → ¬ (Law (log ++ e ∷ later)))

-- the fact marks the pool p ready, and clears it
abbrev pub makes_ready : ℕ → Fact → Bool
makes_ready p (Pool q (PoolReady e)) = q == p
makes_ready p _ = false

abbrev pub clears : ℕ → Fact → Bool
clears p (Raised q service error) = q == p
clears p _ = false
