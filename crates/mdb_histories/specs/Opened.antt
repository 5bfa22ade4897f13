-- How the log of a driver begins.
use Rattle.std.specs.Prelude.{◌<◌, List, [], ◌∷◌, length, ⊤}
use Rattle.mdb_log.specs.declared.step.Act.{Act}
use Rattle.mdb_log.specs.declared.step.Act.TheVariants.{Open}
use Rattle.mdb_log.specs.declared.log.Entry.{Entry}
use Rattle.mdb_log.specs.Own.{IsAccepted}

-- The first entry, where there is one, was accepted.
abbrev pub BeginsAccepted : List Entry → Type 0
BeginsAccepted [] = ⊤
BeginsAccepted (first ∷ log) = IsAccepted first.reply

-- the act opens at least one seed, where it opens a driver
abbrev pub HasSeeds : Act → Type 0
HasSeeds (Open o) = 0 < length o.seeds
HasSeeds _ = ⊤

-- The first entry, where there is one, has a seed to open.
abbrev pub BeginsWithSeeds : List Entry → Type 0
BeginsWithSeeds [] = ⊤
BeginsWithSeeds (first ∷ log) = HasSeeds first.step.act
