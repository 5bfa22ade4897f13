use Rattle.std.proofs.Common.{◌≡◌, drop}
use Rattle.mdb_log.specs.Generations.{generation_in}
use Rattle.mdb_log.proofs.generation.generation_in.Given as goal

-- what is left decides
abbrev pub invariant-loop-generation : goal.invariant-loop-generation
invariant-loop-generation l = generation_in l.service l.generations ≡ generation_in l.service (drop l.generation-index l.generations)
