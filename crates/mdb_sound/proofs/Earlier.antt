-- What a sound history was before is sound.
use Rattle.std.proofs.Common.{List, [], ◌∷◌, ◌++◌}
use Rattle.mdb_log.specs.History.{PoolItem}
use Rattle.mdb_sound.specs.Sound.{Sound}

pub earlier-sound : (later xs : List PoolItem) → Sound (later ++ xs) → Sound xs
earlier-sound [] xs s = s
earlier-sound (x ∷ later) xs s = earlier-sound later xs s.1
