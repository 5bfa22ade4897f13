use Rattle.std.proofs.Common.{unwrap_or, ap, ◌∙◌}
use Rattle.mdb_tallies.specs.Tables.{same_key}
use Rattle.mdb_tallies.proofs.Keys.{same_numbers, put}
use Rattle.mdb_tallies.proofs.default_map.DefaultMap.set.Goals as goal

pub returns : goal.returns
returns g c = λ a b d.
    ap (λ o. unwrap_or o c.args.self.now.none) (c.in_ok-insert.ensures.updates.0 (a, b, d))
    ∙ put _ (same_key c.args.key.0 c.args.key.1 c.args.key.2 a b d) c.args.value _ c.args.self.now.none (same_numbers c.args.key.0 c.args.key.1 c.args.key.2 a b d)
