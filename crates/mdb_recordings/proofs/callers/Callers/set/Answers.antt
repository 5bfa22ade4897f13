use Rattle.std.proofs.Common.{unwrap_or, ap, ◌∙◌}
use Rattle.mdb_recordings.specs.Tables.{same_key, no_caller}
use Rattle.mdb_recordings.proofs.Keys.{same_numbers, put}
use Rattle.mdb_recordings.proofs.callers.Callers.set.Goals as goal

pub returns : goal.returns
returns c = λ a b d.
    ap (λ o. unwrap_or o no_caller) (c.in_ok-insert.ensures.updates.0 (a, b, d))
    ∙ put _ (same_key c.args.key.0 c.args.key.1 c.args.key.2 a b d) c.args.caller _ no_caller (same_numbers c.args.key.0 c.args.key.1 c.args.key.2 a b d)
