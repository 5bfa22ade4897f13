use Rattle.std.proofs.Common.{◌∙◌, ap, if◌then◌else◌, Some}
use Rattle.mdb_base.specs.Equality.{same_address}
use Rattle.mdb_judging.specs.Newest.{by_host, last_at}
use Rattle.std.specs.Ordering.{is_eq}
use Rattle.mdb_tallies.proofs.Keys.{cond-if}
use Rattle.mdb_judging.proofs.Ranks.{same-key}
use Rattle.mdb_judging.proofs.newest.Newest.set.Goals as goal

pub returns : goal.returns
returns c = λ a.
    c.in_ok-insert.ensures.updates.0 a
    ∙ cond-if (is_eq (by_host c.args.address a)) (Some c.args.last) (last_at c.args.self.now a)
    ∙ ap (λ b. if b then Some c.args.last else last_at c.args.self.now a) (same-key c.args.address a)
