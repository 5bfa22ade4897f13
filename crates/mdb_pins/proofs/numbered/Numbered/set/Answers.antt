use Rattle.std.proofs.Common.{◌==◌, unwrap_or, sym, ap, ◌∙◌}
use Rattle.mdb_tallies.proofs.Keys.{number_eq, put}
use Rattle.mdb_pins.proofs.numbered.Numbered.set.Goals as goal

pub returns : goal.returns
returns g c = λ n.
    ap (λ o. unwrap_or o c.args.self.now.none) (c.in_ok-insert.ensures.updates.0 n)
    ∙ put _ (c.args.number == n) c.args.value _ c.args.self.now.none (sym (number_eq c.args.number n))
