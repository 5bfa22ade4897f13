use Rattle.std.proofs.Common.{sym, ap, ◌∙◌}
use Rattle.mdb_recordings.proofs.Noted.{noted}
use Rattle.mdb_recordings.proofs.judge.Judge.note.Goals as goal

pub returns-in_ok-go_on : goal.returns-in_ok-go_on
returns-in_ok-go_on c = λ h stands known.
    noted c.args.recorded.now c.args.known.now h c.args.self.now c.go_on.new.self c.get-lives.result.lives stands known
    (sym c.begins.ensures ∙ c.if-begins.false)
    (ap (λ x. x.lives) c.get-lives.ensures ∙ ap (λ x. x.lives) (stands.pools c.args.recorded.now.pool))
    c.in_ok-go_on.ensures
