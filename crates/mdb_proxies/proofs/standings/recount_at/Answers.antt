use Rattle.std.proofs.Common.{◌≡◌, true, false, refl, sym, ◌∙◌}
use Rattle.mdb_proxies.specs.Standings.{standing_at}
use Rattle.mdb_proxies.proofs.Next.{at-any}
use Rattle.mdb_proxies.proofs.standings.recount_at.Goals as goal

pub returns-then-is_standing_at : goal.returns-then-is_standing_at
returns-then-is_standing_at c = λ d.
    let os = c.args.standing.now in
    let o = c.index-standing-at.result in
    let is : standing_at c.args.one.now.tenant c.args.one.now.address o ≡ true = sym c.is_standing_at.ensures ∙ c.if-is_standing_at.true in
    rw (at-any os c.args.at o c.requires.within c.index-standing-at.is d) (rw is refl)

pub returns-else-is_standing_at : goal.returns-else-is_standing_at
returns-else-is_standing_at c = λ d.
    let os = c.args.standing.now in
    let o = c.index-standing-at.result in
    let is : standing_at c.args.one.now.tenant c.args.one.now.address o ≡ false = sym c.is_standing_at.ensures ∙ c.if-is_standing_at.false in
    rw (at-any os c.args.at o c.requires.within c.index-standing-at.is d) (rw is refl)
