use Rattle.std.proofs.Common.{ap, ◌∙◌}
use Rattle.mdb_proxies.specs.Tables.{some_may_go}
use Rattle.mdb_proxies.proofs.Charges.{keeps-shares, behind-is}
use Rattle.mdb_proxies.proofs.proxy.Proxy.step.Goals as goal

pub returns-in-Some-clause-keeps : goal.returns-in-Some-clause-keeps
returns-in-Some-clause-keeps g c =
    let p = c.self.inside.parts in
    keeps-shares p.log p.shares.items p.books c.self.invariant.1

pub returns-in-Some-clause-behind : goal.returns-in-Some-clause-behind
returns-in-Some-clause-behind g c =
    let p = c.self.inside.parts in
    c.self.invariant.2 ∙ ap (some_may_go p.shares.items) c.self.invariant.1.keeps.standing ∙ behind-is p.shares.items p.log p.books.asks.items

pub returns-in_err-reply-clause-keeps : goal.returns-in_err-reply-clause-keeps
returns-in_err-reply-clause-keeps g c =
    let p = c.perform.new.self in
    keeps-shares p.log p.shares.items p.books c.perform.ensures.sound

pub returns-clause-keeps : goal.returns-clause-keeps
returns-clause-keeps g c =
    let p = c.perform.new.self in
    keeps-shares p.log p.shares.items p.books c.perform.ensures.sound

pub returns-clause-behind : goal.returns-clause-behind
returns-clause-behind g c =
    let p = c.perform.new.self in
    c.perform.ensures.behind ∙ ap (some_may_go p.shares.items) c.perform.ensures.sound.keeps.standing ∙ behind-is p.shares.items p.log p.books.asks.items

pub returns-clause-performs : goal.returns-clause-performs
returns-clause-performs g c = rw (← c.self.view_is) (λ none. c.in_ok-reply.ensures.ok)
