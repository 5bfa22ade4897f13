use Rattle.std.proofs.Common.{◌≡◌, List, ap, ◌∙◌}
use Rattle.mdb_proxies.specs.declared.asked.Standing.{Standing}
use Rattle.mdb_proxies.specs.Tables.{is_off_in}
use Rattle.mdb_proxies.specs.Replies.{is_held_off}
use Rattle.mdb_proxies.proofs.Collects.{off-is, ask-done, if-ok}
use Rattle.mdb_proxies.proofs.handing.ProxyState.perform_act.Goals as goal

pub returns-in-Ask-clause-ok : goal.returns-in-Ask-clause-ok
returns-in-Ask-clause-ok g c =
    let s = c.args.self.now in
    let t = c.in-Ask.tenant in
    let a = c.in-Ask.address in
    let off : is_off_in s.shares.items s.books.standing.items t a ≡ is_held_off s.shares.items s.books.asks.items s.log t a
    = ap (λ (os : List Standing). is_off_in s.shares.items os t a) c.requires.sound.keeps.standing ∙ off-is s.shares.items s.log s.books.asks.items t a in
    rw c.in-Ask.is
    (if-ok c.ask.result (λ reply. ask-done c.args.moment s.shares.items s.books.asks.items c.ask.new.self.books.asks.items s.log c.ask.new.self.log t c.in-Ask.request a reply (is_off_in s.shares.items s.books.standing.items t a) off) (rw c.len-entries.ensures at c.ask.ensures.ok))
