use Rattle.std.proofs.Common.{not, ap, ◌∙◌}
use Rattle.mdb_log.specs.declared.step.Step.{Step}
use Rattle.mdb_log.specs.Driver.{is_refusal}
use Rattle.mdb_proxies.specs.Charge.{requests}
use Rattle.mdb_proxies.proofs.Within.{quiet-within}
use Rattle.mdb_proxies.proofs.Hands.{none-requested}
use Rattle.mdb_proxies.proofs.Freeing.{only-passed}
use Rattle.mdb_proxies.proofs.Sounds.{refused-same, rests}
use Rattle.mdb_proxies.proofs.handing.ProxyState.pass.Goals as goal

pub resume-requires-clause-sound : goal.resume-requires-clause-sound
resume-requires-clause-sound g c κs within =
    let s = c.args.self.now in
    let n = c.in-Ok.ensures.ok in
    let none = none-requested n.entry s.books.standing.items (λ r. ap (λ (t : Step). requests r t.act) n.is.1 ∙ c.requires.own r) in
    record { keeps = c.in-Ok.ensures.keeps; noted = c.in-Ok.ensures.noted; within = rw n.after (quiet-within s.shares.items n.entry s.books.standing.items none c.requires.sound.within) }

pub resume-requires-clause-behind : goal.resume-requires-clause-behind
resume-requires-clause-behind g c κs within = λ off.
    let s = c.args.self.now in
    let n = c.in-Ok.ensures.ok in
    let none = none-requested n.entry s.books.standing.items (λ r. ap (λ (t : Step). requests r t.act) n.is.1 ∙ c.requires.own r) in
    rests c.is_refused-goes.result (is_refusal c.in-Ok.entered.0) s.behind s.shares.items s.books.standing.items c.enter-entered.new.books.standing.items off c.is_refused-goes.ensures
    (λ f. n.after ∙ refused-same n.entry s.books.standing.items (ap is_refusal n.is.2 ∙ f) none) c.requires.behind

pub resume-requires-clause-only : goal.resume-requires-clause-only
resume-requires-clause-only g c κs within = λ on.
    let s = c.args.self.now in
    let n = c.in-Ok.ensures.ok in
    rw c.or_anywhere-freed.ensures (only-passed s.shares.items n.entry s.books.standing.items c.enter-entered.new.books.standing.items c.in-Ok.entered.1 s.behind n.after c.in-Ok.ensures.freed c.requires.behind)

pub returns-clause-ok : goal.returns-clause-ok
returns-clause-ok g c =
    let n = c.in-Ok.ensures.ok in
    record {
      entry = n.entry;
      is = n.is;
      refused = λ f. c.resume.ensures.rests (ap not (c.is_refused-goes.ensures ∙ f)) ∙ n.grown;
      goes_on = rw c.in-Ok.ensures.asks at (rw n.grown at c.resume.ensures.goes_on);
    }
