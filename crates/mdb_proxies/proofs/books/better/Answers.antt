use Rattle.std.proofs.Common.{◌≡◌, ℕ, ◌≤◌, ◌<◌, sym, ◌∙◌, subst}
use Rattle.mdb_proxies.specs.declared.asked.Standing.{Standing}
use Rattle.mdb_proxies.proofs.Next.{at-any, best-same, best-stays, best-first, best-begins}
use Rattle.mdb_proxies.proofs.Counts.{count-at, may-goes, many}
use Rattle.mdb_proxies.proofs.books.better.Goals as goal
use Rattle.mdb_proxies.proofs.books.better.Goals.{in-Some+else-standing-best, in-None}

pub returns-then-standing-best : goal.returns-then-standing-best
returns-then-standing-best c = λ d ps b.
    let os = c.args.standing.now in
    let one = c.index-standing-at.result in
    let best = c.index-standing-best.result in
    rw (at-any os c.args.at one c.requires.at c.index-standing-at.is d)
    (best-stays c.args.shares.now os ps one best c.in-Some.best (at-any os c.in-Some.best best (rw c.in-Some.is at c.requires.best) c.index-standing-best.is) (subst (λ (x : Standing). x.tenant ≤ one.tenant) (sym c.index-standing-best.is) c.if-standing-best.true) (rw c.in-Some.is at b))

pub returns-then-may_go : goal.returns-then-may_go
returns-then-may_go c = λ d ps b.
    let os = c.args.standing.now in
    let one = c.index-standing-at.result in
    let here = at-any os c.args.at one c.requires.at c.index-standing-at.is in
    let goes = may-goes c.args.shares.now os one c.count_at-charge.result _ (count-at os c.args.charges.now c.args.at one c.count_at-charge.result c.requires.counted c.requires.at c.index-standing-at.is c.count_at-charge.ensures) (sym c.may_go.ensures ∙ c.if-may_go.true) in
    rw (here d)
    (elim c.match-best.branch [
      | in-Some+else-standing-best w ↦ best-first c.args.shares.now os ps one w.index-standing-best.result w.in-Some.best c.args.at c.requires.at here
          (at-any os w.in-Some.best w.index-standing-best.result (rw w.in-Some.is at c.requires.best) w.index-standing-best.is) (subst (λ (x : Standing). one.tenant < x.tenant) (sym w.index-standing-best.is) w.if-standing-best.false) goes (rw w.in-Some.is at b)
      | in-None w ↦ best-begins c.args.shares.now os ps one c.args.at c.requires.at here goes (rw w.in-None.is at b)
    ])

pub returns-else-may_go : goal.returns-else-may_go
returns-else-may_go c = λ d ps b.
    let os = c.args.standing.now in
    let one = c.index-standing-at.result in
    let same : c.match-best.best ≡ c.args.best = elim c.match-best.branch [ in-Some+else-standing-best w ↦ (let e = w.best-is in let f = w.in-Some.is in cc) | in-None w ↦ (let e = w.best-is in let f = w.in-None.is in cc) ] in
    rw (at-any os c.args.at one c.requires.at c.index-standing-at.is d, same) (best-same c.args.shares.now os ps one c.args.best (may-goes c.args.shares.now os one c.count_at-charge.result _ (count-at os c.args.charges.now c.args.at one c.count_at-charge.result c.requires.counted c.requires.at c.index-standing-at.is c.count_at-charge.ensures) (sym c.may_go.ensures ∙ c.if-may_go.false)) b)

pub count_at-charge-requires : goal.count_at-charge-requires
count_at-charge-requires c = subst (λ (n : ℕ). c.args.at < n) (sym (many c.args.standing.now c.args.charges.now c.requires.counted)) c.requires.at
