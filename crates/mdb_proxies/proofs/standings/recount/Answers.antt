use Rattle.std.proofs.Common.{◌≡◌, ℕ, ◌+◌, List, length, take, ap, arith, ◌∙◌}
use Rattle.std.proofs.Math.Seq.{take-length}
use Rattle.mdb_proxies.specs.declared.asked.Standing.{Standing}
use Rattle.mdb_proxies.specs.Standings.{recounted}
use Rattle.mdb_proxies.proofs.Counts.{turn, length-recounted}
use Rattle.mdb_proxies.proofs.standings.recount.Goals as goal

pub loop-at-preserved : goal.loop-at-preserved
loop-at-preserved c =
    let l = c.loop-at in
    let one = c.args.one.now in
    let os = c.args.standing.now in
    let cs = c.args.charges.now.items in
    let n = c.charge-count.result in
    let done = turn one.tenant one.address n os cs l.charges.items c.recount_at.new.charges.items l.at (omega arith) c.requires l.invariant.done c.recount_at.ensures in
    record {
      among = ap length done ∙ length-recounted one.tenant one.address n (take (l.at + 1) os) cs ∙ c.requires;
      done = done;
    }

pub returns : goal.returns
returns c =
    let l = c.loop-at in
    let one = c.args.one.now in
    let os = c.args.standing.now in
    let cs = c.args.charges.now.items in
    let end : l.at ≡ length os = omega arith in
    let all : take l.at os ≡ os = ap (λ (k : ℕ). take k os) end ∙ take-length os in
    l.invariant.done
    ∙ ap (λ (ps : List Standing). recounted one.tenant one.address c.charge-count.result ps cs) all
    ∙ ap (λ (n : ℕ). recounted one.tenant one.address n os cs) c.charge-count.ensures
