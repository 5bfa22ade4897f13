use Rattle.std.proofs.Common.{ℕ, List, [], ◌∷◌, ◌++◌, ap, ◌∙◌}
use Rattle.mdb_proxies.specs.declared.asked.Standing.{Standing}
use Rattle.mdb_proxies.specs.Standings.{charge_in}
use Rattle.mdb_proxies.proofs.Counts.{counted-pushed}
use Rattle.mdb_proxies.proofs.standings.push.Goals as goal

pub returns-clause-counted : goal.returns-clause-counted
returns-clause-counted c =
    let one = c.args.one in
    counted-pushed c.args.standing.now.items c.push_reserved-2.new.self.items c.args.charges.now.items c.push_reserved.new.self.items one c.charge-count.result
    (c.push_reserved-2.ensures.items ∙ ap (λ (l : List Standing). l ++ one ∷ []) c.reserve.ensures.items)
    (c.push_reserved.ensures.items ∙ ap (λ (l : List ℕ). l ++ c.charge-count.result ∷ []) c.reserve-2.ensures.items)
    (c.charge-count.ensures ∙ ap (λ (l : List Standing). charge_in l one.tenant one.address) (c.as_slice.ensures.value ∙ c.reserve.ensures.items)) c.requires.held c.requires.counted
