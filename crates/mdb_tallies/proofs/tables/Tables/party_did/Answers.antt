use Rattle.std.proofs.Common.{◌≡◌, ◌<◌, ℕ, arith, ap, sym, ◌∙◌}
use Rattle.mdb_tallies.specs.Tables.{at}
use Rattle.mdb_tallies.specs.Lists.{nth, len}
use Rattle.mdb_tallies.specs.Changes.{by_party, done_now}
use Rattle.mdb_tallies.proofs.PartyDoings.{did-none, did-nothing, did-next, did-all}
use Rattle.mdb_tallies.proofs.tables.Tables.party_did.Goals as goal

pub returns-then-is_done : goal.returns-then-is_done
returns-then-is_done c = λ covers. did-nothing c.args.how c.args.party c.args.self.now (ap (done_now c.args.how) (sym c.get-known.ensures) ∙ sym c.is_done.ensures ∙ c.if-is_done.true)

pub loop-index-init : goal.loop-index-init
loop-index-init c = λ covers. did-none c.args.how c.args.party c.args.self.now

pub loop-index-preserved : goal.loop-index-preserved
loop-index-preserved c = λ covers.
    let r : ℕ = c.args.party in
    let below : c.loop-index.index < len c.args.self.now.places c.args.party = omega (arith, c.loop-index-test.true, c.len-count.ensures) in
    let so_far = c.loop-index.invariant covers in
    let place = c.get-place.ensures ∙ ap (λ l. nth l c.args.party c.loop-index.index) so_far.places in
    let here = c.by_party-new.ensures
    ∙ ap (λ g. by_party c.args.how g c.get-known.result c.get-old.result) c.get-gift.ensures
    ∙ ap (λ x. by_party c.args.how (at c.loop-index.self.gifts c.args.party c.get-place.result.pool c.get-place.result.id) x c.get-old.result) c.get-known.ensures
    ∙ ap (λ y. by_party c.args.how (at c.loop-index.self.gifts c.args.party c.get-place.result.pool c.get-place.result.id) (at c.args.self.now.parties c.args.party 0 0) y) c.get-old.ensures in
    did-next c.args.how c.args.party c.loop-index.index c.args.self.now c.loop-index.self c.set.new.self c.get-place.result c.by_party-new.result covers so_far below place here c.in_ok-set.ensures

pub returns : goal.returns
returns c = λ covers.
    let end : c.loop-index.index ≡ len c.args.self.now.places c.args.party = omega (arith, c.loop-index-test.false, c.loop-index.auto.index-end, c.len-count.ensures) in
    did-all c.args.how c.args.party c.args.self.now c.loop-index.self covers (rw end at (c.loop-index.invariant covers))
