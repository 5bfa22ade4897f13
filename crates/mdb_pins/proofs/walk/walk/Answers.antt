use Rattle.std.proofs.Common.{◌≡◌, ◌<◌, arith, ap, ◌∙◌}
use Rattle.mdb_tallies.specs.Lists.{len}
use Rattle.mdb_pins.specs.Numbered.{of_number}
use Rattle.mdb_pins.specs.Following.{by_how}
use Rattle.mdb_pins.proofs.Walks.{far-none, far-next}
use Rattle.mdb_pins.proofs.walk.walk.Goals as goal

pub loop-index-init : goal.loop-index-init
loop-index-init c = λ once. far-none c.args.how c.args.tables.now (of_number c.args.doings.now) c.args.list.now c.args.party c.args.pins.now

pub loop-index-preserved : goal.loop-index-preserved
loop-index-preserved c = λ once.
    let below : c.loop-index.index < len c.args.list.now c.args.party = omega (arith, c.loop-index-test.true, c.len-count.ensures) in
    far-next c.args.how c.args.tables.now (of_number c.args.doings.now) c.args.list.now c.args.party c.loop-index.index c.args.pins.now c.loop-index.pins c.set.new.self c.get-place.result c.in_ok-new.new once (c.loop-index.invariant once) below c.get-place.ensures (c.in_ok-new.ensures ∙ ap (by_how c.args.how c.args.tables.now (of_number c.args.doings.now) c.args.party c.get-place.result.pool c.get-place.result.id) c.get-old.ensures) c.in_ok-set.ensures

pub returns : goal.returns
returns c = λ once.
    let end : c.loop-index.index ≡ len c.args.list.now c.args.party = omega (arith, c.loop-index-test.false, c.loop-index.auto.index-end, c.len-count.ensures) in
    rw end at (c.loop-index.invariant once)
