use Rattle.std.proofs.Common.{ℕ, ◌||◌, ap, ◌∙◌, add-one}
use Rattle.mdb_tallies.specs.Lists.{nth, listed, is_place}
use Rattle.mdb_judging.specs.Touching.{has_place}
use Rattle.mdb_judging.proofs.Touches.{has_place-append, or-or}
use Rattle.mdb_judging.proofs.touched.add_all.Goals as goal

pub loop-index-preserved : goal.loop-index-preserved
loop-index-preserved c = λ p d.
    let i : ℕ = c.loop-index.index in
    let before = has_place c.args.places.now.items p d in
    let far = listed i (nth c.args.list.now c.args.party) p d in
    rw (add-one i)
    (ap (λ xs. has_place xs p d) c.in_ok-push.ensures.items
    ∙ has_place-append c.loop-index.places.items c.get-place.result p d
    ∙ ap (λ b. b || is_place c.get-place.result p d) (c.loop-index.invariant p d)
    ∙ or-or before far (is_place c.get-place.result p d)
    ∙ ap (λ x. before || (is_place x p d || far)) c.get-place.ensures)
