use Rattle.std.proofs.Common.{◌∙◌, ◌<◌, ◌≤◌, ◌-◌, drop, length, ap, arith}
use Rattle.mdb_slots.specs.Edits.{rewound}
use Rattle.mdb_slots.proofs.Turns.{before-turned, from-turned, set-twice, stood}
use Rattle.mdb_slots.proofs.edit.undo_all.Goals as goal

pub loop-at-preserved : goal.loop-at-preserved
loop-at-preserved g c =
    let p : 0 < c.loop-at.at = omega (arith, c.loop-at-test.true) in
    let h : c.loop-at.at ≤ length c.loop-at.log.items = omega (arith, c.loop-at.invariant.0) in
    let t = c.undo_edit-undone.result in
    let s = set-twice c.loop-at.log.items (c.loop-at.at - 1) c.replace-change.new.dest t in
    let w = stood _ (c.loop-at.at - 1) _ _ c.replace-change.ensures.value c.index_mut.ensures.value in
    let f = from-turned c.loop-at.log.items c.loop-at.at t p h in (
      omega (arith, c.loop-at.invariant.0),
      rw (s, c.undo_edit-undone.ensures.items) (before-turned _ c.loop-at.at _ t _ p h w ∙ c.loop-at.invariant.1),
      rw (s, f) (ap (λ zs. rewound (drop c.loop-at.at c.loop-at.log.items) zs) c.undo_edit-undone.ensures.again ∙ c.loop-at.invariant.2),
      rw (s, f) (omega (arith, c.loop-at.invariant.3, c.undo_edit-undone.ensures.room, c.undo_edit-undone.ensures.capacity)),
      c.undo_edit-undone.ensures.capacity ∙ c.loop-at.invariant.4,
    )
