use Rattle.std.proofs.Common.{rules, subst}
use Rattle.std.proofs.lemmas.List.{take_all}
use Rattle.mdb_pool.specs.Kept.Clearing.{AreMarked}
use Rattle.mdb_pool.proofs.Told.ServicesOfClears.{pass-whole, pass-later, name-one}
use Rattle.mdb_pool.proofs.kept.marks.named_before.Goals.{in-Some+then-mark-id+in_ok-push, in_default, in_default-via-in-None-1, in_default-via-in-Some+else-mark-id}
use Rattle.mdb_pool.proofs.kept.marks.named_before.Goals as goal

pub loop-mark-init : goal.loop-mark-init
loop-mark-init c = λ t. search rules

pub loop-mark-preserved : goal.loop-mark-preserved
loop-mark-preserved c = elim c.match-mark.branch [
  | in-Some+then-mark-id+in_ok-push w ↦ rw (w.named-is, w.in_ok-push.ensures.items) (name-one c.args.id c.args.marks.now c.loop-mark.mark-index c.loop-mark-test.true c.loop-mark.named.items c.loop-mark.invariant w.in-Some.service w.in-Some.is w.if-mark-id.true)
  | in_default w ↦ rw w.named-is (elim w.in_default.branch [
    | in_default-via-in-None-1 w' ↦ pass-whole c.args.id c.args.marks.now c.loop-mark.mark-index c.loop-mark-test.true c.loop-mark.named.items c.loop-mark.invariant (search rules)
    | in_default-via-in-Some+else-mark-id w' ↦ pass-later c.args.id c.args.marks.now c.loop-mark.mark-index c.loop-mark-test.true c.loop-mark.named.items c.loop-mark.invariant w'.if-mark-id.false
  ])
]

pub returns : goal.returns
returns c = subst (λ ks. AreMarked c.args.id ks c.loop-mark.named.items) (take_all c.loop-mark.mark-index c.args.marks.now c.loop-mark-test.false) c.loop-mark.invariant
