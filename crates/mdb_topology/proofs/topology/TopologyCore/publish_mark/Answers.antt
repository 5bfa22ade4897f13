use Rattle.std.proofs.lemmas.Result.{IfOk-weaker}
use Rattle.mdb_topology.proofs.Marks.Tells.{mark-few, mark-planned}
use Rattle.mdb_topology.proofs.topology.TopologyCore.publish_mark.Goals as goal

pub plan_publication-requires-clause-few : goal.plan_publication-requires-clause-few
plan_publication-requires-clause-few c =
    mark-few c.args.self.now c.requires.stands c.args.moment c.requires.marked.0 c.requires.marked.1 c.args.later.now c.args.diff.now c.in-Some.diff c.requires.marked.2 c.in-Some.is c.requires.diff

pub returns-in-Some-clause-planned : goal.returns-in-Some-clause-planned
returns-in-Some-clause-planned c =
    IfOk-weaker c.plan_publication.result _ _ (λ changes p. mark-planned c.args.self.now c.requires.stands c.args.moment c.requires.marked.0 c.requires.marked.1 c.args.later.now c.args.diff.now c.in-Some.diff changes.items
    c.args.facts.now.items c.plan_publication.new.facts.items c.requires.marked.2 c.in-Some.is c.requires.diff p) c.plan_publication.ensures.planned
