use Rattle.std.proofs.Common.{refl, ◌∙◌, sym, ap}
use Rattle.std.specs.Prelude.{option_copied}
use Rattle.mdb_slots.specs.Sided.{record_of}
use Rattle.mdb_slots.proofs.Noted.{noted-none, noted-off}
use Rattle.mdb_slots.proofs.side_parts.SideParts.stood.Goals as goal

pub returns-in-Some-clause-left : goal.returns-in-Some-clause-left
returns-in-Some-clause-left g c = λ e. rw c.requires.left_is (noted-off g.T.Keyed.key (record_of g.T.Keyed.key g.T.Sided.service g.T.Sided.since) (λ r. r.id) (λ x. refl) g.T.Sided.on_left c.args.key c.args.self.now.table.now c.in-Some.old.now c.requires.apart_is (sym c.get.ensures ∙ ap option_copied c.in-Some.is) (sym c.on_left.ensures ∙ e))

pub returns-in-Some-clause-right : goal.returns-in-Some-clause-right
returns-in-Some-clause-right g c = λ e. rw c.requires.right_is (noted-off g.T.Keyed.key g.T.Keyed.key (λ k. k) (λ x. refl) g.T.Sided.on_right c.args.key c.args.self.now.table.now c.in-Some.old.now c.requires.apart_is (sym c.get.ensures ∙ ap option_copied c.in-Some.is) (sym c.on_right.ensures ∙ e))

pub returns-in-None-clause-left : goal.returns-in-None-clause-left
returns-in-None-clause-left g c = λ e. rw c.requires.left_is (noted-none g.T.Keyed.key (record_of g.T.Keyed.key g.T.Sided.service g.T.Sided.since) (λ r. r.id) (λ x. refl) g.T.Sided.on_left c.args.key c.args.self.now.table.now (sym c.get.ensures ∙ ap option_copied c.in-None.is))

pub returns-in-None-clause-right : goal.returns-in-None-clause-right
returns-in-None-clause-right g c = λ e. rw c.requires.right_is (noted-none g.T.Keyed.key g.T.Keyed.key (λ k. k) (λ x. refl) g.T.Sided.on_right c.args.key c.args.self.now.table.now (sym c.get.ensures ∙ ap option_copied c.in-None.is))
