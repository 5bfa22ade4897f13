use Rattle.std.proofs.Common.{◌≡◌, refl, sym, subst}
use Rattle.std.proofs.lemmas.Option.{slice_get_read}
use Rattle.mdb_log.specs.declared.log.Entry.{Entry}
use Rattle.mdb_log.specs.declared.step.Act.TheVariants.{GiveUp}
use Rattle.mdb_log.specs.declared.reply.Reply.TheVariants.{Done}
use Rattle.mdb_handles.proofs.standing.is_given_up.Goals as goal

pub returns-then-gives_up : goal.returns-then-gives_up
returns-then-gives_up c =
    let GivesUp : Entry → Type 0 = λ e. (e.step.act ≡ GiveUp c.args.request) × (e.reply ≡ Done) in
    let is : GivesUp c.index-kept-number.result = subst GivesUp (sym c.index-kept-number.is) (c.gives_up.ensures c.if-gives_up.true) in
    λ _. (c.loop-number.number, c.index-kept-number.result, slice_get_read c.args.kept.entries.now _ c.loop-number.number _ refl c.loop-number-test.true c.index-kept-number.is, is.0, is.1)
