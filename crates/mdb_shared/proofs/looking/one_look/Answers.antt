use Rattle.std.proofs.Common.{List, ap, sym, subst, ◌∙◌}
use Rattle.atomic_table.specs.Table.{Me}
use Rattle.mdb_log.specs.declared.log.Entry.{Entry}
use Rattle.mdb_turns.specs.declared.rule.View.{View}
use Rattle.mdb_turns.specs.Turning.{Slot}
use Rattle.mdb_shared.proofs.looking.one_look.Goals as goal

pub returns-clause-fits : goal.returns-clause-fits
returns-clause-fits g c =
    let seen : Me (Slot g.row.C.Denot) View → List Entry = λ m. m.0.seen in let ok = c.in-Ok.ensures.ok in
    (c.in-Ok.state.0, subst (λ (l : List Entry). g.C.Core.stands c.in-Ok.state.0 l) (sym (ap seen c.give_back.ensures.2 ∙ ap seen ok.0)) ok.1)
