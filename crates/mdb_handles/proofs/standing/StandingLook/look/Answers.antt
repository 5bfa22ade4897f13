use Rattle.std.proofs.Common.{refl, List, subst}
use Rattle.mdb_log.specs.declared.log.Entry.{Entry}
use Rattle.mdb_handles.specs.Standing.{MayBe}
use Rattle.mdb_handles.proofs.Waiting.{may-be}
use Rattle.mdb_handles.proofs.standing.StandingLook.look.Goals as goal

pub returns : goal.returns
returns g c = (may-be c.args.self.now.request c.args.log.now.gone c.args.log.now.all c.state_by-state.result (subst (λ (es : List Entry). MayBe c.args.self.now.request es c.state_by-state.result) c.kept.ensures.entries c.state_by-state.ensures), refl)
