use Rattle.std.proofs.Common.{List, subst}
use Rattle.mdb_log.specs.declared.log.Entry.{Entry}
use Rattle.mdb_handles.specs.CheckingOut.{IsGivenUp}
use Rattle.mdb_handles.proofs.Waiting.{given-behind}
use Rattle.mdb_handles.proofs.standing.GiveUpsLook.look.Goals as goal

pub returns : goal.returns
returns g c = λ found. given-behind c.args.self.now.request c.args.log.now.gone c.args.log.now.all (subst (λ (es : List Entry). IsGivenUp c.args.self.now.request es) c.kept.ensures.entries (c.is_given_up.ensures found))
