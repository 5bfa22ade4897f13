use Rattle.std.proofs.Common.{Some, None}
use Rattle.std.proofs.lemmas.Str.Pattern.{split_parts}
use Rattle.mdb_srv.proofs.Cuts.{uncut, cut_at}
use Rattle.mdb_srv.proofs.cut.cut.Goals as goal

pub returns-in-Some : goal.returns-in-Some
returns-in-Some c =
    let parts = split_parts c.args.at c.args.text.now (Some (c.in-Some.before, c.in-Some.after)) c.in-Some.ensures.cases c.requires in
    rw parts.0 (cut_at _ _ _ parts.1)

pub returns-in-None : goal.returns-in-None
returns-in-None c =
    let lacks = split_parts c.args.at c.args.text.now None c.in-None.ensures.cases c.requires in
    uncut _ _ lacks
