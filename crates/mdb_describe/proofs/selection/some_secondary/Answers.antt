use Rattle.std.proofs.Common.{◌∙◌, sym}
use Rattle.mdb_describe.specs.Selection.{is_secondary}
use Rattle.mdb_describe.proofs.Selecting.{some_matching}
use Rattle.mdb_describe.proofs.selection.some_secondary.Goals as goal

pub returns : goal.returns
returns c = c.any_secondary.ensures ∙ sym (some_matching is_secondary c.args.tag_sets.now c.args.servers.now)
