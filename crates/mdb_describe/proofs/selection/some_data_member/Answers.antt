use Rattle.std.proofs.Common.{◌∙◌, sym}
use Rattle.mdb_describe.specs.Selection.{is_data_member}
use Rattle.mdb_describe.proofs.Selecting.{some_matching}
use Rattle.mdb_describe.proofs.selection.some_data_member.Goals as goal

pub returns : goal.returns
returns c = c.any_data_member.ensures ∙ sym (some_matching is_data_member c.args.tag_sets.now c.args.servers.now)
