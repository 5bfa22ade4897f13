use Rattle.std.proofs.Common.{◌∙◌}
use Rattle.mdb_c.proofs.Names.{txt_of_one}
use Rattle.mdb_c.proofs.txt_records.resolver_of.Goals as goal

pub returns : goal.returns
returns c =
    rw (c.new-6.ensures.txt, c.in_ok-push.ensures.items, c.new-entries.ensures.items)
    (txt_of_one c.new.result c.args.name.now c.new-3.result c.new-4.result (c.new.ensures ∙ c.in_ok-from_str.ensures.ok) ∙ c.new-4.ensures)
