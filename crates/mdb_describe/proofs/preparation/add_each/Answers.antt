use Rattle.std.proofs.Common.{arith}
use Rattle.mdb_describe.proofs.Parts.{texts_on}
use Rattle.mdb_describe.proofs.preparation.add_each.Goals as goal

pub loop-text-preserved : goal.loop-text-preserved
loop-text-preserved c = texts_on c.args.found.now.items c.args.texts.now c.loop-text.text-index c.text-item.result _ _ c.loop-text.found.items _ (omega arith) c.text-item.is c.as_str.ensures c.in_ok-parsed.ensures c.loop-text.invariant c.in_ok-add.ensures
