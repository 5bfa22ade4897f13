use Rattle.mdb_lines.proofs.LogTexts.{text_more, spelled_at}
use Rattle.mdb_lines.proofs.entry_text.log_text.Goals as goal

pub write_entry-requires : goal.write_entry-requires
write_entry-requires c = spelled_at c.args.entries.now c.loop-entry.entry-index c.entry-item.result c.loop-entry-test.true c.entry-item.is c.requires

pub loop-entry-preserved : goal.loop-entry-preserved
loop-entry-preserved c =
    text_more c.args.entries.now c.loop-entry.entry-index c.entry-item.result c.loop-entry.text.items c.write_entry.new.out.items c.loop-entry-test.true c.entry-item.is c.loop-entry.invariant c.in_ok-write_entry.ensures.ok
