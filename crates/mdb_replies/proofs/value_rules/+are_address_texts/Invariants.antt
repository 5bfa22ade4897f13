use Rattle.std.proofs.Common.{length}
use Rattle.mdb_replies.proofs.value_rules.+are_address_texts.Given as goal

abbrev pub decreases-are_address_texts : goal.decreases-are_address_texts
decreases-are_address_texts l = length l.texts.now
