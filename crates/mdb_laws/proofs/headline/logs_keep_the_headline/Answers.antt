use Rattle.mdb_laws.proofs.WholeHeadline.{log-headline}
use Rattle.mdb_laws.proofs.headline.logs_keep_the_headline.Goals as goal

pub returns : goal.returns
returns c = log-headline
