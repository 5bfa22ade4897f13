use Rattle.std.proofs.Common.{sym, ◌∙◌}
use Rattle.std.proofs.lemmas.Bool.{not-true, not-false}
use Rattle.mdb_pool.proofs.KeptInLittle.RequestsThatStay.{swap-fits, leave-fits}
use Rattle.mdb_pool.proofs.kept.request_parts.RequestParts.replace.Goals as goal

pub returns-then-leaves-clause-fits : goal.returns-then-leaves-clause-fits
returns-then-leaves-clause-fits c =
    rw (c.of-all.ensures, c.in_ok-remove.ensures.now, c.in_ok-remove-2.ensures.now)
    (leave-fits c.args.self.now.all.value c.args.self.now.settled.value c.args.self.now.kept.now c.args.self.now.told.now c.args.self.now.alone c.args.self.now.known.now c.requires.fits c.args.request c.requires.there (not-true _ (sym (c.leaves.ensures c.requires.there) ∙ c.if-leaves.true)))

pub returns-clause-fits : goal.returns-clause-fits
returns-clause-fits c =
    rw (c.of-all.ensures, c.in_ok-replace.ensures.now)
    (swap-fits c.args.self.now.all.value c.args.self.now.settled.value c.args.self.now.kept.now c.args.self.now.told.now c.args.self.now.alone c.args.self.now.known.now c.requires.fits c.args.request c.requires.there (not-false _ (sym (c.leaves.ensures c.requires.there) ∙ c.if-leaves.false)))
