use Rattle.std.proofs.Common.{subst, sym, ap, ◌∙◌, refl}
use Rattle.mdb_judging.specs.Taking.{JudgedAs, all_in_place, is_left}
use Rattle.mdb_judging.proofs.TakenEntry.{judged-as}
use Rattle.mdb_judging.proofs.auditor.Auditor.judge.Goals as goal

pub returns : goal.returns
returns c = record {
  options = refl;
  places = c.clear.ensures.places;
  pools = c.clear.ensures.pools;
  kept = λ h k. record { tables = k.tables; pins = k.pins; keepings = k.keepings; queues = c.in_ok-left.ensures.kept h k.tables k.queues; homes = k.homes };
  judged = λ h k start b s one none r. subst (JudgedAs c.args.is_fair c.args.options.now k) (sym c.why.ensures) (judged-as c.args.is_fair c.in_ok-placed.placed c.in_ok-left.left c.args.options.now h k start c.args.self.now (c.in_ok-placed.ensures ∙ ap (all_in_place c.args.self.now.tables c.args.self.now.pins) c.as_slice.ensures.value) (c.in_ok-left.ensures.answer k r.kept.tables r.kept.queues ∙ ap (is_left c.args.options.now k) c.as_slice-2.ensures.value) b s one none r);
}
