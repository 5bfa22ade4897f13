use Rattle.std.proofs.Common.{ℕ, IsTrue, ap, sym, subst, ◌∙◌}
use Rattle.mdb_log.specs.declared.step.Step.{Step}
use Rattle.mdb_log.specs.Driver.{is_reply_to}
use Rattle.mdb_log.specs.Acts.{IsDriverAct}
use Rattle.mdb_turns.specs.Stepping.{raised}
use Rattle.mdb_turns.proofs.Keeping.{raised_enough}
use Rattle.mdb_turns.proofs.turn.begin_step.Goals as goal

pub step-stepped-requires-clause-act : goal.step-stepped-requires-clause-act
step-stepped-requires-clause-act g c κs within = subst (λ (s : Step). IsDriverAct s.act) (sym c.raise-raised.ensures) c.requires.act

pub returns-in-Ok-stepped-clause-ok : goal.returns-in-Ok-stepped-clause-ok
returns-in-Ok-stepped-clause-ok g c = let t = c.in-Ok.ensures.ok in let h = c.in-Ok-stepped.ensures.entry in record {
  before = c.in-Ok.state.1;
  entry = h.0;
  front = t.2;
  is = (h.1.0, h.1.1 ∙ (c.raise-raised.ensures ∙ ap (λ (k : ℕ). raised k c.args.step) (c.last_moment.ensures _ t.1)), h.1.2);
  more = h.2;
  turn = t.0;
  fits = c.in-Ok-stepped.ensures.stands;
}

pub returns-in-Ok-stepped-clause-kind : goal.returns-in-Ok-stepped-clause-kind
returns-in-Ok-stepped-clause-kind g c = subst (λ (s : Step). IsTrue (is_reply_to s.act c.in-Ok-stepped.reply)) c.raise-raised.ensures c.in-Ok-stepped.ensures.kind

pub returns-in-Ok-stepped-clause-in_time : goal.returns-in-Ok-stepped-clause-in_time
returns-in-Ok-stepped-clause-in_time g c = raised_enough c.in-Ok.state.1 _ c.args.step c.raise-raised.result c.in-Ok-stepped.reply c.raise-raised.ensures (c.last_moment.ensures _ c.in-Ok.ensures.ok.1) c.in-Ok-stepped.ensures.in_time
