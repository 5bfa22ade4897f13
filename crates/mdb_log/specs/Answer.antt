-- What is answered to a step: the reply, and the facts that the step makes.
use Rattle.std.specs.Prelude.{List}
use Rattle.mdb_events.specs.declared.fact.Fact.{Fact}
use Rattle.mdb_log.specs.declared.reply.Reply.{Reply}

pub record Answer : Type 0 where
  pub reply : Reply
  pub facts : List Fact
