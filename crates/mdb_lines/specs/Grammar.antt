-- The rules of the grammar: which steps the lines of a script spell.
use Rattle.std.specs.Prelude.{ℕ, ℤ, ◌==◌, ◌&&◌, nat_le, List, Bool, true, false, Option, Some, None, is_none, int_le, pos, bytes_eq, replicate}
use Rattle.std.specs.List.{list_all}
use Rattle.mdb_base.specs.AddressRule.{is_address}
use Rattle.mdb_base.specs.OptionRules.{are_seeds, broken_rule}
use Rattle.mdb_base.specs.declared.object_id.ObjectId.{ObjectId}
use Rattle.mdb_base.specs.declared.options.Options.{Options}
use Rattle.mdb_parts.specs.ErrorParts.{is_error}
use Rattle.mdb_parts.specs.WordRule.{is_word, keeps}
use Rattle.mdb_log.specs.declared.step.Established.{Established}
use Rattle.mdb_replies.specs.ReplyParts.{is_reply}
use Rattle.mdb_log.specs.declared.checked.HelloResult.{HelloResult}
use Rattle.mdb_log.specs.declared.checked.HelloResult.TheVariants as hello
use Rattle.mdb_log.specs.declared.checked.BeatenResult.{BeatenResult}
use Rattle.mdb_log.specs.declared.checked.BeatenResult.TheVariants as beaten
use Rattle.mdb_log.specs.declared.step.Step.{Step}
use Rattle.mdb_log.specs.declared.step.Act.{Act}
use Rattle.mdb_log.specs.declared.step.Act.TheVariants as act

-- a script's topology has an id of zero bytes
abbrev pub is_zero_id : ObjectId → Bool
is_zero_id id = bytes_eq id.0 (replicate 12 0)

-- Options of a first line: no rule of options is broken, and the name of a set is a word.
unfoldable pub are_options : Options → Bool
are_options o =
    is_none (broken_rule o) && (list_all is_address o.seeds && (keeps is_word o.set_name && is_zero_id o.topology_id))

abbrev pub is_not_negative : Option ℤ → Bool
is_not_negative None = true
is_not_negative (Some n) = int_le (pos 0) n

-- what a line says of a connection that was established
abbrev pub is_established : Established → Bool
is_established e = int_le (pos 0) e.wire && is_not_negative e.server_id

abbrev pub is_hello : HelloResult → Bool
is_hello (hello.Ok rtt r) = is_reply r
is_hello (hello.Err e) = is_error e

abbrev pub is_beaten : BeatenResult → Bool
is_beaten (beaten.Ok r more) = is_reply r
is_beaten (beaten.Err e) = is_error e
is_beaten (beaten.Cancelled e) = is_error e

-- acts of the topology and of its monitors
abbrev pub is_topology_act : Act → Bool
is_topology_act (act.Hello a p came) = is_address a && is_hello came
is_topology_act (act.Beaten a p n came) = is_address a && is_beaten came
is_topology_act (act.Beat a p) = is_address a
is_topology_act (act.Rtt a p n) = is_address a
is_topology_act (act.Hosts hosts) = are_seeds hosts && list_all is_address hosts
is_topology_act (act.ClusterTime time) = true
is_topology_act (act.Want w) = true
is_topology_act (act.Unwant w) = true
is_topology_act act.Stop = true
is_topology_act _ = false

abbrev pub is_act : ℕ → Act → Bool
is_act m (act.Open o) = (m == 0) && are_options o
is_act m (act.Request r a) = is_address a
is_act m (act.Warm r a) = is_address a
is_act m (act.Collect r) = true
is_act m act.Claim = true
is_act m (act.GiveUp r) = true
is_act m (act.Established p c e) = is_established e
is_act m (act.Return r u) = true
is_act m (act.Pin r) = true
is_act m (act.Replicate p c) = true
is_act m (act.Take r p c) = true
is_act m (act.Unpin p c) = true
is_act m (act.Maintain a) = is_address a
is_act m (act.Expire a) = is_address a
is_act m (act.Failed p c at e) = is_error e
is_act m (act.Error r e) = is_error e
is_act m a = is_topology_act a

-- the step keeps the rules of the grammar
abbrev pub is_step : Step → Bool
is_step s = is_act s.moment s.act

abbrev pub is_open : Act → Bool
is_open (act.Open o) = true
is_open _ = false

-- no byte but printable ones
abbrev pub is_printable : List ℕ → Bool
is_printable line = list_all (λ b. nat_le 32 b && nat_le b 126) line
