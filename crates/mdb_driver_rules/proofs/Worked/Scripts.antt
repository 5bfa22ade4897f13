-- The scripts of the worked examples.
use Rattle.std.specs.Prelude.{ℕ, List, [], ◌∷◌, true, false, Some, None, pos, codes, ⊤}
use Rattle.std.specs.Fmt.{digits}
use Rattle.mdb_base.specs.declared.address.ServerAddress.{ServerAddress}
use Rattle.mdb_base.specs.declared.object_id.ObjectId.{ObjectId}
use Rattle.mdb_base.specs.declared.options.Options.{Options}
use Rattle.mdb_base.specs.AddressRule.{is_name_host}
use Rattle.mdb_base.specs.AddressReading.{until, beyond, after, number_of, port_of, address_of}
use Rattle.mdb_base.specs.declared.error.Error.{Error}
use Rattle.mdb_base.specs.declared.error.ErrorKind.{ErrorKind}
use Rattle.mdb_hello.specs.declared.response.HelloCommandResponse.{HelloCommandResponse}
use Rattle.mdb_hello.specs.Reply.{no_reply}
use Rattle.mdb_describe.specs.Listed.{parsed}
use Rattle.mdb_events.specs.declared.fact.Fact.{Fact}
use Rattle.mdb_events.specs.declared.fact.Fact.TheVariants.{Pool}
use Rattle.mdb_events.specs.declared.cmap.CmapEvent.TheVariants.{PoolCreated}
use Rattle.mdb_log.specs.declared.step.Established.{Established as How}
use Rattle.mdb_log.specs.declared.step.Step.{Step}
use Rattle.mdb_log.specs.declared.step.Act.{Act}
use Rattle.mdb_log.specs.declared.step.Act.TheVariants.{Open}
use Rattle.mdb_log.specs.Answer.{Answer}
use Rattle.mdb_driver_rules.specs.Lines.{answer_after, log_of}

abbrev pub a : ServerAddress
a = record { host = codes "a"; port = 1 }

abbrev pub b : ServerAddress
b = record { host = codes "b"; port = 1 }

abbrev pub c : ServerAddress
c = record { host = codes "c"; port = 1 }

abbrev pub S : ObjectId
S = record { 0 = 1 ∷ 2 ∷ [] }

-- the options of these seeds, which say no more
abbrev pub plain : List ServerAddress → Options
plain seeds = record {
  seeds = seeds;
  set_name = None;
  direct = false;
  load_balanced = false;
  max_pool_size = None;
  min_pool_size = None;
  max_connecting = None;
  max_idle_time = None;
  max_wait = None;
  heartbeat = None;
  connect = None;
  streaming = None;
  limit_id = None;
  limit_generation = None;
  limit_pool = None;
  limit_monitor = None;
  topology_id = record { 0 = [] };
}

abbrev pub balanced : Options
balanced = record (plain (a ∷ [])) { load_balanced = true }

abbrev pub at_moment : ℕ → Act → Step
at_moment m act = record { moment = m; act = act }

-- the answer to the last step after the opening and the others
abbrev pub final : Options → List Step → ℕ → Act → Answer
final o steps m act = answer_after (log_of (at_moment 0 (Open o) ∷ steps)) (at_moment m act)

-- a server alone that speaks the wire versions up to this one
abbrev pub speaks : ℕ → HelloCommandResponse
speaks wire = record no_reply { min_wire_version = Some (pos 0); max_wire_version = Some (pos wire) }

abbrev pub error : ErrorKind → List ℕ → Error
error kind message = record { kind = kind; labels = []; topology_version = None; message = message }

-- a connection that speaks a wire version, of a service behind a load balancer
abbrev pub how : ℕ → How
how wire = record { wire = pos wire; service_id = None; server_id = None }

abbrev pub how_of : ObjectId → How
how_of s = record { wire = pos 21; service_id = Some s; server_id = None }

abbrev pub created : ServerAddress → Options → ℕ → Fact
created x o n = Pool n (PoolCreated (record { address = x; options = Some (record { max_idle_time = o.max_idle_time; max_pool_size = o.max_pool_size; min_pool_size = o.min_pool_size }) }))

-- what a row unfolds that reads the addresses which a reply lists
unfoldable pub on_listed_hosts : ⊤
unfolding parsed address_of after port_of beyond number_of is_name_host until digits
on_listed_hosts = tt
