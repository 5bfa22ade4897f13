-- Steps of short scripts, at moment 0, and entries that answer them.
use Rattle.std.specs.Prelude.{ℕ, pos, false, List, codes, Some, None}
use Rattle.mdb_base.specs.declared.address.ServerAddress.{ServerAddress}
use Rattle.mdb_base.specs.declared.options.Options.{Options}
use Rattle.mdb_base.specs.declared.error.Error.{Error}
use Rattle.mdb_base.specs.declared.error.ErrorKind.TheVariants.{Other}
use Rattle.mdb_events.specs.declared.fact.Fact.{Fact}
use Rattle.mdb_hello.specs.declared.response.HelloCommandResponse.{HelloCommandResponse}
use Rattle.mdb_hello.specs.Reply.{no_reply}
use Rattle.mdb_log.specs.declared.step.Step.{Step}
use Rattle.mdb_log.specs.declared.step.Act.{Act}
use Rattle.mdb_log.specs.declared.step.Act.TheVariants as Do
use Rattle.mdb_log.specs.declared.checked.HelloResult.TheVariants as Came
use Rattle.mdb_log.specs.declared.reply.Reply.{Reply}
use Rattle.mdb_log.specs.declared.log.Entry.{Entry}
use Rattle.mdb_excluded.specs.Entries.{home, usual, found, lost}

abbrev pub step : Act → Step
step act = record { moment = 0; act = act }

-- one seed, which is no load balancer
abbrev pub normal : Options
normal = record usual { load_balanced = false }

abbrev pub other_home : ServerAddress
other_home = record { host = codes "b"; port = 1 }

-- a hello of a server that is alone, and one of a router
abbrev pub alone : HelloCommandResponse
alone = record no_reply { min_wire_version = Some (pos 0); max_wire_version = Some (pos 21) }

abbrev pub router : HelloCommandResponse
router = record alone { msg = Some (codes "isdbgrid") }

abbrev pub opens : Options → Step
opens o = step (Do.Open o)

abbrev pub greets : ℕ → HelloCommandResponse → Step
greets p reply = step (Do.Hello home p (Came.Ok 5 reply))

abbrev pub asks : ℕ → Step
asks r = step (Do.Request r home)

-- a connection of pool 0 is established, behind a load balancer; and connection 1, not behind one
abbrev pub made : ℕ → Step
made c = step (Do.Established 0 c found)

abbrev pub plainly_made : Step
plainly_made = step (Do.Established 0 1 (record found { service_id = None }))

abbrev pub names_hosts : List ServerAddress → Step
names_hosts hosts = step (Do.Hosts hosts)

-- an error that says nothing of the server
abbrev pub harmless : Error
harmless = record lost { kind = Other }

abbrev pub errs : ℕ → Error → Step
errs r e = step (Do.Error r e)

-- the step is answered so, by seat 0
abbrev pub answered : Step → Reply → List Fact → Entry
answered s reply facts = record { seat = 0; step = s; reply = reply; facts = facts }
