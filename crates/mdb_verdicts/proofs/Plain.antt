-- Plain: what has plain addresses and errors alone. Said of steps, of facts, and of all that a history holds.
use Rattle.std.specs.Prelude.{◌≡◌, true, List, ⊤}
use Rattle.std.specs.List.{AllByRecursion}
use Rattle.mdb_base.specs.AddressRule.{is_address}
use Rattle.mdb_base.specs.declared.address.ServerAddress.{ServerAddress}
use Rattle.mdb_base.specs.declared.error.Error.{Error}
use Rattle.mdb_hello.specs.declared.response.HelloCommandResponse.{HelloCommandResponse}
use Rattle.mdb_describe.specs.declared.description.ServerDescription.{ServerDescription}
use Rattle.mdb_events.specs.declared.end.End.{End}
use Rattle.mdb_events.specs.declared.fact.Fact.{Fact}
use Rattle.mdb_log.specs.declared.checked.HelloResult.{HelloResult}
use Rattle.mdb_log.specs.declared.checked.HelloResult.TheVariants as hello
use Rattle.mdb_log.specs.declared.checked.BeatenResult.{BeatenResult}
use Rattle.mdb_log.specs.declared.checked.BeatenResult.TheVariants as beaten
use Rattle.mdb_log.specs.declared.reply.Reply.{Reply}
use Rattle.mdb_log.specs.declared.step.Act.{Act}
use Rattle.mdb_log.specs.declared.step.Act.TheVariants as act
use Rattle.mdb_log.specs.History.{Item, did, made, PoolItem, ended, raised}
use Rattle.mdb_event_reading.specs.SdamTexts.{is_server_id}
use Rattle.mdb_entries.specs.Answers.{is_plain_error, is_plain_end, is_plain_reply, is_plain_fact}

abbrev pub IsPlainAddress : ServerAddress → Type 0
IsPlainAddress a = is_address a ≡ true

abbrev pub ArePlainAddresses : List ServerAddress → Type 0
ArePlainAddresses list = AllByRecursion IsPlainAddress list

abbrev pub IsPlainError : Error → Type 0
IsPlainError e = is_plain_error e ≡ true

abbrev pub IsPlainEnd : End → Type 0
IsPlainEnd e = is_plain_end e ≡ true

abbrev pub IsPlainReply : Reply → Type 0
IsPlainReply reply = is_plain_reply reply ≡ true

abbrev pub IsPlainFact : Fact → Type 0
IsPlainFact fact = is_plain_fact fact ≡ true

abbrev pub ArePlainFacts : List Fact → Type 0
ArePlainFacts facts = AllByRecursion IsPlainFact facts

-- the number that a server gives to a connection isn't negative
abbrev pub IsPlainResponse : HelloCommandResponse → Type 0
IsPlainResponse r = is_server_id r.connection_id ≡ true

abbrev pub IsPlainHello : HelloResult → Type 0
IsPlainHello (hello.Ok rtt r) = IsPlainResponse r
IsPlainHello (hello.Err e) = IsPlainError e

abbrev pub IsPlainBeaten : BeatenResult → Type 0
IsPlainBeaten (beaten.Ok r more) = IsPlainResponse r
IsPlainBeaten (beaten.Err e) = IsPlainError e
IsPlainBeaten (beaten.Cancelled e) = IsPlainError e

abbrev pub IsPlainAct : Act → Type 0
IsPlainAct (act.Open o) = ArePlainAddresses o.seeds
IsPlainAct (act.Failed p c at e) = IsPlainError e
IsPlainAct (act.Clear p service e) = IsPlainError e
IsPlainAct (act.Error r e) = IsPlainError e
IsPlainAct (act.Hello a p came) = IsPlainAddress a × IsPlainHello came
IsPlainAct (act.Beaten a p duration came) = IsPlainAddress a × IsPlainBeaten came
IsPlainAct (act.Beat a p) = IsPlainAddress a
IsPlainAct (act.Hosts hosts) = ArePlainAddresses hosts
IsPlainAct _ = ⊤

abbrev pub IsPlainItem : Item → Type 0
IsPlainItem (did step reply) = IsPlainAct step.act
IsPlainItem (made m fact) = IsPlainFact fact

abbrev pub IsPlainHistory : List Item → Type 0
IsPlainHistory h = AllByRecursion IsPlainItem h

-- what a pool knows of ends and of clears
abbrev pub IsPlainPart : PoolItem → Type 0
IsPlainPart (ended r end) = IsPlainEnd end
IsPlainPart (raised service e) = IsPlainError e
IsPlainPart _ = ⊤

abbrev pub ArePlainParts : List PoolItem → Type 0
ArePlainParts xs = AllByRecursion IsPlainPart xs

abbrev pub IsPlainServer : ServerDescription → Type 0
IsPlainServer s = IsPlainAddress s.address

abbrev pub ArePlainServers : List ServerDescription → Type 0
ArePlainServers servers = AllByRecursion IsPlainServer servers
