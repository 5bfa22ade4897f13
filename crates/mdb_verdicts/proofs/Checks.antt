-- The facts of checks are plain.
use Rattle.std.proofs.Common.{ℕ, ◌≡◌, Bool, true, false, ◌&&◌, List, [], ◌∷◌, Option, Some, None, refl, if◌then◌else◌}
use Rattle.std.specs.Prelude.{⊤}
use Rattle.std.specs.List.{AllByRecursion}
use Rattle.std.proofs.lemmas.Bool.{and_from}
use Rattle.mdb_base.specs.AddressRule.{is_address}
use Rattle.mdb_base.specs.declared.address.ServerAddress.{ServerAddress}
use Rattle.mdb_base.specs.declared.options.Options.{Options}
use Rattle.mdb_hello.specs.declared.response.HelloReply.{HelloReply}
use Rattle.mdb_log.specs.declared.checked.BeatenResult.{BeatenResult}
use Rattle.mdb_log.specs.declared.checked.BeatenResult.TheVariants as beaten
use Rattle.mdb_log.specs.declared.step.Act.{Act}
use Rattle.mdb_log.specs.declared.step.Act.TheVariants as act
use Rattle.mdb_log.specs.History.{Item, did, made}
use Rattle.mdb_monitor.specs.declared.check.CheckResult.TheVariants as check
use Rattle.mdb_monitor.specs.declared.knowledge.Connection.{Connection}
use Rattle.mdb_monitor.specs.Items.{MonitorItem, began, ended, measured, since, fresh_of, connection_with, connection_of}
use Rattle.mdb_monitor.specs.Beginnings.{connection_for}
use Rattle.mdb_event_reading.specs.SdamTexts.{is_server_id}
use Rattle.mdb_entries.specs.Answers.{is_plain_event, is_plain_error}
use Rattle.mdb_driver_rules.specs.Homes.{is_here}
use Rattle.mdb_driver_rules.specs.Monitors.{check_result, is_of, fresh_for, with_check, monitor_items, recent, begin_event, end_event, heartbeat}
use Rattle.mdb_verdicts.proofs.Plain.{IsPlainAddress, ArePlainFacts, IsPlainResponse, IsPlainBeaten, IsPlainAct, IsPlainHistory}
use Rattle.mdb_verdicts.proofs.Lists.{IfAny}

-- what was done at a monitor

abbrev IsPlainCheck : MonitorItem → Type 0
IsPlainCheck (ended n (check.Ok reply more)) = IsPlainResponse reply.command_response
IsPlainCheck _ = ⊤

abbrev ArePlainChecks : List MonitorItem → Type 0
ArePlainChecks xs = AllByRecursion IsPlainCheck xs

abbrev IsPlainConnection : Connection → Type 0
IsPlainConnection k = is_server_id k.server_id ≡ true

check-if : (b : Bool) (x : MonitorItem) (xs : List MonitorItem) → IsPlainCheck x → ArePlainChecks xs → ArePlainChecks (if b then x ∷ xs else xs)
check-if true x xs i h = (i, h)
check-if false x xs i h = h

came-plain : (a : ServerAddress) (n : ℕ) (came : BeatenResult) → IsPlainBeaten came → IsPlainCheck (ended n (check_result a came))
came-plain a n (beaten.Ok r more) i = i
came-plain a n (beaten.Err e) i = tt
came-plain a n (beaten.Cancelled e) i = tt

done-plain : (own : ServerAddress → ℕ → Bool) (n : ℕ) (does : Act) (xs : List MonitorItem) → IsPlainAct does → ArePlainChecks xs → ArePlainChecks (with_check own n does xs)
done-plain own n (act.Beat a q) xs i h = check-if (own a q) (began n) xs tt h
done-plain own n (act.Beaten a q d came) xs i h = check-if (own a q) (ended d (check_result a came)) xs (came-plain a d came i.1) h
done-plain own n (act.Rtt a q d) xs i h = check-if (own a q) (measured d) xs tt h
done-plain own n _ xs i h = h

items-plain : (h : List Item) (p : ℕ) → IsPlainHistory h → ArePlainChecks (monitor_items h p)
items-plain [] p i = tt
items-plain (did step reply ∷ h) p i = done-plain (is_of h p) (fresh_for h p) step.act (monitor_items h p) i.0 (items-plain h p i.1)
items-plain (made m f ∷ h) p i = items-plain h p i.1

since-plain : (xs : List MonitorItem) → ArePlainChecks xs → ArePlainChecks (since xs)
since-plain [] h = tt
since-plain (ended n (check.Err e) ∷ xs) h = tt
since-plain (ended n (check.Cancelled e) ∷ xs) h = tt
since-plain (_ ∷ xs) h = (h.0, since-plain xs h.1)

recent-plain : (h : List Item) (p : ℕ) → IsPlainHistory h → ArePlainChecks (recent h p)
recent-plain h p i = since-plain (monitor_items h p) (items-plain h p i)

-- connections

with-plain : (known : Option Connection) (n : ℕ) (reply : HelloReply) → IfAny IsPlainConnection known → IsPlainResponse reply.command_response → IsPlainConnection (connection_with known n reply)
with-plain (Some k) n reply i j = i
with-plain None n reply i j = j

known-plain : (xs : List MonitorItem) → ArePlainChecks xs → IfAny IsPlainConnection (connection_of xs)
known-plain [] h = tt
known-plain (ended n (check.Ok reply more) ∷ xs) h = with-plain (connection_of xs) (fresh_of xs) reply (known-plain xs h.1) h.0
known-plain (_ ∷ xs) h = known-plain xs h.1

for-plain : (known : Option Connection) (n : ℕ) → IfAny IsPlainConnection known → IsPlainConnection (connection_for known n)
for-plain (Some k) n i = i
for-plain None n i = refl

-- events

begin-plain : (o : Options) (h : List Item) (a : ServerAddress) (p : ℕ) → IsPlainHistory h → IsPlainAddress a → is_plain_event (begin_event o h a p) ≡ true
begin-plain o h a p i ha =
    let known = connection_of (recent h p) in
    and_from (is_address a) (is_server_id (connection_for known (fresh_for h p)).server_id) ha (for-plain known (fresh_for h p) (known-plain (recent h p) (recent-plain h p i)))

finish-plain : (o : Options) (xs : List MonitorItem) (a : ServerAddress) (d : ℕ) (came : BeatenResult) → ArePlainChecks xs → IsPlainAddress a → IsPlainBeaten came → is_plain_event (end_event o xs a d came) ≡ true
finish-plain o xs a d came h ha i = on came i
  where
    known : Option Connection
    known = connection_of xs

    made-one : Connection
    made-one = connection_for known (fresh_of xs)

    beat : is_address a && is_server_id made-one.server_id ≡ true
    beat = and_from (is_address a) (is_server_id made-one.server_id) ha (for-plain known (fresh_of xs) (known-plain xs h))

    on : (came : BeatenResult) → IsPlainBeaten came → is_plain_event (end_event o xs a d came) ≡ true
    on (beaten.Ok r more) i = and_from (is_address a) (is_server_id (connection_with known (fresh_of xs) _).server_id) ha (with-plain known (fresh_of xs) _ (known-plain xs h) i)
    on (beaten.Err e) i = and_from (is_address a && is_server_id made-one.server_id) (is_plain_error e) beat i
    on (beaten.Cancelled e) i = and_from (is_address a && is_server_id made-one.server_id) (is_plain_error e) beat i

pub heartbeat-plain : (o : Options) (h : List Item) (does : Act) → IsPlainHistory h → IsPlainAct does → ArePlainFacts (heartbeat o h does)
heartbeat-plain o h (act.Beat a p) i j = (begin-plain o h a p i j, tt)
heartbeat-plain o h (act.Beaten a p d came) i j = on (is_here h a p) refl
  where
    on : (b : Bool) → is_here h a p ≡ b → ArePlainFacts (heartbeat o h (act.Beaten a p d came))
    on true e = rw e (finish-plain o (recent h p) a d came (recent-plain h p i) j.0 j.1, tt)
    on false e = rw e tt
heartbeat-plain o h _ i j = tt
