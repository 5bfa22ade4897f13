-- Monitors by their items, and publications by their number.
use Rattle.std.proofs.Common.{ℕ, ◌≡◌, ◌≤◌, Bool, true, false, List, [], ◌∷◌, refl, arith}
use Rattle.std.specs.Prelude.{is_some}
use Rattle.mdb_base.specs.declared.address.ServerAddress.{ServerAddress}
use Rattle.mdb_base.specs.declared.options.Options.{Options}
use Rattle.mdb_events.specs.declared.fact.Fact.{Fact}
use Rattle.mdb_log.specs.declared.checked.BeatenResult.TheVariants.{Ok, Err, Cancelled}
use Rattle.mdb_log.specs.declared.step.Act.{Act}
use Rattle.mdb_log.specs.declared.step.Act.TheVariants.{Beat, Beaten, Rtt}
use Rattle.mdb_log.specs.declared.step.Step.{Step}
use Rattle.mdb_log.specs.declared.reply.Reply.{Reply}
use Rattle.mdb_log.specs.declared.reply.Reply.TheVariants.{Refused}
use Rattle.mdb_log.specs.declared.log.Entry.{Entry}
use Rattle.mdb_log.specs.History.{Item, did, made, with_facts, with_answer, with_entries}
use Rattle.mdb_monitor.specs.Items.{MonitorItem, since, connection_of}
use Rattle.mdb_driver_rules.specs.Monitors.{connected_after, is_of, is_connected, fresh_for, with_check, monitor_items, recent}
use Rattle.mdb_driver_rules.specs.Description.{published}
use Rattle.mdb_driver_rules.proofs.LeavesAsItIs.{published-facts}

-- a connection is known where the items say so
connected-act : (own : ServerAddress → ℕ → Bool) (n : ℕ) (act : Act) (b : Bool) (xs : List MonitorItem) → b ≡ is_some (connection_of (since xs)) → connected_after own act b ≡ is_some (connection_of (since (with_check own n act xs)))
connected-act own n (Beaten a q d (Ok r more)) b xs e = on (own a q) refl
  where
    on : (c : Bool) → own a q ≡ c → connected_after own (Beaten a q d (Ok r more)) b ≡ is_some (connection_of (since (with_check own n (Beaten a q d (Ok r more)) xs)))
    on true f = rw f refl
    on false f = rw f e
connected-act own n (Beaten a q d (Err error)) b xs e = on (own a q) refl
  where
    on : (c : Bool) → own a q ≡ c → connected_after own (Beaten a q d (Err error)) b ≡ is_some (connection_of (since (with_check own n (Beaten a q d (Err error)) xs)))
    on true f = rw f refl
    on false f = rw f e
connected-act own n (Beaten a q d (Cancelled error)) b xs e = on (own a q) refl
  where
    on : (c : Bool) → own a q ≡ c → connected_after own (Beaten a q d (Cancelled error)) b ≡ is_some (connection_of (since (with_check own n (Beaten a q d (Cancelled error)) xs)))
    on true f = rw f refl
    on false f = rw f e
connected-act own n (Beat a q) b xs e = on (own a q) refl
  where
    on : (c : Bool) → own a q ≡ c → b ≡ is_some (connection_of (since (with_check own n (Beat a q) xs)))
    on true f = rw f e
    on false f = rw f e
connected-act own n (Rtt a q d) b xs e = on (own a q) refl
  where
    on : (c : Bool) → own a q ≡ c → b ≡ is_some (connection_of (since (with_check own n (Rtt a q d) xs)))
    on true f = rw f e
    on false f = rw f e
connected-act own n _ b xs e = e

pub connected-items : (h : List Item) (p : ℕ) → is_connected h p ≡ is_some (connection_of (recent h p))
connected-items [] p = refl
connected-items (did step reply ∷ h) p = connected-act (is_of h p) (fresh_for h p) step.act (is_connected h p) (monitor_items h p) (connected-items h p)
connected-items (made m f ∷ h) p = connected-items h p

-- publications are never taken back
published-step : (o : Options) (step : Step) (reply : Reply) (facts : List Fact) (h : List Item) → published o h ≤ published o (with_facts step.moment facts (did step reply ∷ h))
published-step o step reply facts h =
    let e : published o (with_facts step.moment facts (did step reply ∷ h)) ≡ published o (did step reply ∷ h) = published-facts o step.moment facts (did step reply ∷ h) in
    rw e (omega arith)

pub published-answer : (o : Options) (step : Step) (reply : Reply) (facts : List Fact) (h : List Item) → published o h ≤ published o (with_answer step reply facts h)
published-answer o step (Refused why) facts h = omega arith
published-answer o step reply facts h = published-step o step reply facts h

pub published-entries : (o : Options) (es : List Entry) (h : List Item) → published o h ≤ published o (with_entries es h)
published-entries o [] h = omega arith
published-entries o (e ∷ es) h =
    let one : published o h ≤ published o (with_answer e.step e.reply e.facts h) = published-answer o e.step e.reply e.facts h in
    let more : published o (with_answer e.step e.reply e.facts h) ≤ published o (with_entries es (with_answer e.step e.reply e.facts h)) = published-entries o es (with_answer e.step e.reply e.facts h) in
    omega arith
