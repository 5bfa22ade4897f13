-- A monitor has a connection where a check succeeded since its last failure or cancellation.
use Rattle.std.proofs.Common.{ℕ, ◌≡◌, Bool, true, false, List, [], ◌∷◌, is_some, refl, ◌∙◌, ap}
use Rattle.mdb_base.specs.declared.address.ServerAddress.{ServerAddress}
use Rattle.mdb_monitor.specs.Items.{MonitorItem, since, connection_of}
use Rattle.mdb_log.specs.declared.checked.BeatenResult.TheVariants.{Ok, Err, Cancelled}
use Rattle.mdb_log.specs.declared.step.Act.{Act}
use Rattle.mdb_log.specs.declared.step.Act.TheVariants.{Beat, Beaten, Rtt}
use Rattle.mdb_log.specs.History.{Item, did, made}
use Rattle.mdb_driver_rules.specs.Monitors.{is_of, fresh_for, with_check, connected_after, monitor_items, recent, is_connected}

-- there is a connection after what came last
abbrev has-connection : List MonitorItem → Bool
has-connection xs = is_some (connection_of (since xs))

connected-act : (own : ServerAddress → ℕ → Bool) (n : ℕ) (act : Act) (xs : List MonitorItem) → has-connection (with_check own n act xs) ≡ connected_after own act (has-connection xs)
connected-act own n (Beat a q) xs = on (own a q) refl
  where
    on : (b : Bool) → own a q ≡ b → has-connection (with_check own n (Beat a q) xs) ≡ has-connection xs
    on true e = rw e refl
    on false e = rw e refl
connected-act own n (Beaten a q d (Ok r more)) xs = on (own a q) refl
  where
    on : (b : Bool) → own a q ≡ b → has-connection (with_check own n (Beaten a q d (Ok r more)) xs) ≡ connected_after own (Beaten a q d (Ok r more)) (has-connection xs)
    on true e = rw e refl
    on false e = rw e refl
connected-act own n (Beaten a q d (Err error)) xs = on (own a q) refl
  where
    on : (b : Bool) → own a q ≡ b → has-connection (with_check own n (Beaten a q d (Err error)) xs) ≡ connected_after own (Beaten a q d (Err error)) (has-connection xs)
    on true e = rw e refl
    on false e = rw e refl
connected-act own n (Beaten a q d (Cancelled error)) xs = on (own a q) refl
  where
    on : (b : Bool) → own a q ≡ b → has-connection (with_check own n (Beaten a q d (Cancelled error)) xs) ≡ connected_after own (Beaten a q d (Cancelled error)) (has-connection xs)
    on true e = rw e refl
    on false e = rw e refl
connected-act own n (Rtt a q d) xs = on (own a q) refl
  where
    on : (b : Bool) → own a q ≡ b → has-connection (with_check own n (Rtt a q d) xs) ≡ has-connection xs
    on true e = rw e refl
    on false e = rw e refl
connected-act own n _ xs = refl

pub connected-is : (h : List Item) (p : ℕ) → is_some (connection_of (recent h p)) ≡ is_connected h p
connected-is [] p = refl
connected-is (did step reply ∷ h) p = connected-act (is_of h p) (fresh_for h p) step.act (monitor_items h p) ∙ ap (connected_after (is_of h p) step.act) (connected-is h p)
connected-is (made m fact ∷ h) p = connected-is h p
