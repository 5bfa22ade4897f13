-- What an act at the monitor of an open pool adds to what was done there.
use Rattle.std.proofs.Common.{ℕ, ◌≡◌, ◌≢◌, ◌==◌, Bool, true, false, List, [], ◌∷◌, refl, ◌∙◌, ap, arith}
use Rattle.mdb_base.specs.declared.address.ServerAddress.{ServerAddress}
use Rattle.mdb_base.specs.declared.options.Options.{Options}
use Rattle.mdb_hello.specs.declared.response.HelloCommandResponse.{HelloCommandResponse}
use Rattle.mdb_monitor.specs.declared.check.CheckResult.TheVariants as Check
use Rattle.mdb_monitor.specs.Average.{mean, average_of, next_average}
use Rattle.mdb_monitor.specs.Items.{MonitorItem, began, ended, measured, since, is_running, samples}
use Rattle.mdb_log.specs.declared.checked.BeatenResult.{BeatenResult}
use Rattle.mdb_log.specs.declared.checked.BeatenResult.TheVariants.{Ok}
use Rattle.mdb_log.specs.declared.step.Act.TheVariants.{Beat, Beaten, Rtt}
use Rattle.mdb_log.specs.declared.reply.Reply.{Reply}
use Rattle.mdb_log.specs.History.{Item, did}
use Rattle.mdb_driver_rules.specs.Homes.{is_here}
use Rattle.mdb_driver_rules.specs.Monitors.{hello_reply, check_result, is_of, fresh_for, monitor_items, recent, streams, average}

-- a check runs where one began since the last failure or cancellation and did not end
pub running-since : (xs : List MonitorItem) → is_running (since xs) ≡ is_running xs
running-since [] = refl
running-since (began n ∷ xs) = refl
running-since (ended d (Check.Ok r more) ∷ xs) = refl
running-since (ended d (Check.Err error) ∷ xs) = refl
running-since (ended d (Check.Cancelled error) ∷ xs) = refl
running-since (measured d ∷ xs) = running-since xs

-- the average with one sample more
pub mean-next : (x : ℕ) (xs : List ℕ) → mean (x ∷ xs) ≡ next_average (average_of xs) x
mean-next x [] = refl
mean-next x (y ∷ xs) = refl

-- the pool is the open one of the address that the act names
module _ (h : List Item) (a : ServerAddress) (p m : ℕ) (reply : Reply) (here : is_here h a p ≡ true) where
  own : is_of h p a p ≡ true
  own = let w : (p == p) ≡ true = grind arith in rw (here, w) refl

  other : (q : ℕ) → p ≢ q → is_of h q a p ≡ false
  other q ne = let w : (p == q) ≡ false = grind arith in rw (here, w) refl

  pub beat-items : monitor_items (did (record { moment = m; act = Beat a p }) reply ∷ h) p ≡ began (fresh_for h p) ∷ monitor_items h p
  beat-items = rw own refl

  pub beat-others : (q : ℕ) → p ≢ q → monitor_items (did (record { moment = m; act = Beat a p }) reply ∷ h) q ≡ monitor_items h q
  beat-others q ne = rw (other q ne) refl

  pub beaten-items : (d : ℕ) (came : BeatenResult) → monitor_items (did (record { moment = m; act = Beaten a p d came }) reply ∷ h) p ≡ ended d (check_result a came) ∷ monitor_items h p
  beaten-items d came = rw own refl

  pub beaten-others : (d : ℕ) (came : BeatenResult) (q : ℕ) → p ≢ q → monitor_items (did (record { moment = m; act = Beaten a p d came }) reply ∷ h) q ≡ monitor_items h q
  beaten-others d came q ne = rw (other q ne) refl

  pub rtt-items : (d : ℕ) → monitor_items (did (record { moment = m; act = Rtt a p d }) reply ∷ h) p ≡ measured d ∷ monitor_items h p
  rtt-items d = rw own refl

  pub rtt-others : (d q : ℕ) → p ≢ q → monitor_items (did (record { moment = m; act = Rtt a p d }) reply ∷ h) q ≡ monitor_items h q
  rtt-others d q ne = rw (other q ne) refl

  -- the averages that a round trip answers, and that a reply is taken with
  pub rtt-average : (o : Options) (d : ℕ) → average o (did (record { moment = m; act = Rtt a p d }) reply ∷ h) p ≡ next_average (average_of (samples (streams o) (recent h p))) d
  rtt-average o d = ap (λ xs. mean (samples (streams o) (since xs))) (rtt-items d) ∙ mean-next d (samples (streams o) (recent h p))

  pub reply-average : (o : Options) (d : ℕ) (r : HelloCommandResponse) (more : Bool) → average o (did (record { moment = m; act = Beaten a p d (Ok r more) }) reply ∷ h) p ≡ mean (samples (streams o) (ended d (Check.Ok (hello_reply a r) more) ∷ recent h p))
  reply-average o d r more = ap (λ xs. mean (samples (streams o) (since xs))) (beaten-items d (Ok r more))

-- an act that names another pool, or none that is open, is of no monitor
pub nowhere-items : (h : List Item) (a : ServerAddress) (p m d q : ℕ) (came : BeatenResult) (reply : Reply) → is_here h a p ≡ false → monitor_items (did (record { moment = m; act = Beaten a p d came }) reply ∷ h) q ≡ monitor_items h q
nowhere-items h a p m d q came reply e = rw e refl
