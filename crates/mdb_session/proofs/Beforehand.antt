-- What a driver tells of checks beforehand, over its whole log.
use Rattle.std.proofs.Common.{ℕ, ◌≡◌, true, false, List, Option, Some, None, is_some, refl, ap}
use Rattle.mdb_base.specs.declared.address.ServerAddress.{ServerAddress}
use Rattle.mdb_base.specs.declared.options.Options.{Options}
use Rattle.mdb_log.specs.declared.log.Entry.{Entry}
use Rattle.mdb_log.specs.History.{Item}
use Rattle.mdb_monitor.specs.declared.check.Begin.{Begin}
use Rattle.mdb_monitor.specs.Beginnings.{begin_row}
use Rattle.mdb_topology.specs.declared.topology.TopologyCore.{TopologyCore}
use Rattle.mdb_driver_rules.specs.Lines.{options_of}
use Rattle.mdb_topology.specs.Logging.{IsDriverOf}
use Rattle.mdb_driver_rules.specs.Monitors.{recent, setting}
use Rattle.mdb_session.specs.Ahead.{check_of, next_number}

-- the options of a driver are those of its log
pub own_options : (w : TopologyCore) (log : List Entry) → IsDriverOf w log → options_of log ≡ w.options
own_options w log d = ap options_of d.logged

-- where no pool is open there is no check
pub no_check : (o : Options) (h : List Item) (a : ServerAddress) (pool : Option ℕ) → false ≡ is_some pool → None ≡ check_of o h a pool
no_check o h a None e = refl
no_check o h a (Some p) e = absurd (cc e)

-- where one is open there is its check
pub one_check : (o : Options) (h : List Item) (a : ServerAddress) (pool : Option ℕ) (b : Begin) → true ≡ is_some pool
    → ((p : ℕ) → pool ≡ Some p → b ≡ begin_row (setting o a) (recent h p) (next_number h)) → Some b ≡ check_of o h a pool
one_check o h a None b e is = absurd (cc e)
one_check o h a (Some p) b e is = ap (λ x. Some x) (is p refl)
