-- The log of a driver, by the plain sentences.
use Rattle.std.proofs.Common.{◌≡◌, ◌<◌, Bool, true, false, List, length, Option, Some, None, refl, sym, subst, arith}
use Rattle.std.proofs.lemmas.Bool.Decides.{nat_tests}
use Rattle.mdb_base.specs.OptionRules.{are_seeds, broken_rule}
use Rattle.mdb_base.specs.declared.options.Options.{Options}
use Rattle.mdb_base.specs.declared.options.BadOption.TheVariants.{Seeds}
use Rattle.mdb_log.specs.declared.log.Entry.{Entry}
use Rattle.mdb_log.specs.LegalLog.{IsLegalLog}
use Rattle.mdb_log.specs.PlainLegal.{LegalLog}
use Rattle.mdb_topology.specs.declared.topology.TopologyCore.{TopologyCore}
use Rattle.mdb_topology.specs.Driving.{Holds}
use Rattle.mdb_topology.specs.Logging.{IsDriverOf}
use Rattle.mdb_topology.proofs.DriverOpened.ScriptsLog.{legal-log}
use Rattle.mdb_histories.proofs.Logs.{driver-sound}
use Rattle.mdb_histories.specs.Opened.{BeginsWithSeeds}
use Rattle.mdb_histories.proofs.OfPlain.Accepted.{opening-accepted}
use Rattle.mdb_histories.proofs.OfPlain.Legal.{plain-legal}

-- options that keep the rules have a seed
some-seeds : (o : Options) → broken_rule o ≡ None → 0 < length o.seeds
some-seeds o kept = on (are_seeds o.seeds) refl
  where
    on : (b : Bool) → are_seeds o.seeds ≡ b → 0 < length o.seeds
    on true e = grind (arith, nat_tests, e)
    on false e = let w : broken_rule o ≡ Some Seeds = rw e refl in cc

begins-seeded : (w : TopologyCore) (log : List Entry) → IsDriverOf w log → BeginsWithSeeds log
begins-seeded w log z = subst BeginsWithSeeds (sym z.logged) (some-seeds w.options z.fits)

pub driver-legal : (w : TopologyCore) (log : List Entry) → IsDriverOf w log → LegalLog log
driver-legal w log z =
    let l : IsLegalLog log = legal-log (Some w) log z in
    plain-legal log l (driver-sound w log z) (opening-accepted log l (begins-seeded w log z))

pub plain-log : (core : Option TopologyCore) (log : List Entry) → Holds core log → LegalLog log
plain-log None log h = subst LegalLog (sym h) tt
plain-log (Some w) log h = driver-legal w log h
