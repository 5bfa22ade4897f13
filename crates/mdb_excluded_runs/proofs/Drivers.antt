-- The laws that a log keeps for which some driver stands.
use Rattle.std.proofs.Common.{List, [], ◌∷◌, sym, subst, arith}
use Rattle.mdb_base.specs.declared.options.Options.{Options}
use Rattle.mdb_log.specs.declared.log.Entry.{Entry}
use Rattle.mdb_log.specs.Opening.{pool_options}
use Rattle.mdb_topology.specs.declared.topology.TopologyCore.{TopologyCore}
use Rattle.mdb_topology.specs.Logging.{IsDriverOf}
use Rattle.mdb_pool_laws.specs.CloseCauses.{EntriesCaused}
use Rattle.mdb_laws.proofs.OfCloses.Driver.{log-caused}
use Rattle.mdb_laws.proofs.OfTelling.Logs.{driver-answered, driver-tells-once}
use Rattle.mdb_laws.specs.Logs.{TellsAllCauses}
use Rattle.mdb_laws.proofs.WholeHeadline.{log-refuses, log-searches}
use Rattle.mdb_laws.proofs.WholeLogs.{options-are, log-tells}
use Rattle.mdb_excluded.specs.Logs.{TellsOnce, ClosesByCause, IsAnswered, IsRefusedRightly, SearchesLastFirst}
use Rattle.mdb_runs.specs.Runs.{HasDriver}

module _ (Law : List Entry → Type 0) (none : Law []) (each : (w : TopologyCore) (log : List Entry) → IsDriverOf w log → Law log) where
  driven : (log : List Entry) → HasDriver log → Law log
  driven [] d = none
  driven (e ∷ es) d = each d.0 (e ∷ es) d.1

pub closes-by-cause : (log : List Entry) → HasDriver log → ClosesByCause log
closes-by-cause = driven ClosesByCause tt (λ w log z. subst (λ (o : Options). EntriesCaused (pool_options o) [] log) (sym (options-are w log z)) (log-caused w log z))

pub is-answered : (log : List Entry) → HasDriver log → IsAnswered log
is-answered = driven IsAnswered tt driver-answered

pub tells-once : (log : List Entry) → HasDriver log → TellsOnce log
tells-once = driven TellsOnce (λ r. omega arith) (λ w log z r. driver-tells-once w log r z)

pub tells-causes : (log : List Entry) → HasDriver log → TellsAllCauses log
tells-causes = driven TellsAllCauses tt log-tells

pub refused-rightly : (log : List Entry) → HasDriver log → IsRefusedRightly log
refused-rightly = driven IsRefusedRightly tt log-refuses

pub searches-last-first : (log : List Entry) → HasDriver log → SearchesLastFirst log
searches-last-first = driven SearchesLastFirst tt log-searches
