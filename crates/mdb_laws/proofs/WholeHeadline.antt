-- Every log for which a driver stands keeps the headline.
use Rattle.std.proofs.Common.{List, [], Some, sym, subst}
use Rattle.mdb_base.specs.declared.options.Options.{Options}
use Rattle.mdb_log.specs.declared.log.Entry.{Entry}
use Rattle.mdb_log.specs.Opening.{pool_options}
use Rattle.mdb_topology.specs.declared.topology.TopologyCore.{TopologyCore}
use Rattle.mdb_topology.specs.Logging.{IsDriverOf}
use Rattle.mdb_topology.proofs.DriverOpened.ScriptsLog.{kept-log}
use Rattle.mdb_driver_rules.specs.Lines.{options_of}
use Rattle.mdb_histories.proofs.Logs.{driver-sound}
use Rattle.mdb_histories.proofs.OfPlain.Drivers.{plain-log}
use Rattle.mdb_pool_laws.specs.CloseCauses.{EntriesCaused}
use Rattle.mdb_pool_laws.specs.Dues.{EntriesDue}
use Rattle.mdb_laws.specs.LogHeadline.{AnswerTellsPools, IgnoresLateErrors, LogHeadline}
use Rattle.mdb_laws.specs.Logs.{AnswerTells, EachAnswer}
use Rattle.mdb_laws.specs.Refusals.{RefusesByTable}
use Rattle.mdb_laws.specs.Searches.{AnswerGrantsLast}
use Rattle.mdb_laws.proofs.Answered.{each-entry, each-of}
use Rattle.mdb_laws.proofs.OfCloses.Driver.{log-caused, log-due}
use Rattle.mdb_laws.proofs.OfSearches.Steps.{answer-last}
use Rattle.mdb_laws.proofs.OfTelling.Logs.{driver-answered, driver-tells-once}
use Rattle.mdb_laws.proofs.OfRefusals.{refuses}
use Rattle.mdb_laws.proofs.WholeLogs.{options-are, log-tells}

module _ (w : TopologyCore) (log : List Entry) (z : IsDriverOf w log) where
  pub log-refuses : EachAnswer RefusesByTable log
  log-refuses = each-entry RefusesByTable (λ o h step sound. refuses o h step) log (driver-answered w log z) (driver-sound w log z)

  pub log-searches : EachAnswer AnswerGrantsLast log
  log-searches = each-entry AnswerGrantsLast answer-last log (driver-answered w log z) (driver-sound w log z)

  log-pools : EachAnswer AnswerTellsPools log
  log-pools = each-of AnswerTells AnswerTellsPools (λ o h step a t. t.causes) (options_of log) [] log (log-tells w log z)

  log-ignores : EachAnswer IgnoresLateErrors log
  log-ignores = each-of AnswerTells IgnoresLateErrors (λ o h step a t. record { errors = t.errors; failures = t.failures }) (options_of log) [] log (log-tells w log z)

  pub log-headline : LogHeadline log
  log-headline = record {
    refused = log-refuses;
    legal = plain-log (Some w) log z;
    limits = (kept-log (Some w) log z).within;
    fresh = (kept-log (Some w) log z).fresh;
    closes = subst (λ (o : Options). EntriesCaused (pool_options o) [] log) (sym (options-are w log z)) (log-caused w log z);
    must_close = subst (λ (o : Options). EntriesDue (pool_options o) [] log) (sym (options-are w log z)) (log-due w log z);
    searches = log-searches;
    pools = log-pools;
    told_once = λ r. driver-tells-once w log r z;
    late_errors = log-ignores;
  }
