-- The one log of a script whose lines players share.
use Rattle.std.specs.Prelude.{◌≡◌, ℕ, List, [], ◌∷◌}
use Rattle.mdb_log.specs.declared.log.Entry.{Entry}
use Rattle.mdb_log.specs.declared.step.Step.{Step}
use Rattle.mdb_log.specs.History.{history_of}
use Rattle.mdb_log.specs.LegalLog.{IsLegalLog}
use Rattle.mdb_log.specs.PlainLegal.{LegalLog}
use Rattle.mdb_driver_rules.specs.Lines.{entry_after}
use Rattle.mdb_topology.specs.Logging.{IsKept}
use Rattle.mdb_laws.specs.Answers.{AreAnswers}
use Rattle.mdb_histories.specs.SoundHistory.{SoundHistory}
use Rattle.mdb_runs.specs.Runs.{HasDriver}
use Rattle.mdb_shared_runs.specs.Shares.{IsShared}

-- The log of a script that k players share: the first step opens the driver, and the others are shared.
abbrev pub SharesSteps : ℕ → List Step → List Entry → Type 0
SharesSteps k [] log = log ≡ []
SharesSteps k (first ∷ later) log =
    (entries : List Entry) × (log ≡ entry_after 0 [] first ∷ entries)
    × IsShared k (entry_after 0 [] first ∷ []) later entries × AreAnswers (entry_after 0 [] first ∷ []) entries

-- The log of a shared script, which is a driver's, legal, by the plain sentences too, kept and sound.
pub record Shared (k : ℕ) (steps : List Step) (log : List Entry) : Type 0 where
  pub shares : SharesSteps k steps log
  pub driver : HasDriver log
  pub legal : IsLegalLog log
  pub plain : LegalLog log
  pub kept : IsKept log
  pub sound : SoundHistory (history_of log)
