-- The last entry of a pool that was stepped is that of the step.
use Rattle.std.proofs.Common.{◌≡◌, ℕ, ◌∙◌, Option, Some, None, ap, subst}
use Rattle.mdb_log.specs.declared.log.Entry.{Entry}
use Rattle.mdb_log.specs.declared.step.Step.{Step}
use Rattle.mdb_pool_rules.specs.Answer.{entry_for}
use Rattle.mdb_pool_session.specs.PoolLogs.{PoolLog, answer_after, history, last_entry, logged}
use Rattle.mdb_pool_session.proofs.Ends.{last_of}
use Rattle.mdb_session.specs.declared.told.Told.{Told}
use Rattle.mdb_c.specs.PoolSteps.{TellsAnswer}

module _ (seen l : PoolLog) (seat : ℕ) (step : Step) (is : seen ≡ logged seat l step) where
  abbrev entry : Entry
  entry = entry_for l.number l.address l.options seat (history l) step

  last_is : last_entry seen.entries ≡ Some entry
  last_is = ap (λ k. last_entry k.entries) is ∙ last_of l.entries entry

  pub there : None ≡ last_entry seen.entries → ⊥
  there none = let e : None ≡ Some entry = none ∙ last_is in absurd (cc)

  pub tells : (e : Entry) (before after : Told) → Some e ≡ last_entry seen.entries → TellsAnswer e.reply e.facts before after → TellsAnswer (answer_after l step).reply (answer_after l step).facts before after
  tells e before after some told =
      let both : Some e ≡ Some entry = some ∙ last_is in
      let same : e ≡ entry = cc in
      subst (λ (x : Entry). TellsAnswer x.reply x.facts before after) same told
