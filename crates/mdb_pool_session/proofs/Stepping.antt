-- What a session of a pool keeps, from its making through its steps.
use Rattle.std.proofs.Common.{ℕ, ◌≡◌, true, List, [], ◌∷◌, ◌++◌, refl, sym, ap, ◌∙◌, subst}
use Rattle.mdb_base.specs.declared.address.ServerAddress.{ServerAddress}
use Rattle.mdb_log.specs.declared.log.Entry.{Entry}
use Rattle.mdb_log.specs.declared.options.PoolOptions.{PoolOptions}
use Rattle.mdb_log.specs.declared.step.Step.{Step}
use Rattle.mdb_log.specs.History.{Item, of_pool, opening, with_answer, with_entries}
use Rattle.mdb_log.specs.Legal.{NoneLeftWaiting, OnePlace}
use Rattle.mdb_log.specs.Limits.{WithinLimits}
use Rattle.mdb_log.proofs.Later.{with_entries-append}
use Rattle.mdb_pool.specs.Core.{PoolCore}
use Rattle.mdb_pool.specs.Now.{alone_now}
use Rattle.mdb_pool.specs.Standing.{StandsFor, SameHome, Logs}
use Rattle.mdb_pool.proofs.Histories.GrantsAreFresh.{answer-fresh}
use Rattle.mdb_pool.proofs.Histories.OnePlaceEach.{one-place}
use Rattle.mdb_pool_laws.proofs.OfCloses.Alone.{answer-caused, answer-due}
use Rattle.mdb_pool_laws.proofs.OfSearches.Alone.{answer-last}
use Rattle.mdb_pool_rules.specs.Answer.{entry_for}
use Rattle.mdb_pool_rules.proofs.LimitsAreKept.{answer-within}
use Rattle.mdb_sound.specs.Sound.{Sound}
use Rattle.mdb_sound.proofs.Pools.{answer-sound, opening-sound}
use Rattle.mdb_pool_session.specs.PoolLogs.{PoolLog, history, logged}
use Rattle.mdb_pool_session.specs.Lawful.{AreLawful, IsLawful, IsLawfulLog}
use Rattle.mdb_pool_session.specs.Sessions.{IsEnd, Keeps, log_of}

-- one more lawful entry
lawful-append : (p : ℕ) (a : ServerAddress) (o : PoolOptions) (es : List Entry) (e : Entry) (h : List Item) → AreLawful p a o h es → IsLawful p a o (with_entries es h) e → AreLawful p a o h (es ++ e ∷ [])
lawful-append p a o [] e h l one = (one, tt)
lawful-append p a o (d ∷ es) e h l one = (l.0, lawful-append p a o es e (with_answer d.step d.reply d.facts h) l.1 one)

-- a pool at the same home has the same log
moved : (s t : PoolCore) (es : List Entry) → SameHome s t → log_of t es ≡ log_of s es
moved s t es home = λ i. record { number = home.pool i; address = home.address i; options = home.options i; entries = es }

-- a pool that was just made
pub keeps-opened : (s : PoolCore) (p : ℕ) (a : ServerAddress) (o : PoolOptions) (past last : List Entry) → past ≡ [] → last ≡ [] → s.pool ≡ p → s.address ≡ a → s.options ≡ o → alone_now s ≡ true
    → StandsFor s (opening p a o) → NoneLeftWaiting o (of_pool p (opening p a o)) → WithinLimits o (of_pool p (opening p a o)) → Keeps s past last
keeps-opened s p a o past last none empty number address options alone stands none_left within =
    let made : PoolLog = record { number = p; address = a; options = o; entries = [] } in
    let same : log_of s (past ++ last) ≡ made = λ i. record { number = number i; address = address i; options = options i; entries = none i ++ empty i } in
    record {
      alone = alone;
      end = subst (λ es. IsEnd past es) (sym empty) none;
      stands = subst (λ l. StandsFor s (history l)) (sym same) stands;
      lawful = subst IsLawfulLog (sym same) (record { entries = tt; none_left = none_left; within = within; sound = opening-sound p a o });
    }

module _ (s t : PoolCore) (past last before after : List Entry) (seat : ℕ) (step : Step) (z : Keeps s past last) (home : SameHome s t) (empty : before ≡ [])
    (logs : (h : List Item) → StandsFor s h → Logs s t before after seat step h) where
  abbrev log : PoolLog
  log = log_of s (past ++ last)

  abbrev h : List Item
  h = history log

  abbrev entry : Entry
  entry = entry_for s.pool s.address s.options seat h step

  abbrev later : List Item
  later = with_answer entry.step entry.reply entry.facts h

  told : Logs s t [] after seat step h
  told = subst (λ es. Logs s t es after seat step h) empty (logs h z.stands)

  longer : history (logged seat log step) ≡ later
  longer = with_entries-append (past ++ last) entry (opening s.pool s.address s.options)

  none : NoneLeftWaiting s.options (of_pool s.pool later)
  none = told.none_left z.lawful.none_left

  one : IsLawful s.pool s.address s.options h entry
  one = record {
    answer = refl;
    fair = told.fair;
    newest = answer-last s.pool s.address s.options h step;
    fresh = answer-fresh s h step z.stands;
    caused = answer-caused s h z.stands z.lawful.sound step;
    due = answer-due s h z.stands z.lawful.sound step;
    one_place = subst (λ p. OnePlace (of_pool p later)) home.pool (one-place t (of_pool t.pool later) told.stands.fits);
    none_left = none;
  }

  lawful : IsLawfulLog (logged seat log step)
  lawful = record {
    entries = lawful-append s.pool s.address s.options (past ++ last) entry (opening s.pool s.address s.options) z.lawful.entries one;
    none_left = subst (λ k. NoneLeftWaiting s.options (of_pool s.pool k)) (sym longer) none;
    within = subst (λ k. WithinLimits s.options (of_pool s.pool k)) (sym longer) (answer-within s.pool s.address s.options h step z.lawful.within);
    sound = subst (λ k. Sound (of_pool s.pool k)) (sym longer) (answer-sound s h z.stands z.lawful.sound step);
  }

  -- what is seen of it then is the log with the entry
  pub grown : (seen : List Entry) → seen ≡ past ++ last → log_of t (seen ++ after) ≡ logged seat log step
  grown seen is = moved s t (seen ++ after) home ∙ λ i. log_of s (is i ++ told.entry i)

  pub goes-on : (seen : List Entry) → seen ≡ past ++ last → Keeps t seen after
  goes-on seen is = record {
    alone = home.alone ∙ z.alone;
    end = subst (IsEnd seen) (sym told.entry) tt;
    stands = subst (λ l. StandsFor t (history l)) (sym (grown seen is)) (subst (StandsFor t) (sym longer) told.stands);
    lawful = subst IsLawfulLog (sym (grown seen is)) lawful;
  }
