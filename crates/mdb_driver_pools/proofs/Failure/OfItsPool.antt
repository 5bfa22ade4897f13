-- What one pool does for a failure: it fails alone, or is cleared and then fails.
use Rattle.std.proofs.Common.{ℕ, ◌≡◌, ◌||◌, List, [], ◌∷◌, ◌++◌, Option, Some, None, refl, sym, ◌∙◌, ap, subst}
use Rattle.mdb_base.specs.declared.address.ServerAddress.{ServerAddress}
use Rattle.mdb_base.specs.declared.error.Error.{Error}
use Rattle.mdb_base.specs.declared.object_id.ObjectId.{ObjectId}
use Rattle.mdb_events.specs.declared.fact.Fact.{Fact}
use Rattle.mdb_log.specs.declared.step.Act.{Act}
use Rattle.mdb_log.specs.declared.step.Act.TheVariants.{Clear, Failed}
use Rattle.mdb_log.specs.declared.step.FailedAt.{FailedAt}
use Rattle.mdb_log.specs.declared.step.FailedAt.TheVariants.{Pre, Post}
use Rattle.mdb_log.specs.declared.reply.Reply.TheVariants.{Done}
use Rattle.mdb_log.specs.History.{Item, PoolItem, failed, service_in, of_pool, after_act, after_facts, with_facts, open_pool}
use Rattle.mdb_log.specs.Requests.{is_job}
use Rattle.mdb_log.specs.Limits.{WithinLimits}
use Rattle.mdb_log.specs.Fresh.{AllGrantFresh}
use Rattle.mdb_log.proofs.Numbers.{same-number}
use Rattle.mdb_log.proofs.Later.{of_pool-with_facts}
use Rattle.mdb_pool.specs.Core.{PoolCore}
use Rattle.mdb_pool.specs.Now.{claimed_now}
use Rattle.mdb_pool.specs.declared.planning.Answered.{Answered}
use Rattle.mdb_pool_rules.specs.Answer.{all_facts}
use Rattle.mdb_pool.specs.Composing.{FailsCleared}
use Rattle.mdb_pool_rules.specs.Facts.{clear_facts}
use Rattle.mdb_pool.specs.Planning.{IsDone}
use Rattle.mdb_pool_rules.specs.Quiet.{IsQuiet}
use Rattle.mdb_pool_rules.specs.Serving.{IsServed}
use Rattle.mdb_pool.specs.Standing.{Fits, Accepts}
use Rattle.mdb_pool_rules.proofs.SameAnswers.Queries.{Alike}
use Rattle.mdb_pool.proofs.SameAnswers.FailureAfterClear.{failed-after-clear}
use Rattle.mdb_pool_rules.proofs.SameAnswers.FailureAndClear.{failed-facts, clear-of-clear}
use Rattle.mdb_pool.proofs.Histories.GrantsAreFresh.{accepted-fresh}
use Rattle.mdb_pool_rules.proofs.LimitsAreKept.{act-kept, accepted-within}
use Rattle.mdb_pool.proofs.NothingServed.KeptByActs.{act-quiet}
use Rattle.mdb_driver_rules.proofs.GrantsStayFresh.{all-fresh-alike, clears-fresh, fresh-both}
use Rattle.mdb_driver_pools.proofs.Failure.PoolsStand.{Fails, failing}

-- what the pool knows by the act itself
item-at : (p q m c : ℕ) (here : ServerAddress → Option ℕ) (at : FailedAt) (error : Error) (xs : List PoolItem) → q ≡ p → after_act q here m (Failed p c at error) xs ≡ failed c (service_in at) ∷ xs
item-at p q m c here Pre error xs e = rw (e, same-number p) refl
item-at p q m c here (Post service) error xs e = rw (e, same-number p) refl

-- the grants of a failure alone are of fresh connections
alone-fresh : (t : PoolCore) (h : List Item) (m p c : ℕ) (at : FailedAt) (error : Error) → t.pool ≡ p → Fits t (of_pool t.pool h)
    → AllGrantFresh t.pool t.options m (failed c (service_in at) ∷ of_pool t.pool h) (all_facts t.pool t.address t.options m (of_pool t.pool h) (failed c (service_in at) ∷ of_pool t.pool h) (Failed p c at error))
alone-fresh t h m p c at error e fits =
    subst (λ ys. AllGrantFresh t.pool t.options m ys (all_facts t.pool t.address t.options m (of_pool t.pool h) ys (Failed p c at error)))
    (item-at p t.pool m c (open_pool h) at error (of_pool t.pool h) e) (accepted-fresh t h (failing m p c at error) fits tt)

module _ (s : PoolCore) (h : List Item) (fits : Fits s (of_pool s.pool h)) (served : IsServed s.options (of_pool s.pool h)) (quiet : IsQuiet s.options (of_pool s.pool h)) (within : WithinLimits s.options (of_pool s.pool h))
    (m c : ℕ) (at : FailedAt) (error : Error) where
  abbrev xs : List PoolItem
  xs = of_pool s.pool h

  abbrev ws : List PoolItem
  ws = failed c (service_in at) ∷ xs

  abbrev act : Act
  act = Failed s.pool c at error

  within-ws : WithinLimits s.options ws
  within-ws = subst (WithinLimits s.options) (item-at s.pool s.pool m c (λ a. None) at error xs refl) (act-kept s.options s.pool (λ a. None) m act xs within)

  -- the pool fails alone
  module _ (u : PoolCore) (b : Answered) (done : IsDone s u (failing m s.pool c at error) b) where
    abbrev pub alone : List Fact
    alone = all_facts s.pool s.address s.options m xs ws act

    accepts : Accepts s u [] b.facts m act b.reply xs ws
    accepts = subst (Accepts s u [] b.facts m act b.reply xs) (item-at s.pool s.pool m c (λ a. Some s.pool) at error xs refl) (done.does xs fits)

    pub alone-done : b.reply ≡ Done
    alone-done = accepts.reply_is (λ d. claimed_now s d) (λ d. refl)

    pub alone-facts : b.facts ≡ alone
    alone-facts = accepts.facts_are

    pub fails-alone : Fails s u m alone ws
    fails-alone = record {
      same = done.home;
      fits = accepts.fits;
      fair = accepts.fair;
      own = accepts.own;
      fresh = alone-fresh s h m s.pool c at error refl fits;
      served = accepts.served;
      quiet = subst (λ ys. IsQuiet s.options (after_facts s.pool m (all_facts s.pool s.address s.options m xs ys act) ys)) (item-at s.pool s.pool m c (λ a. None) at error xs refl)
          (act-quiet s.pool s.address s.options m (λ a. None) xs (λ b e f. cc) quiet act);
      within = accepted-within s.pool s.address s.options m xs ws act within-ws;
      shut = accepts.shut;
      settled = accepts.settled;
      claimed = λ d. accepts.claimed d ∙ ap (λ r. is_job s.pool r d || claimed_now s d) alone-done;
    }

  -- the pool is cleared, and then fails
  module _ (service : Option ObjectId) (cause : Error) (t u : PoolCore) (a b : Answered)
      (first : IsDone s t (record { moment = m; act = Clear s.pool service cause }) a) (second : IsDone t u (failing m s.pool c at error) b) where
    abbrev pub clears : List Fact
    clears = clear_facts s.pool s.address s.options m ws service cause

    abbrev ns : List PoolItem
    ns = after_facts s.pool m clears ws

    abbrev pub fails : List Fact
    fails = all_facts s.pool s.address s.options m xs ns act

    abbrev whole : List Fact
    whole = all_facts s.pool s.address s.options m xs xs (Clear s.pool service cause)

    abbrev zs : List PoolItem
    zs = after_facts s.pool m whole xs

    v : Accepts s t [] a.facts m (Clear s.pool service cause) a.reply xs xs
    v = first.does xs fits

    w : Accepts t u [] b.facts m act b.reply zs (failed c (service_in at) ∷ zs)
    w = subst (Accepts t u [] b.facts m act b.reply zs) (item-at s.pool t.pool m c (λ x. Some t.pool) at error zs first.home.pool) (second.does zs v.fits)

    g : FailsCleared s u m [] a.facts [] b.facts clears fails ws
    g = failed-after-clear s t u [] a.facts [] b.facts m xs s.pool s.pool c service cause error at a.reply b.reply served first.home v w

    pub clears-are : a.facts ≡ clears
    clears-are = g.clears_are

    pub fails-are : b.facts ≡ fails
    fails-are = g.fails_are

    cleared-done : a.reply ≡ Done
    cleared-done = v.reply_is (λ d. claimed_now s d) (λ d. refl)

    pub failed-done : b.reply ≡ Done
    failed-done = w.reply_is (λ d. claimed_now t d) (λ d. refl)

    alike : Alike (failed c (service_in at) ∷ zs) ns
    alike = subst (λ fs. Alike (failed c (service_in at) ∷ after_facts s.pool m fs xs) ns) (sym g.clears_are ∙ v.facts_are) (failed-facts c (service_in at) s.pool m clears xs (clear-of-clear s.pool s.address s.options m ws service cause))

    -- the failure grants fresh connections after the clear
    known : of_pool t.pool (with_facts m whole h) ≡ zs
    known = ap (λ p. of_pool p (with_facts m whole h)) first.home.pool ∙ of_pool-with_facts s.pool m whole h

    at-t : AllGrantFresh t.pool t.options m (failed c (service_in at) ∷ zs) (all_facts t.pool t.address t.options m zs (failed c (service_in at) ∷ zs) act)
    at-t =
        subst (λ ys. AllGrantFresh t.pool t.options m (failed c (service_in at) ∷ ys) (all_facts t.pool t.address t.options m ys (failed c (service_in at) ∷ ys) act)) known
        (alone-fresh t (with_facts m whole h) m s.pool c at error first.home.pool (subst (Fits t) (sym known) v.fits))

    fails-fresh : AllGrantFresh s.pool s.options m ns fails
    fails-fresh =
        all-fresh-alike s.pool s.options m fails (failed c (service_in at) ∷ zs) ns alike
        (subst (λ p. AllGrantFresh p s.options m (failed c (service_in at) ∷ zs) fails) first.home.pool
        (subst (λ x. AllGrantFresh t.pool x m (failed c (service_in at) ∷ zs) fails) first.home.options
        (subst (AllGrantFresh t.pool t.options m (failed c (service_in at) ∷ zs)) (sym w.facts_are ∙ g.fails_are) at-t)))

    pub fails-cleared : Fails s u m (clears ++ fails) ws
    fails-cleared = record {
      same = record { pool = second.home.pool ∙ first.home.pool; address = second.home.address ∙ first.home.address; options = second.home.options ∙ first.home.options; alone = second.home.alone ∙ first.home.alone };
      fits = g.fits;
      fair = g.fair;
      own = g.own;
      fresh = fresh-both s.pool s.options m clears fails ws (clears-fresh s.pool s.options m clears ws (clear-of-clear s.pool s.address s.options m ws service cause)) fails-fresh;
      served = g.served;
      quiet = g.quiet quiet;
      within = g.within within-ws;
      shut = g.shut;
      settled = λ r. w.settled r ∙ v.settled r;
      claimed = λ d. w.claimed d ∙ (ap (λ r. is_job t.pool r d || claimed_now t d) failed-done ∙ (v.claimed d ∙ ap (λ r. is_job s.pool r d || claimed_now s d) cleared-done));
    }
