-- A clear and then a failure of one connection, done as two acts, make the facts of one step whose own item comes first.
use Rattle.std.proofs.Common.{ℕ, ◌≡◌, ◌+◌, Bool, true, false, ◌||◌, List, [], ◌∷◌, ◌++◌, length, Option, Some, None, refl, sym, ◌∙◌, ap, subst}
use Rattle.mdb_base.specs.declared.address.ServerAddress.{ServerAddress}
use Rattle.mdb_base.specs.declared.object_id.ObjectId.{ObjectId}
use Rattle.mdb_base.specs.declared.error.Error.{Error}
use Rattle.mdb_events.specs.declared.end.End.{End}
use Rattle.mdb_events.specs.declared.end.End.TheVariants.{Cleared}
use Rattle.mdb_events.specs.declared.fact.Fact.{Fact}
use Rattle.mdb_log.specs.declared.options.PoolOptions.{PoolOptions}
use Rattle.mdb_log.specs.declared.step.Act.TheVariants.{Clear, Failed}
use Rattle.mdb_log.specs.declared.step.FailedAt.{FailedAt}
use Rattle.mdb_log.specs.declared.reply.Reply.{Reply}
use Rattle.mdb_pool.specs.Now.{queries}
use Rattle.mdb_pool.specs.Core.{PoolCore}
use Rattle.mdb_log.specs.History.{PoolItem, failed, service_in, after_facts}
use Rattle.mdb_log.specs.Connections.{available_list, granted_to}
use Rattle.mdb_log.specs.Requests.{queued}
use Rattle.mdb_log.specs.State.{State, is_ready, is_closed, state_of}
use Rattle.mdb_log.specs.Legal.{AllFirstCome}
use Rattle.mdb_log.specs.Own.{AllOwn, shuts}
use Rattle.mdb_log.specs.Limits.{WithinLimits}
use Rattle.mdb_pool_rules.specs.Facts.{end_facts, all_ends, clear_facts, act_facts}
use Rattle.mdb_pool.specs.Kept.Values.{is_shut}
use Rattle.mdb_pool_rules.specs.Quiet.{IsQuiet}
use Rattle.mdb_pool_rules.specs.Serving.{serving, IsServed}
use Rattle.mdb_pool_rules.specs.Answer.{all_facts}
use Rattle.mdb_pool.specs.Standing.{Fits, SameHome, Accepts}
use Rattle.mdb_pool_rules.proofs.SameAnswers.Queries.{Alike}
use Rattle.mdb_pool_rules.proofs.SameAnswers.FactsOf.{alike-facts, failed-alike, all-own-alike}
use Rattle.mdb_pool_rules.proofs.SameAnswers.ServingOf.{serving-alike, served-alike, all-first-alike}
use Rattle.mdb_pool.proofs.SameAnswers.State.{fits-alike}
use Rattle.mdb_pool_rules.proofs.AfterClearOrClose.{clear-alone}
use Rattle.mdb_pool_rules.proofs.ClearFacts.{clear-fair, clear-all-own}
use Rattle.mdb_pool_rules.proofs.KeptByFacts.{AreGentle, quiet-facts, gentle-append, fail-gentle, serve-gentle}
use Rattle.mdb_pool.proofs.NothingServed.NobodyQueued.{clear-quiet}
use Rattle.mdb_pool_rules.proofs.SameAnswers.FailureAndClear.{failed-facts, clear-of-clear, of-clear-within}
use Rattle.mdb_pool.specs.Composing.{FailsCleared}
use Rattle.mdb_pool_rules.proofs.Fair.{fair-append, own-append, shut-append}
use Rattle.mdb_pool_rules.proofs.LimitsAreKept.{accepted-within}
use Rattle.mdb_log.proofs.Later.{after-append}

or-swap : (a b c : Bool) → a || (b || c) ≡ (b || a) || c
or-swap true true c = refl
or-swap true false c = refl
or-swap false true c = refl
or-swap false false c = refl

module _ (p : ℕ) (a : ServerAddress) (o : PoolOptions) (m : ℕ) where
  -- a failure leaves what a clear says
  ends-failed : (c : ℕ) (service : Option ObjectId) (xs : List PoolItem) (end : End) (rs : List ℕ) → all_ends p a m (failed c service ∷ xs) end rs ≡ all_ends p a m xs end rs
  ends-failed c service xs end [] = refl
  ends-failed c service xs end (r ∷ rs) = ap (λ fs. end_facts p a m xs r end ++ fs) (ends-failed c service xs end rs)

  pub clear-failed : (c : ℕ) (named : Option ObjectId) (xs : List PoolItem) (service : Option ObjectId) (error : Error) → clear_facts p a o m (failed c named ∷ xs) service error ≡ clear_facts p a o m xs service error
  clear-failed c named xs service error = on (state_of o xs) service refl
    where
      on : (s : State) (t : Option ObjectId) → state_of o xs ≡ s → clear_facts p a o m (failed c named ∷ xs) t error ≡ clear_facts p a o m xs t error
      on is_closed t e = rw e refl
      on is_ready None e = rw (e, ends-failed c named xs (Cleared error) (queued xs)) refl
      on _ None e = rw e refl
      on _ (Some t) e = rw e refl

  -- a failure makes the same facts and the same serving of items that say alike
  pub all-failed-alike : (xs ys : List PoolItem) → Alike xs ys → (vs ws : List PoolItem) (q c : ℕ) (at : FailedAt) (error : Error) → all_facts p a o m vs xs (Failed q c at error) ≡ all_facts p a o m ws ys (Failed q c at error)
  all-failed-alike xs ys k vs ws q c at error =
      let fs : List Fact = act_facts p a o m vs xs (Failed q c at error) in
      let same : fs ≡ act_facts p a o m ws ys (Failed q c at error) = failed-alike p a o m xs ys k vs ws q c at error in
      ap (λ gs. fs ++ gs) (serving-alike p a o m (after_facts p m fs xs) (after_facts p m fs ys) (alike-facts p m fs xs ys k)) ∙ ap (λ gs. gs ++ serving p a o m (after_facts p m gs ys)) same

module _ (s t u : PoolCore) (before middle start after : List Fact) (m : ℕ) (xs : List PoolItem) (q k c : ℕ) (service : Option ObjectId) (cause error : Error) (at : FailedAt) (first second : Reply) where
  -- what the pool knows with the failure, the facts of the clear then, and what it knows after these
  abbrev ws : List PoolItem
  ws = failed c (service_in at) ∷ xs

  abbrev clears : List Fact
  clears = clear_facts s.pool s.address s.options m ws service cause

  abbrev ns : List PoolItem
  ns = after_facts s.pool m clears ws

  -- the facts of the failure then
  abbrev fails : List Fact
  fails = all_facts s.pool s.address s.options m xs ns (Failed k c at error)

  -- what the pool knows after the clear alone
  abbrev zs : List PoolItem
  zs = after_facts s.pool m (all_facts s.pool s.address s.options m xs xs (Clear q service cause)) xs

  quiet-after : IsQuiet s.options ws → IsQuiet s.options (after_facts s.pool m (clears ++ fails) ws)
  quiet-after i =
      let fs : List Fact = act_facts s.pool s.address s.options m xs ns (Failed k c at error) in
      let vs : List PoolItem = after_facts s.pool m fs ns in
      let serves : AreGentle (serving s.pool s.address s.options m vs) = serve-gentle s.pool s.address s.options m (length (queued vs) + length (available_list vs)) vs in
      let gentle : AreGentle fails = gentle-append fs (serving s.pool s.address s.options m vs) (tt, fail-gentle s.pool s.address s.options m ns error (granted_to ns c)) serves in
      subst (IsQuiet s.options) (sym (after-append s.pool m clears fails ws)) (quiet-facts s.pool s.options m fails ns gentle (clear-quiet s.pool s.address m s.options ws i service cause))

  pub failed-after-clear : IsServed s.options xs → SameHome s t
      → Accepts s t before middle m (Clear q service cause) first xs xs
      → Accepts t u start after m (Failed k c at error) second zs (failed c (service_in at) ∷ zs)
      → FailsCleared s u m before middle start after clears fails ws
  unfolding queries
  failed-after-clear served home v w =
      let own_clear : all_facts s.pool s.address s.options m xs xs (Clear q service cause) ≡ clears = clear-alone s.pool s.address s.options m xs q service cause served ∙ sym (clear-failed s.pool s.address s.options m c (service_in at) xs service cause) in
      let vs : List PoolItem = after_facts s.pool m clears xs in
      let ys : List PoolItem = failed c (service_in at) ∷ vs in
      let known : zs ≡ vs = ap (λ fs. after_facts s.pool m fs xs) own_clear in
      let behind : Alike ys ns = failed-facts c (service_in at) s.pool m clears xs (clear-of-clear s.pool s.address s.options m ws service cause) in
      let later : Accepts t u start after m (Failed k c at error) second vs ys = subst (λ z. Accepts t u start after m (Failed k c at error) second z (failed c (service_in at) ∷ z)) known w in
      let there : List Fact = all_facts t.pool t.address t.options m vs ys (Failed k c at error) in
      let moved : there ≡ all_facts s.pool s.address s.options m vs ys (Failed k c at error) = ap (λ p. all_facts p t.address t.options m vs ys (Failed k c at error)) home.pool ∙ (ap (λ a. all_facts s.pool a t.options m vs ys (Failed k c at error)) home.address ∙ ap (λ o. all_facts s.pool s.address o m vs ys (Failed k c at error)) home.options) in
      let all : there ≡ fails = moved ∙ all-failed-alike s.pool s.address s.options m ys ns behind vs xs k c at error in
      let after_all : Alike (after_facts s.pool m fails ys) (after_facts s.pool m fails ns) = alike-facts s.pool m fails ys ns behind in
      let joined : after_facts s.pool m (clears ++ fails) ws ≡ after_facts s.pool m fails ns = after-append s.pool m clears fails ws in
      let fits : Fits u (after_facts s.pool m fails ys) = subst (λ fs. Fits u (after_facts s.pool m fs ys)) all (subst (λ p. Fits u (after_facts p m there ys)) home.pool later.fits) in
      let fair : AllFirstCome s.pool m ys fails = subst (AllFirstCome s.pool m ys) all (subst (λ p. AllFirstCome p m ys there) home.pool later.fair) in
      let own : AllOwn s.pool m ys fails = subst (AllOwn s.pool m ys) all (subst (λ p. AllOwn p m ys there) home.pool later.own) in
      let rests : IsServed s.options (after_facts s.pool m fails ys) = subst (λ fs. IsServed s.options (after_facts s.pool m fs ys)) all (subst (λ o. IsServed o (after_facts s.pool m there ys)) home.options (subst (λ p. IsServed t.options (after_facts p m there ys)) home.pool later.served)) in
      record {
        clears_are = v.facts_are ∙ ap (λ fs. before ++ fs) own_clear;
        fails_are = later.facts_are ∙ ap (λ fs. start ++ fs) all;
        fits = subst (Fits u) (sym joined) (fits-alike u (after_facts s.pool m fails ys) (after_facts s.pool m fails ns) after_all fits);
        fair = fair-append s.pool s.address s.options m clears fails ws (clear-fair s.pool s.address s.options m ws cause service (state_of s.options ws) refl) (all-first-alike s.pool m fails ys ns behind fair);
        own = own-append s.pool s.address s.options m clears fails ws (clear-all-own s.pool s.address s.options m ws cause service (state_of s.options ws) refl) (all-own-alike s.pool m fails ys ns behind own);
        served = subst (IsServed s.options) (sym joined) (served-alike s.options (after_facts s.pool m fails ys) (after_facts s.pool m fails ns) after_all rests);
        shut = later.shut ∙ (ap (λ b. b || is_shut t.kept.status) (ap shuts all) ∙ (ap (λ b. shuts fails || b) (v.shut ∙ ap (λ fs. shuts fs || is_shut s.kept.status) own_clear) ∙ (or-swap (shuts fails) (shuts clears) (is_shut s.kept.status) ∙ ap (λ b. b || is_shut s.kept.status) (sym (shut-append s.pool s.address s.options m clears fails)))));
        within = λ i. subst (WithinLimits s.options) (sym joined) (accepted-within s.pool s.address s.options m xs ns (Failed k c at error) (of-clear-within s.options s.pool m clears ws (clear-of-clear s.pool s.address s.options m ws service cause) i));
        quiet = quiet-after;
      }
