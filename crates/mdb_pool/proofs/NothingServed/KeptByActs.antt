-- Every act keeps a pool quiet.
use Rattle.std.proofs.Common.{ℕ, ◌≡◌, ◌≢◌, ◌+◌, Bool, true, false, not, ◌&&◌, ◌==◌, List, [], ◌∷◌, length, Option, Some, None, is_some, refl, sym, ◌∙◌, subst, if◌then◌else◌}
use Rattle.mdb_base.specs.Equality.{same_address}
use Rattle.mdb_base.specs.declared.address.ServerAddress.{ServerAddress}
use Rattle.mdb_events.specs.declared.fact.Fact.{Fact}
use Rattle.mdb_events.specs.declared.end.End.TheVariants.{GaveUp, TimedOut}
use Rattle.mdb_events.specs.declared.fact.Fact.TheVariants.{Ended}
use Rattle.mdb_log.specs.declared.options.PoolOptions.{PoolOptions}
use Rattle.mdb_log.specs.declared.step.Step.{Step}
use Rattle.mdb_log.specs.declared.step.Act.{Act}
use Rattle.mdb_log.specs.declared.step.Act.TheVariants as act
use Rattle.mdb_log.specs.declared.step.FailedAt.TheVariants.{Pre, Post}
use Rattle.mdb_log.specs.declared.reply.Refused.{Refused}
use Rattle.mdb_log.specs.declared.reply.Reply.{Reply}
use Rattle.mdb_log.specs.declared.reply.Reply.TheVariants.{Refused as RefusedBy}
use Rattle.mdb_pool.specs.Now.{queries}
use Rattle.mdb_pool.specs.Core.{PoolCore}
use Rattle.mdb_pool.specs.declared.kept.status.Status.{Status}
use Rattle.mdb_pool.specs.declared.kept.status.Status.TheVariants.{Closed}
use Rattle.mdb_log.specs.History.{Item, did, PoolItem, gave_up, returned, pinned_by, established, failed, replicated, taken, unpinned, is_number, given, has_asked, if_so, after_act, after_facts, of_pool, open_pool, with_act, with_answer, opening}
use Rattle.mdb_log.specs.Connections.{available_list, holding, pins, is_pinned, granted_to}
use Rattle.mdb_log.specs.Requests.{queued, end_of}
use Rattle.mdb_log.specs.State.{State, is_closed, state_of, min_size}
use Rattle.mdb_pool_rules.specs.Facts.{check_in, come_back, overdue, sweep, fill, act_facts}
use Rattle.mdb_pool_rules.specs.Serving.{serving}
use Rattle.mdb_pool_rules.specs.Refusal.{refusal_of}
use Rattle.mdb_pool_rules.specs.Answer.{all_facts, answer, answered}
use Rattle.mdb_pool.specs.Kept.Values.{state_in}
use Rattle.mdb_pool.specs.Standing.{StandsFor}
use Rattle.mdb_pool_rules.specs.Quiet.{IsQuiet}
use Rattle.mdb_pool_rules.proofs.KeptByFacts.{AreGentle, quiet-if, quiet-facts, gentle-append, gentle-if, check_in-gentle, come_back-gentle, hand-gentle, fail-gentle, ends-gentle, sweep-gentle, fill-gentle, readied-gentle, serve-gentle}
use Rattle.mdb_pool.proofs.NothingServed.NobodyQueued.{clear-quiet, close-quiet, asked-quiet, warmed-quiet}
use Rattle.mdb_log.proofs.Later.{of_pool-with_facts, after-append}
use Rattle.mdb_log.proofs.Numbers.{same-number}

-- xs is what the pool knew before the act; it is open nowhere once it is closed
module _ (p : ℕ) (a : ServerAddress) (o : PoolOptions) (m : ℕ) (here : ServerAddress → Option ℕ) (xs : List PoolItem) (unshut : (b : ServerAddress) → is_number (here b) p ≡ true → state_of o xs ≢ is_closed) (i : IsQuiet o xs) where
  -- what the pool knows with the act, and the facts of it
  abbrev knows : Act → List PoolItem
  knows does = after_act p here m does xs

  abbrev makes : Act → List Fact
  makes does = act_facts p a o m xs (knows does) does

  -- an item that leaves the queue
  kept : (b : Bool) (x : PoolItem) → IsQuiet o (x ∷ xs) → IsQuiet o (if_so b x xs)
  kept b x j = quiet-if p o m b x xs i j

  -- an act whose facts are gentle
  calmly : (does : Act) → AreGentle (makes does) → IsQuiet o (knows does) → IsQuiet o (after_facts p m (makes does) (knows does))
  calmly does g j = quiet-facts p o m (makes does) (knows does) g j

  by_act : (does : Act) → IsQuiet o (after_facts p m (makes does) (knows does))
  by_act (act.Request r b) = asked-quiet p a m o xs i r m (is_number (here b) p) (unshut b)
  by_act (act.Warm r b) = warmed-quiet p a m o xs i r m (is_number (here b) p) (unshut b)
  by_act (act.GiveUp r) = calmly (act.GiveUp r) (gentle-if (is_some (end_of xs r)) [] (Ended r GaveUp ∷ come_back p a o (knows (act.GiveUp r)) (holding xs r)) tt (tt, come_back-gentle p a o m (knows (act.GiveUp r)) (holding xs r))) (kept (has_asked xs r) (gave_up r) i)
  by_act (act.Established q c how) = calmly (act.Established q c how) (tt, hand-gentle p a o m (knows (act.Established q c how)) c (granted_to (knows (act.Established q c how)) c)) (kept (q == p) (established c how m) i)
  by_act (act.Failed q c Pre error) = calmly (act.Failed q c Pre error) (tt, fail-gentle p a o m (knows (act.Failed q c Pre error)) error (granted_to (knows (act.Failed q c Pre error)) c)) (kept (q == p) (failed c None) i)
  by_act (act.Failed q c (Post service) error) = calmly (act.Failed q c (Post service) error) (tt, fail-gentle p a o m (knows (act.Failed q c (Post service) error)) error (granted_to (knows (act.Failed q c (Post service) error)) c)) (kept (q == p) (failed c service) i)
  by_act (act.Return r used) = calmly (act.Return r used) (come_back-gentle p a o m (knows (act.Return r used)) (holding xs r)) (kept (is_some (given xs r)) (returned r used) i)
  by_act (act.Pin r) = kept (is_some (given xs r)) (pinned_by r) i
  by_act (act.Replicate q c) = kept (q == p) (replicated c) i
  by_act (act.Take r q c) = kept (q == p) (taken r c) i
  by_act (act.Unpin q c) = calmly (act.Unpin q c) (gentle-if (is_pinned xs c && (pins (knows (act.Unpin q c)) c == 0)) (check_in p a o (knows (act.Unpin q c)) c) [] (check_in-gentle p a o m (knows (act.Unpin q c)) c) tt) (kept (q == p) (unpinned c) i)
  by_act (act.Maintain b) = calmly (act.Maintain b) (gentle-append (sweep p a o m xs (available_list xs)) (fill p a o m (min_size o) (after_facts p m (sweep p a o m xs (available_list xs)) xs)) (sweep-gentle p a o m xs (available_list xs)) (fill-gentle p a o m (min_size o) (after_facts p m (sweep p a o m xs (available_list xs)) xs))) i
  by_act (act.Expire b) = calmly (act.Expire b) (ends-gentle p a o m xs TimedOut (overdue o m xs)) i
  by_act (act.Ready q) = calmly (act.Ready q) (readied-gentle p a o m xs) i
  by_act (act.Clear q service error) = clear-quiet p a m o xs i service error
  by_act (act.Close q) = close-quiet p a m o xs i
  by_act _ = i

  -- with the serving
  pub act-quiet : (does : Act) → IsQuiet o (after_facts p m (all_facts p a o m xs (after_act p here m does xs) does) (after_act p here m does xs))
  act-quiet does =
      let ys : List PoolItem = after_act p here m does xs in
      let fs : List Fact = act_facts p a o m xs ys does in
      let zs : List PoolItem = after_facts p m fs ys in
      subst (IsQuiet o) (sym (after-append p m fs (serving p a o m zs) ys)) (quiet-facts p o m (serving p a o m zs) zs (serve-gentle p a o m (length (queued zs) + length (available_list zs)) zs) (by_act does))

-- a pool that was just made has nobody queued
pub opening-quiet : (p : ℕ) (a : ServerAddress) (o : PoolOptions) → IsQuiet o (of_pool p (opening p a o))
opening-quiet p a o k = rw (same-number p) refl

none-here : (b : Bool) (p : ℕ) → (if b && not true then Some p else None) ≡ None
none-here true p = refl
none-here false p = refl

-- where the state of a pool stands for a history, a pool that is open somewhere is not closed
pub open-unclosed : (s : PoolCore) (h : List Item) → StandsFor s h → (b : ServerAddress) → is_number (open_pool h b) s.pool ≡ true → state_of s.options (of_pool s.pool h) ≢ is_closed
unfolding queries
open-unclosed s h z b e f = on s.kept.status refl
  where
    on : (u : Status) → s.kept.status ≡ u → ⊥
    on Closed g =
        let k : open_pool h b ≡ None = z.open_here b ∙ rw g (none-here (same_address s.address b) s.pool) in
        let l : is_number (open_pool h b) s.pool ≡ false = rw k refl in
        cc
    on _ g = let k : state_in s.kept.status ≡ is_closed = sym z.fits.matches.clearing.status ∙ f in let l : ◌≡◌ {A = State} _ is_closed = rw g at k in cc

-- an answer keeps a pool quiet
pub answer-quiet : (s : PoolCore) (h : List Item) (step : Step) → StandsFor s h → IsQuiet s.options (of_pool s.pool h)
    → IsQuiet s.options (of_pool s.pool (with_answer step (answer s.pool s.address s.options h step).reply (answer s.pool s.address s.options h step).facts h))
answer-quiet s h step z i = on (refusal_of s.pool s.options h step)
  where
    p : ℕ
    p = s.pool

    xs : List PoolItem
    xs = of_pool p h

    facts : List Fact
    facts = all_facts p s.address s.options step.moment xs (with_act p h step) step.act

    later : IsQuiet s.options (after_facts p step.moment facts (with_act p h step))
    later = act-quiet p s.address s.options step.moment (open_pool h) xs (open-unclosed s h z) i step.act

    by_reply : (reply : Reply) → IsQuiet s.options (of_pool p (with_answer step reply facts h))
    by_reply (RefusedBy why) = i
    by_reply reply = subst (IsQuiet s.options) (sym (of_pool-with_facts p step.moment facts (did step reply ∷ h))) later

    on : (k : Option Refused) → IsQuiet s.options (of_pool p (with_answer step (answered p s.address s.options h step k).reply (answered p s.address s.options h step k).facts h))
    on (Some why) = i
    on None = by_reply (answered p s.address s.options h step None).reply
