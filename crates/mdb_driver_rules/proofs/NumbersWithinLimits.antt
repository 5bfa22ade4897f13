-- The facts of an act in its pool, and of the serving, take no number past a limit.
use Rattle.std.proofs.Common.{ℕ, zero, suc, ◌≡◌, ◌+◌, ◌==◌, ◌&&◌, ◌||◌, Bool, true, false, List, [], ◌∷◌, ◌++◌, length, Option, Some, None, is_some, nat_lt, refl, sym, ◌∙◌}
use Rattle.std.specs.Prelude.{⊤}
use Rattle.std.specs.List.{list_any}
use Rattle.mdb_base.specs.declared.address.ServerAddress.{ServerAddress}
use Rattle.mdb_base.specs.declared.options.Options.{Options}
use Rattle.mdb_base.specs.declared.error.Error.{Error}
use Rattle.mdb_events.specs.declared.end.End.{End}
use Rattle.mdb_events.specs.declared.fact.Fact.{Fact}
use Rattle.mdb_events.specs.declared.fact.Fact.TheVariants.{Opened, Pool, Ended, Raised, Sdam}
use Rattle.mdb_events.specs.declared.cmap.CmapEvent.TheVariants.{PoolClosed}
use Rattle.mdb_events.specs.declared.sdam.SdamEvent.TheVariants.{ServerHeartbeatStarted}
use Rattle.mdb_events.specs.declared.end.End.TheVariants.{Filled, TimedOut, Failed as FailedEnd}
use Rattle.mdb_events.specs.declared.reasons.ConnectionClosedReason.{ConnectionClosedReason}
use Rattle.mdb_log.specs.declared.options.PoolOptions.{PoolOptions}
use Rattle.mdb_log.specs.declared.step.Act.{Act}
use Rattle.mdb_log.specs.declared.step.Act.TheVariants.{Request, Warm, Maintain, Expire, GiveUp, Established, Failed, Return, Unpin, Ready, Clear, Close}
use Rattle.mdb_log.specs.History.{Item, PoolItem, made, after_facts, with_facts, open_pool}
use Rattle.mdb_log.specs.Connections.{available_list, created_total, live_total, pending_list, holding, pins, is_pinned, granted_to}
use Rattle.mdb_log.specs.Requests.{is_warm, end_of}
use Rattle.mdb_log.specs.State.{State, is_new, is_ready, is_paused, is_closed, state_of, ready, min_size, max_connecting}
use Rattle.mdb_pool_rules.specs.Facts.{closes, close_reason, perished, overdue, end_facts, all_ends, check_in, come_back, hand_over, fail_requester, turned_away, sweep, fill, created_fact, act_facts}
use Rattle.mdb_pool_rules.specs.Serving.{next_move, serve, serving}
use Rattle.mdb_pool_rules.proofs.Fair.{Move, nothing, closing, granting, creating, warming, move-of}
use Rattle.mdb_driver_rules.specs.OfServers.{is_of_server}
use Rattle.mdb_driver_rules.specs.Refusal.{past_limit, first_past}

-- a fact that takes a number
abbrev pub takes_number : Fact → Bool
takes_number (Opened p a) = true
takes_number (Raised p s e) = true
takes_number (Sdam (ServerHeartbeatStarted e)) = true
takes_number _ = false

abbrev pub take_numbers : List Fact → Bool
take_numbers facts = list_any takes_number facts

-- a fact that takes none passes no limit
pub free-past : (o : Options) (k : List Item) (f : Fact) → takes_number f ≡ false → past_limit o k f ≡ None
free-past o k (Opened p a) e = cc
free-past o k (Raised p s error) e = cc
free-past o k (Sdam (ServerHeartbeatStarted event)) e = cc
free-past o k _ e = refl

pub first-free : (o : Options) (m : ℕ) (k : List Item) (fs : List Fact) → take_numbers fs ≡ false → first_past o m k fs ≡ None
first-free o m k [] e = refl
first-free o m k (f ∷ fs) e = on (takes_number f) refl e (first-free o m (made m f ∷ k) fs)
  where
    on : (b : Bool) → takes_number f ≡ b → take_numbers (f ∷ fs) ≡ false → (take_numbers fs ≡ false → first_past o m (made m f ∷ k) fs ≡ None) → first_past o m k (f ∷ fs) ≡ None
    on true g d rest = let w : take_numbers (f ∷ fs) ≡ true = rw g refl in let t : true ≡ false = sym w ∙ d in cc
    on false g d rest = let w : take_numbers fs ≡ false = sym (rw g refl) ∙ d in rw (free-past o k f g) (rest w)

pub free-append : (fs gs : List Fact) → take_numbers (fs ++ gs) ≡ take_numbers fs || take_numbers gs
free-append [] gs = refl
free-append (f ∷ fs) gs = on (takes_number f) refl (free-append fs gs)
  where
    on : (b : Bool) → takes_number f ≡ b → take_numbers (fs ++ gs) ≡ take_numbers fs || take_numbers gs → take_numbers ((f ∷ fs) ++ gs) ≡ take_numbers (f ∷ fs) || take_numbers gs
    on true e rest = rw e refl
    on false e rest = rw e rest

abbrev pub any_out : List Fact → Bool
any_out facts = list_any is_of_server facts

pub out-append : (fs gs : List Fact) → any_out (fs ++ gs) ≡ any_out fs || any_out gs
out-append [] gs = refl
out-append (f ∷ fs) gs = on (is_of_server f) refl (out-append fs gs)
  where
    on : (b : Bool) → is_of_server f ≡ b → any_out (fs ++ gs) ≡ any_out fs || any_out gs → any_out ((f ∷ fs) ++ gs) ≡ any_out (f ∷ fs) || any_out gs
    on true e rest = rw e refl
    on false e rest = rw e rest

-- facts of which none is of a server take no number, and leave the open pools
pub out-free : (fs : List Fact) → any_out fs ≡ false → take_numbers fs ≡ false
out-free [] e = refl
out-free (f ∷ fs) e = on (is_of_server f) refl e (out-free fs)
  where
    one : (f : Fact) → is_of_server f ≡ false → takes_number f ≡ false
    one (Pool p (PoolClosed v)) e = refl
    one (Pool p _) e = refl
    one (Opened p a) e = e
    one (Raised p s error) e = e
    one (Sdam v) e = cc
    one _ e = refl

    on : (b : Bool) → is_of_server f ≡ b → any_out (f ∷ fs) ≡ false → (any_out fs ≡ false → take_numbers fs ≡ false) → take_numbers (f ∷ fs) ≡ false
    on true g d rest = let w : any_out (f ∷ fs) ≡ true = rw g refl in let t : true ≡ false = sym w ∙ d in cc
    on false g d rest = let w : any_out fs ≡ false = sym (rw g refl) ∙ d in rw (one f g) (rest w)

pub out-open : (m : ℕ) (a : ServerAddress) (fs : List Fact) (k : List Item) → any_out fs ≡ false → open_pool (with_facts m fs k) a ≡ open_pool k a
out-open m a [] k e = refl
out-open m a (f ∷ fs) k e = on (is_of_server f) refl e (out-open m a fs (made m f ∷ k))
  where
    one : (f : Fact) → is_of_server f ≡ false → open_pool (made m f ∷ k) a ≡ open_pool k a
    one (Opened p b) e = cc
    one (Pool p (PoolClosed v)) e = cc
    one (Pool p _) e = refl
    one _ e = refl

    on : (b : Bool) → is_of_server f ≡ b → any_out (f ∷ fs) ≡ false → (any_out fs ≡ false → open_pool (with_facts m fs (made m f ∷ k)) a ≡ open_pool (made m f ∷ k) a) → open_pool (with_facts m (f ∷ fs) k) a ≡ open_pool k a
    on true g d rest = let w : any_out (f ∷ fs) ≡ true = rw g refl in let t : true ≡ false = sym w ∙ d in cc
    on false g d rest = let w : any_out fs ≡ false = sym (rw g refl) ∙ d in rest w ∙ one f g

-- an act that neither clears nor closes
abbrev pub IsTame : Act → Type 0
IsTame (Ready q) = ⊥
IsTame (Clear q s e) = ⊥
IsTame (Close q) = ⊥
IsTame _ = ⊤

module _ (p : ℕ) (a : ServerAddress) (o : PoolOptions) (m : ℕ) where
  closes-free : (xs : List PoolItem) (c : ℕ) (why : Option ConnectionClosedReason) → any_out (closes p a xs c why) ≡ false
  closes-free xs c None = refl
  closes-free xs c (Some why) = refl

  check-in-free : (xs : List PoolItem) (c : ℕ) → any_out (check_in p a o xs c) ≡ false
  check-in-free xs c = on (state_of o xs) refl
    where
      on : (t : State) → state_of o xs ≡ t → any_out (check_in p a o xs c) ≡ false
      on is_new e = rw e (closes-free xs c (close_reason o xs c))
      on is_ready e = rw e (closes-free xs c (close_reason o xs c))
      on (is_paused error) e = rw e (closes-free xs c (close_reason o xs c))
      on is_closed e = rw e refl

  come-back-free : (xs : List PoolItem) (c : Option ℕ) → any_out (come_back p a o xs c) ≡ false
  come-back-free xs None = refl
  come-back-free xs (Some c) = on (nat_lt 0 (pins xs c)) refl
    where
      on : (b : Bool) → nat_lt 0 (pins xs c) ≡ b → any_out (come_back p a o xs (Some c)) ≡ false
      on true e = rw e refl
      on false e = rw e (check-in-free xs c)

  ends-free : (xs : List PoolItem) (r : ℕ) (end : End) → any_out (end_facts p a m xs r end) ≡ false
  ends-free xs r end = on (is_warm xs r) refl
    where
      on : (b : Bool) → is_warm xs r ≡ b → any_out (end_facts p a m xs r end) ≡ false
      on true e = rw e refl
      on false e = rw e refl

  pub all-ends-free : (xs : List PoolItem) (end : End) (rs : List ℕ) → any_out (all_ends p a m xs end rs) ≡ false
  all-ends-free xs end [] = refl
  all-ends-free xs end (r ∷ rs) = out-append (end_facts p a m xs r end) (all_ends p a m xs end rs) ∙ rw (ends-free xs r end) (all-ends-free xs end rs)

  turned-free : (xs : List PoolItem) (r : ℕ) → any_out (turned_away p a o m xs r) ≡ false
  turned-free xs r = on (state_of o xs) refl
    where
      on : (t : State) → state_of o xs ≡ t → any_out (turned_away p a o m xs r) ≡ false
      on is_new e = rw e (ends-free xs r _)
      on is_ready e = rw e refl
      on (is_paused error) e = rw e (ends-free xs r _)
      on is_closed e = rw e refl

  more-free : (fs : List Fact) (r : ℕ) → any_out fs ≡ false → any_out (fs ++ Ended r Filled ∷ []) ≡ false
  more-free [] r e = refl
  more-free (f ∷ fs) r e = on (is_of_server f) refl e (more-free fs r)
    where
      on : (b : Bool) → is_of_server f ≡ b → any_out (f ∷ fs) ≡ false → (any_out fs ≡ false → any_out (fs ++ Ended r Filled ∷ []) ≡ false) → any_out ((f ∷ fs) ++ Ended r Filled ∷ []) ≡ false
      on true g k rest = let w : any_out (f ∷ fs) ≡ true = rw g refl in cc
      on false g k rest = let d : any_out fs ≡ false = sym (rw g refl) ∙ k in rw g (rest d)

  hand-free : (xs : List PoolItem) (c : ℕ) (r : Option ℕ) → any_out (hand_over p a o m xs c r) ≡ false
  hand-free xs c None = refl
  hand-free xs c (Some r) = on (is_some (end_of xs r)) (is_warm xs r) refl refl
    where
      on : (b k : Bool) → is_some (end_of xs r) ≡ b → is_warm xs r ≡ k → any_out (hand_over p a o m xs c (Some r)) ≡ false
      on true k e f = rw e (check-in-free xs c)
      on false true e f = rw (e, f) (more-free (check_in p a o xs c) r (check-in-free xs c))
      on false false e f = rw (e, f) refl

  give-up-free : (xs ys : List PoolItem) (r : ℕ) → any_out (act_facts p a o m xs ys (GiveUp r)) ≡ false
  give-up-free xs ys r = on (is_some (end_of xs r)) refl
    where
      on : (b : Bool) → is_some (end_of xs r) ≡ b → any_out (act_facts p a o m xs ys (GiveUp r)) ≡ false
      on true e = rw e refl
      on false e = rw e (come-back-free ys (holding xs r))

  fail-free : (xs : List PoolItem) (error : Error) (r : Option ℕ) → any_out (fail_requester p a o m xs error r) ≡ false
  fail-free xs error None = refl
  fail-free xs error (Some r) = on (is_some (end_of xs r)) refl
    where
      on : (b : Bool) → is_some (end_of xs r) ≡ b → any_out (fail_requester p a o m xs error (Some r)) ≡ false
      on true e = rw e refl
      on false e = rw e (ends-free xs r (FailedEnd error))

  sweep-free : (xs : List PoolItem) (cs : List ℕ) → any_out (sweep p a o m xs cs) ≡ false
  sweep-free xs [] = refl
  sweep-free xs (c ∷ cs) = on (perished o m xs c) refl (sweep-free xs cs)
    where
      on : (w : Option ConnectionClosedReason) → perished o m xs c ≡ w → any_out (sweep p a o m xs cs) ≡ false → any_out (sweep p a o m xs (c ∷ cs)) ≡ false
      on None e rest = rw e rest
      on (Some why) e rest = rw e rest

  abbrev may : List PoolItem → Bool
  may ys = ready (state_of o ys) && (nat_lt (live_total ys) (min_size o) && (nat_lt (length (pending_list ys)) (max_connecting o) && nat_lt (created_total ys) o.limit_id))

  fill-free : (k : ℕ) (ys : List PoolItem) → any_out (fill p a o m k ys) ≡ false
  fill-free zero ys = refl
  fill-free (suc k) ys = on (may ys) refl (fill-free k (after_facts p m (created_fact p a (created_total ys + 1) ∷ []) ys))
    where
      on : (b : Bool) → may ys ≡ b → any_out (fill p a o m k (after_facts p m (created_fact p a (created_total ys + 1) ∷ []) ys)) ≡ false → any_out (fill p a o m (suc k) ys) ≡ false
      on true e rest = rw e rest
      on false e rest = rw e refl

  move-free : (xs : List PoolItem) → Move p a o m xs → any_out (next_move p a o m xs) ≡ false
  move-free xs (nothing e s) = rw e refl
  move-free xs (closing c why e i) = rw e refl
  move-free xs (granting r c e i f) = rw e refl
  move-free xs (creating r e i f) = rw e refl
  move-free xs (warming r e i) = rw e refl

  serve-free : (k : ℕ) (xs : List PoolItem) → any_out (serve p a o m k xs) ≡ false
  serve-free zero xs = refl
  serve-free (suc k) xs = out-append (next_move p a o m xs) (serve p a o m k (after_facts p m (next_move p a o m xs) xs)) ∙ rw (move-free xs (move-of p a o m xs)) (serve-free k (after_facts p m (next_move p a o m xs) xs))

  pub serving-free : (xs : List PoolItem) → any_out (serving p a o m xs) ≡ false
  serving-free xs = serve-free _ xs

  pub act-free : (xs ys : List PoolItem) (act : Act) → IsTame act → any_out (act_facts p a o m xs ys act) ≡ false
  act-free xs ys (Request r b) e = turned-free ys r
  act-free xs ys (Warm r b) e = turned-free ys r
  act-free xs ys (Maintain b) e = out-append (sweep p a o m ys (available_list ys)) (fill p a o m (min_size o) (after_facts p m (sweep p a o m ys (available_list ys)) ys)) ∙ rw (sweep-free ys (available_list ys)) (fill-free (min_size o) (after_facts p m (sweep p a o m ys (available_list ys)) ys))
  act-free xs ys (Expire b) e = all-ends-free ys TimedOut (overdue o m ys)
  act-free xs ys (GiveUp r) e = give-up-free xs ys r
  act-free xs ys (Established q c how) e = hand-free ys c (granted_to ys c)
  act-free xs ys (Failed q c at error) e = fail-free ys error (granted_to ys c)
  act-free xs ys (Return r used) e = come-back-free ys (holding xs r)
  act-free xs ys (Unpin q c) e = on (is_pinned xs c && (pins ys c == 0)) refl
    where
      on : (b : Bool) → is_pinned xs c && (pins ys c == 0) ≡ b → any_out (act_facts p a o m xs ys (Unpin q c)) ≡ false
      on true f = rw f (check-in-free ys c)
      on false f = rw f refl
  act-free xs ys (Ready q) e = absurd e
  act-free xs ys (Clear q s error) e = absurd e
  act-free xs ys (Close q) e = absurd e
  act-free xs ys _ e = refl
