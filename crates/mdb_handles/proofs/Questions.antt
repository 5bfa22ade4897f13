-- What the questions of a check-out add up to.
use Rattle.std.proofs.Common.{◌≡◌, ℕ, List, [], ◌∷◌, ◌++◌, append-nil, sym, subst, ap, ◌∙◌, IsTrue, Result, Ok, Err, inl, inr}
use Rattle.mdb_base.specs.declared.address.ServerAddress.{ServerAddress}
use Rattle.mdb_log.specs.declared.log.Entry.{Entry}
use Rattle.mdb_events.specs.declared.end.End.{End}
use Rattle.mdb_log.specs.declared.pooled.PooledConnection.{PooledConnection}
use Rattle.mdb_log.specs.declared.step.Act.TheVariants.{Request, Collect, GiveUp}
use Rattle.mdb_log.specs.declared.reply.Refused.TheVariants.{UnknownRequest}
use Rattle.mdb_log.specs.declared.reply.Reply.TheVariants.{Refused as IsRefused}
use Rattle.mdb_log.specs.declared.reply.Refused.{Refused as WhyRefused}
use Rattle.mdb_log.specs.declared.reply.Reply.{Reply}
use Rattle.mdb_shared.specs.Checkout.{is_pending, told_by, Names}
use Rattle.mdb_shared.specs.declared.checkout.Poll.{Poll}
use Rattle.mdb_shared.specs.declared.checkout.Poll.TheVariants.{Ready, NotYet, Ended as PollEnded, Refused as PollRefused}
use Rattle.mdb_turns.specs.Stepping.{SeatView}
use Rattle.mdb_shared.specs.Seats.{Each, HasCore}
use Rattle.mdb_handles.specs.declared.asking.CheckOutError.{CheckOutError}
use Rattle.mdb_handles.specs.declared.asking.CheckOutError.TheVariants.{Ended, Refused, OutOfTime, GaveUp, OutOfMemory}
use Rattle.mdb_handles.specs.CheckingOut.{Tells, IsOpen, Asks, AskFor, Requests, SeesGivenUp, Settled, LeftBy, TellsWhy}
use Rattle.mdb_workers.specs.Making.{Made, OneMore}
use Rattle.mdb_workers.proofs.Adding.{each_more, made_none, made_then}

-- an entry whose reply is the poll's tells what the poll tells
module _ (request : ℕ) (e : Entry) (poll : Poll) (told : e.reply ≡ told_by poll) where
  tells_ready : (connection : PooledConnection) → poll ≡ Ready connection → Names request poll → Tells request e (Ok connection)
  tells_ready connection is names = let n : Names request (Ready connection) = subst (Names request) is names in (told ∙ ap told_by is, n)

  tells_ended : (end : End) → poll ≡ PollEnded end → Tells request e (Err (Ended end))
  tells_ended end is = told ∙ ap told_by is

  tells_refused : (why : WhyRefused) → poll ≡ PollRefused why → Tells request e (Err (Refused why))
  tells_refused why is = told ∙ ap told_by is

  -- the request is still open
  still_open : (reply : Reply) → poll ≡ NotYet reply → Names request poll → IsOpen e
  still_open reply is names =
      let n : Names request (NotYet reply) = subst (Names request) is names in
      subst (λ (r : Reply). IsTrue (is_pending r)) (sym (told ∙ ap told_by is)) n

module _ {T : Type 0} (stands : T → List Entry → Type 0) (MayEnd : Type 0) (request : ℕ) where
  -- what was asked so far, while the request is open
  abbrev pub Asked : SeatView → SeatView → Type 0
  Asked s s' = (es : List Entry) × Made stands s s' es × AskFor MayEnd request es × Each IsOpen es

  pub asked_none : (s : SeatView) → Asked s s
  asked_none s = ([], made_none stands s, tt, tt)

  -- the seat has seen more, and added nothing
  pub asked_later : (s t u : SeatView) → Asked s t → Made stands t u [] → Asked s u
  asked_later s t u a none = (a.0, subst (Made stands s u) (append-nil a.0) (made_then stands s t u a.0 [] a.1 none), a.2, a.3)

  -- the last entry tells the answer
  settles : (Kind : List Entry → Type 0) (s s' : SeatView) (es : List Entry) (e : Entry) (answer : Result PooledConnection CheckOutError)
      → Made stands s s' (es ++ e ∷ []) → Kind (es ++ e ∷ []) → Each IsOpen es → Tells request e answer → Settled stands Kind request s s' answer
  settles Kind s s' es e (Ok connection) made kind waits told = (es, e, made, kind, waits, told)
  settles Kind s s' es e (Err (Ended end)) made kind waits told = (es, e, made, kind, waits, told)
  settles Kind s s' es e (Err (Refused why)) made kind waits told = (es, e, made, kind, waits, told)
  settles Kind s s' es e (Err OutOfTime) made kind waits told = (es, e, made, kind, waits, told)
  settles Kind s s' es e (Err GaveUp) made kind waits told = absurd told
  settles Kind s s' es e (Err OutOfMemory) made kind waits told = absurd told

  -- one entry more, and its answer
  asked_last : (s t u : SeatView) (e : Entry) (answer : Result PooledConnection CheckOutError) → Asked s t → Made stands t u (e ∷ []) → Asks MayEnd request e → Tells request e answer → Settled stands (AskFor MayEnd request) request s u answer
  asked_last s t u e answer a made asks told = settles (AskFor MayEnd request) s u a.0 e answer (made_then stands s t u a.0 (e ∷ []) a.1 made) (each_more (Asks MayEnd request) a.0 (e ∷ []) a.2 (asks, tt)) a.3 told

  -- the time is over, and the request was given up
  pub asked_left : MayEnd → (s t u : SeatView) (answer : Result PooledConnection CheckOutError) → Asked s t → LeftBy stands request t u answer → Settled stands (AskFor MayEnd request) request s u answer
  asked_left may s t u (Ok connection) a l = asked_last s t u l.0 (Ok connection) a l.1 (inr (may, l.2)) l.3
  asked_left may s t u (Err (Ended end)) a l = asked_last s t u l.0 (Err (Ended end)) a l.1 (inr (may, l.2)) l.3
  asked_left may s t u (Err (Refused why)) a l = asked_last s t u l.0 (Err (Refused why)) a l.1 (inr (may, l.2)) l.3
  asked_left may s t u (Err OutOfTime) a l = asked_last s t u l.0 (Err OutOfTime) a l.1 (inr (may, l.2)) l.3
  asked_left may s t u (Err GaveUp) a l = (a.0, l.0 ∷ [], made_then stands s t u a.0 (l.0 ∷ []) a.1 l.1, each_more (Asks MayEnd request) a.0 (l.0 ∷ []) a.2 (inr (may, l.2), tt), a.3, l.3, l.4)
  asked_left may s t u (Err OutOfMemory) a l = asked_later s t u a l

  -- another seat gave it up
  pub asked_given_up : (s t : SeatView) → Asked s t → SeesGivenUp stands request t → Settled stands (AskFor MayEnd request) request s t (Err GaveUp)
  asked_given_up s t a given = let none = append-nil a.0 in (a.0, [], subst (Made stands s t) (sym none) a.1, subst (AskFor MayEnd request) (sym none) a.2, a.3, tt, given)

  -- there was no memory for the question
  pub asked_no_more : (s t u : SeatView) → Asked s t → Made stands t u [] → Settled stands (AskFor MayEnd request) request s u (Err OutOfMemory)
  asked_no_more s t u a none = asked_later s t u a none

  -- the giving up was refused, and then a look
  pub left_refused : (t u v : SeatView) (reply : Reply) (why : WhyRefused) (error : CheckOutError) → OneMore stands t u (GiveUp request) reply → reply ≡ IsRefused why → Made stands u v [] → TellsWhy stands request why v error
      → LeftBy stands request t v (Err error)
  left_refused t u v reply why (Refused told) one is saw tells = (one.0, made_then stands t u v (one.0 ∷ []) [] one.3 saw, one.1, one.2 ∙ (is ∙ ap IsRefused (sym tells)))
  left_refused t u v reply why GaveUp one is saw tells = (one.0, made_then stands t u v (one.0 ∷ []) [] one.3 saw, one.1, one.2 ∙ (is ∙ ap IsRefused tells.0), tells.1)
  left_refused t u v reply why (Ended end) one is saw tells = absurd tells
  left_refused t u v reply why OutOfTime one is saw tells = absurd tells
  left_refused t u v reply why OutOfMemory one is saw tells = absurd tells

  -- A poll.
  module _ (s t u : SeatView) (poll : Poll) (a : Asked s t) (one : OneMore stands t u (Collect request) (told_by poll)) where
    pub asked_again : (reply : Reply) → poll ≡ NotYet reply → Names request poll → Asked s u
    asked_again reply is names = (
      a.0 ++ one.0 ∷ [],
      made_then stands s t u a.0 (one.0 ∷ []) a.1 one.3,
      each_more (Asks MayEnd request) a.0 (one.0 ∷ []) a.2 (inl one.1, tt),
      each_more IsOpen a.0 (one.0 ∷ []) a.3 (still_open request one.0 poll one.2 reply is names, tt),
    )

    pub asked_ready : (connection : PooledConnection) → poll ≡ Ready connection → Names request poll → Settled stands (AskFor MayEnd request) request s u (Ok connection)
    asked_ready connection is names = asked_last s t u one.0 (Ok connection) a one.3 (inl one.1) (tells_ready request one.0 poll one.2 connection is names)

    pub asked_ended : (end : End) → poll ≡ PollEnded end → Settled stands (AskFor MayEnd request) request s u (Err (Ended end))
    asked_ended end is = asked_last s t u one.0 (Err (Ended end)) a one.3 (inl one.1) (tells_ended request one.0 poll one.2 end is)

    -- refused, and then a look
    pub asked_refused : (v : SeatView) (why : WhyRefused) (error : CheckOutError) → poll ≡ PollRefused why → Made stands u v [] → TellsWhy stands request why v error → Settled stands (AskFor MayEnd request) request s v (Err error)
    asked_refused v why (Refused told) is saw tells =
        asked_last s t v one.0 (Err (Refused told)) a (made_then stands t u v (one.0 ∷ []) [] one.3 saw) (inl one.1) (one.2 ∙ (ap told_by is ∙ ap IsRefused (sym tells)))
    asked_refused v why GaveUp is saw tells = (
      a.0,
      one.0 ∷ [],
      made_then stands s t v a.0 (one.0 ∷ []) a.1 (made_then stands t u v (one.0 ∷ []) [] one.3 saw),
      each_more (Asks MayEnd request) a.0 (one.0 ∷ []) a.2 (inl one.1, tt),
      a.3,
      one.2 ∙ (ap told_by is ∙ ap IsRefused tells.0),
      tells.1,
    )
    asked_refused v why (Ended end) is saw tells = absurd tells
    asked_refused v why OutOfTime is saw tells = absurd tells
    asked_refused v why OutOfMemory is saw tells = absurd tells

  -- there was no memory for the request
  pub never_asked : (address : ServerAddress) (s t u : SeatView) → Made stands s t [] → Made stands t u [] → Settled stands (Requests MayEnd request address) request s u (Err OutOfMemory)
  never_asked address s t u m k = ([], made_then stands s t u [] [] m k, tt, tt)

  module _ (address : ServerAddress) (s t u : SeatView) (poll : Poll) (none : Made stands s t []) (one : OneMore stands t u (Request request address) (told_by poll)) where
    first : Made stands s u (one.0 ∷ [])
    first = made_then stands s t u [] (one.0 ∷ []) none one.3

    -- the request alone settles it
    settled_at_once : (answer : Result PooledConnection CheckOutError) → Tells request one.0 answer → Settled stands (Requests MayEnd request address) request s u answer
    settled_at_once answer told = settles (Requests MayEnd request address) s u [] one.0 answer first (one.1, tt) tt told

    pub settled_ready : (connection : PooledConnection) → poll ≡ Ready connection → Names request poll → Settled stands (Requests MayEnd request address) request s u (Ok connection)
    settled_ready connection is names = settled_at_once (Ok connection) (tells_ready request one.0 poll one.2 connection is names)

    pub settled_ended : (end : End) → poll ≡ PollEnded end → Settled stands (Requests MayEnd request address) request s u (Err (Ended end))
    settled_ended end is = settled_at_once (Err (Ended end)) (tells_ended request one.0 poll one.2 end is)

    pub settled_refused : (why : WhyRefused) → poll ≡ PollRefused why → Settled stands (Requests MayEnd request address) request s u (Err (Refused why))
    settled_refused why is = settled_at_once (Err (Refused why)) (tells_refused request one.0 poll one.2 why is)

    -- the request, and then its questions
    settled_later : (v : SeatView) (answer : Result PooledConnection CheckOutError) → IsOpen one.0 → Settled stands (AskFor MayEnd request) request u v answer → Settled stands (Requests MayEnd request address) request s v answer
    settled_later v (Ok connection) waits t = (one.0 ∷ t.0, t.1, made_then stands s u v (one.0 ∷ []) (t.0 ++ t.1 ∷ []) first t.2, (one.1, t.3), (waits, t.4), t.5)
    settled_later v (Err (Ended end)) waits t = (one.0 ∷ t.0, t.1, made_then stands s u v (one.0 ∷ []) (t.0 ++ t.1 ∷ []) first t.2, (one.1, t.3), (waits, t.4), t.5)
    settled_later v (Err (Refused why)) waits t = (one.0 ∷ t.0, t.1, made_then stands s u v (one.0 ∷ []) (t.0 ++ t.1 ∷ []) first t.2, (one.1, t.3), (waits, t.4), t.5)
    settled_later v (Err OutOfTime) waits t = (one.0 ∷ t.0, t.1, made_then stands s u v (one.0 ∷ []) (t.0 ++ t.1 ∷ []) first t.2, (one.1, t.3), (waits, t.4), t.5)
    settled_later v (Err GaveUp) waits t = (one.0 ∷ t.0, t.1, made_then stands s u v (one.0 ∷ []) (t.0 ++ t.1) first t.2, (one.1, t.3), (waits, t.4), t.5, t.6)
    settled_later v (Err OutOfMemory) waits t = (one.0 ∷ t.0, made_then stands s u v (one.0 ∷ []) t.0 first t.1, (one.1, t.2), (waits, t.3))

    pub settled_asking : (v : SeatView) (answer : Result PooledConnection CheckOutError) (reply : Reply) → poll ≡ NotYet reply → Names request poll → Settled stands (AskFor MayEnd request) request u v answer → Settled stands (Requests MayEnd request address) request s v answer
    settled_asking v answer reply is names t = settled_later v answer (still_open request one.0 poll one.2 reply is names) t

  -- whatever the answer, it is the seat that it was
  pub settled_same : (Kind : List Entry → Type 0) (s s' : SeatView) (answer : Result PooledConnection CheckOutError) → Settled stands Kind request s s' answer → (s'.driver ≡ s.driver) × (s'.number ≡ s.number)
  settled_same Kind s s' (Ok connection) t = (t.2.0, t.2.1)
  settled_same Kind s s' (Err (Ended end)) t = (t.2.0, t.2.1)
  settled_same Kind s s' (Err (Refused why)) t = (t.2.0, t.2.1)
  settled_same Kind s s' (Err OutOfTime) t = (t.2.0, t.2.1)
  settled_same Kind s s' (Err GaveUp) t = (t.2.0, t.2.1)
  settled_same Kind s s' (Err OutOfMemory) t = (t.1.0, t.1.1)
