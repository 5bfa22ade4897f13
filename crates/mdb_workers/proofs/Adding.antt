-- What several steps make is what each of them makes, one after the other.
use Rattle.std.proofs.Common.{◌≡◌, ◌≢◌, ℕ, ◌+◌, List, [], ◌∷◌, ◌++◌, length, append_assoc, append-nil, ap, sym, subst, ◌∙◌, refl, arith, Option, Some, None, IsTrue, not, ◌<◌, length-append}
use Rattle.mdb_base.specs.declared.address.ServerAddress.{ServerAddress}
use Rattle.mdb_log.specs.declared.log.Entry.{Entry}
use Rattle.mdb_log.specs.declared.step.Act.{Act}
use Rattle.mdb_log.specs.declared.pooled.PooledConnection.{PooledConnection}
use Rattle.mdb_log.specs.declared.step.Act.TheVariants.{Warm, Return}
use Rattle.mdb_log.specs.declared.step.Use.{Use}
use Rattle.mdb_log.specs.declared.reply.Reply.{Reply}
use Rattle.mdb_log.specs.declared.reply.Reply.TheVariants.{Pooled, Establishing, Waiting, Ended, Job, NoJob, Changed, Count, Done, Refused}
use Rattle.mdb_log.specs.declared.step.Step.{Step}
use Rattle.mdb_log.specs.Driver.{StartsWith, is_in_time}
use Rattle.mdb_turns.specs.Stepping.{SeatView, Stepped, OnlySaw}
use Rattle.mdb_shared.specs.Seats.{Each, FoundBusy, IsSameSeat}
use Rattle.mdb_shared.specs.Checkout.{is_back_in_time, ComesBack}
use Rattle.mdb_shared.specs.declared.checkout.BackWhy.{BackWhy}
use Rattle.mdb_shared.specs.declared.checkout.BackWhy.TheVariants.{Refused as BackRefused, OutOfMemory}
use Rattle.mdb_workers.specs.Making.{InOrder, MadeAt, Made, OneMore, OneMoreAt, StaysOut}
use Rattle.mdb_workers.specs.Persisting.{TriedBack, tried_by}
use Rattle.mdb_workers.specs.Filling.{AreWarm, EndsIn, GoesOn, is_establishing, told_reply, Filled, FilledInPart}

pub each_more : {X : Type 0} (P : X → Type 0) (xs ys : List X) → Each P xs → Each P ys → Each P (xs ++ ys)
each_more P [] ys h k = k
each_more P (x ∷ xs) ys h k = (h.0, each_more P xs ys h.1 k)

pub found_then : (s t u : SeatView) → t.number ≡ s.number → FoundBusy s t → FoundBusy t u → FoundBusy s u
found_then s t u same f g = (
  f.0 ++ g.0,
  g.1 ∙ (ap (λ (l : List ℕ). l ++ g.0) f.1 ∙ append_assoc s.busy f.0 g.0),
  each_more (λ (w : ℕ). (w ≢ 0) × (w ≢ s.number + 1)) f.0 g.0 f.2 (subst (λ (n : ℕ). Each (λ (w : ℕ). (w ≢ 0) × (w ≢ n + 1)) g.0) same g.2),
)

pub starts_then : (a b c : List Entry) → StartsWith b a → StartsWith c b → StartsWith c a
starts_then a b c f g = (f.0 ++ g.0, g.1 ∙ (ap (λ (l : List Entry). l ++ g.0) f.1 ∙ append_assoc a f.0 g.0))

-- some seen log, and then a later one
module _ {T : Type 0} (stands : T → List Entry → Type 0) where
  in_order_from : (moment n : ℕ) (a b c es : List Entry) → StartsWith b a → InOrder stands moment n b es c → InOrder stands moment n a es c
  in_order_from moment n a b c [] f h = starts_then a b c f h
  in_order_from moment n a b c (e ∷ es) f h = (h.0, starts_then a b h.0 f h.1, h.2, h.3)

  in_order_then : (moment n : ℕ) (a b c es fs : List Entry) → InOrder stands moment n a es b → InOrder stands moment n b fs c → InOrder stands moment n a (es ++ fs) c
  in_order_then moment n a b c [] fs h k = in_order_from moment n a b c fs h k
  in_order_then moment n a b c (e ∷ es) fs h k = (h.0, h.1, h.2, in_order_then moment n (h.0 ++ e ∷ []) b c es fs h.3 k)

  pub in_order_seen : (moment n : ℕ) (a c es : List Entry) → InOrder stands moment n a es c → StartsWith c a
  in_order_seen moment n a c [] h = h
  in_order_seen moment n a c (e ∷ es) h = starts_then a h.0 c h.1 (starts_then h.0 (h.0 ++ e ∷ []) c (e ∷ [], refl) (in_order_seen moment n (h.0 ++ e ∷ []) c es h.3))

  -- what a call has made, it made behind what was seen
  pub made_seen : (moment : ℕ) (s s' : SeatView) (es : List Entry) → MadeAt stands moment s s' es → StartsWith s'.seen s.seen
  made_seen moment s s' es m = in_order_seen moment s.number s.seen s'.seen es m.2

  -- nothing yet
  pub made_none_at : (moment : ℕ) (s : SeatView) → MadeAt stands moment s s []
  made_none_at moment s = (refl, refl, ([], sym (append-nil s.seen)), sym (append-nil s.mine), ([], sym (append-nil s.busy), tt))

  pub made_none : (s : SeatView) → Made stands s s []
  made_none s = made_none_at 0 s

  -- some entries, and then some more
  pub made_then_at : (moment : ℕ) (s t u : SeatView) (es fs : List Entry) → MadeAt stands moment s t es → MadeAt stands moment t u fs → MadeAt stands moment s u (es ++ fs)
  made_then_at moment s t u es fs f g = (
    g.0 ∙ f.0,
    g.1 ∙ f.1,
    in_order_then moment s.number s.seen t.seen u.seen es fs f.2 (subst (λ (n : ℕ). InOrder stands moment n t.seen fs u.seen) f.1 g.2),
    g.3 ∙ (ap (λ (l : List Entry). l ++ fs) f.3 ∙ append_assoc s.mine es fs),
    found_then s t u f.1 f.4 g.4,
  )

  pub made_then : (s t u : SeatView) (es fs : List Entry) → Made stands s t es → Made stands t u fs → Made stands s u (es ++ fs)
  made_then s t u es fs f g = made_then_at 0 s t u es fs f g

  -- a call that added nothing
  pub made_nothing : (s s' : SeatView) → s'.driver ≡ s.driver → s'.number ≡ s.number → FoundBusy s s' → OnlySaw s s' → Made stands s s' []
  made_nothing s s' d n f o = (d, n, o.0, o.1 ∙ sym (append-nil s.mine), f)

  -- one step: its entry is the last one
  pub made_entry : (s s' : SeatView) (step : Step) (reply : Reply) → s'.driver ≡ s.driver → s'.number ≡ s.number → FoundBusy s s' → IsTrue (is_in_time step.act reply) → (t : Stepped stands s s' step reply) → MadeAt stands step.moment s s' (t.1 ∷ [])
  made_entry s s' step reply d n f timely t =
      let act : t.1.step.act ≡ step.act = ap (λ (x : Step). x.act) t.3.1 in
      let in_time : IsTrue (is_in_time t.1.step.act t.1.reply) = subst (λ (r : Reply). IsTrue (is_in_time t.1.step.act r)) (sym t.3.2) (subst (λ (a : Act). IsTrue (is_in_time a reply)) (sym act) timely) in (
        d,
        n,
        (
          t.0,
          t.2,
          (t.3.0, ap (λ (x : Step). x.moment) t.3.1, in_time, (t.6.0, subst (stands t.6.0) t.4 t.6.1)),
          ([], t.4 ∙ sym (append-nil (t.0 ++ t.1 ∷ []))),
        ),
        t.5,
        f,
      )

  pub made_step : (s s' : SeatView) (step : Step) (reply : Reply) → s'.driver ≡ s.driver → s'.number ≡ s.number → FoundBusy s s' → IsTrue (is_in_time step.act reply) → Stepped stands s s' step reply
      → OneMoreAt stands step.moment s s' step.act reply
  made_step s s' step reply d n f timely t = (t.1, ap (λ (x : Step). x.act) t.3.1, t.3.2, made_entry s s' step reply d n f timely t)

  -- a connection that didn't come back
  pub stays_out : (s s' : SeatView) (step : Step) → s'.driver ≡ s.driver → s'.number ≡ s.number → FoundBusy s s' → (why : BackWhy) → IsTrue (is_back_in_time step.act why) → ComesBack stands s s' step why → step.moment ≡ 0 → StaysOut stands s s' step.act why
  stays_out s s' step d n f (BackRefused why) timely st zero = subst (λ (m : ℕ). OneMoreAt stands m s s' step.act (Refused why)) zero (made_step s s' step (Refused why) d n f timely st)
  stays_out s s' step d n f OutOfMemory timely saw zero = made_nothing s s' d n f saw

-- ---- warm requests

each_one_more : (es : List Entry) (e : Entry) → Each GoesOn es → GoesOn e → Each GoesOn (es ++ e ∷ [])
each_one_more es e h g = each_more GoesOn es (e ∷ []) h (g, tt)

warm_more : (address : ServerAddress) (first : ℕ) (es : List Entry) (e : Entry) → AreWarm address first es → e.step.act ≡ Warm (first + length es) address → AreWarm address first (es ++ e ∷ [])
warm_more address first [] e h is = (subst (λ (n : ℕ). e.step.act ≡ Warm n address) (omega arith) is, tt)
warm_more address first (x ∷ es) e h is = (h.0, warm_more address (first + 1) es e h.1 (subst (λ (n : ℕ). e.step.act ≡ Warm n address) (omega arith) is))

ends_more : (es : List Entry) (e : Entry) → Each GoesOn es → EndsIn (Some e.reply) (es ++ e ∷ [])
ends_more [] e h = refl
ends_more (x ∷ []) e h = (h.0, refl)
ends_more (x ∷ y ∷ es) e h = (h.0, ends_more (y ∷ es) e h.1)

module _ {T : Type 0} (stands : T → List Entry → Type 0) where
  -- what was made so far
  abbrev pub SoFar : ServerAddress → ℕ → ℕ → SeatView → SeatView → Option (ℕ × ℕ) → Type 0
  SoFar address first made s s' last = (es : List Entry) × Made stands s s' es × AreWarm address first es × EndsIn (told_reply last) es × Each GoesOn es × (length es ≡ made)

  -- the entry that one warm request adds
  abbrev pub OneWarm : ServerAddress → ℕ → SeatView → SeatView → Reply → Type 0
  OneWarm address request s s' reply = (e : Entry) × (e.step.act ≡ Warm request address) × (e.reply ≡ reply) × Made stands s s' (e ∷ [])

  pub so_far_none : (address : ServerAddress) (first : ℕ) (s : SeatView) → SoFar address first 0 s s None
  so_far_none address first s = ([], made_none stands s, tt, refl, tt, refl)

  module _ (address : ServerAddress) (first made : ℕ) (s t u : SeatView) (last : Option (ℕ × ℕ)) (so : SoFar address first made s t last) where
    abbrev es : List Entry
    es = so.0

    all_warm : (reply : Reply) (w : OneWarm address (first + made) t u reply) → AreWarm address first (es ++ w.0 ∷ [])
    all_warm reply w = warm_more address first es w.0 so.2 (subst (λ (n : ℕ). w.0.step.act ≡ Warm (first + n) address) (sym so.5) w.1)

    one_longer : (e : Entry) → length (es ++ e ∷ []) ≡ made + 1
    one_longer e = length-append es (e ∷ []) ∙ ap (λ (n : ℕ). n + 1) so.5

    pub so_far_more : (pool id : ℕ) → OneWarm address (first + made) t u (Establishing pool id) → SoFar address first (made + 1) s u (Some (pool, id))
    so_far_more pool id w = (
      es ++ w.0 ∷ [],
      made_then stands s t u es (w.0 ∷ []) so.1 w.3,
      all_warm (Establishing pool id) w,
      subst (λ (r : Reply). EndsIn (Some r) (es ++ w.0 ∷ [])) w.2 (ends_more es w.0 so.4),
      each_one_more es w.0 so.4 (subst (λ (r : Reply). IsTrue (is_establishing r)) (sym w.2) refl),
      one_longer w.0,
    )

    pub filled_by : (budget : ℕ) (reply : Reply) → made < budget → IsTrue (not (is_establishing reply)) → OneWarm address (first + made) t u reply → Filled stands address first budget s u record { made = made + 1; last = Some reply }
    filled_by budget reply low other w = (
      es ++ w.0 ∷ [],
      made_then stands s t u es (w.0 ∷ []) so.1 w.3,
      all_warm reply w,
      subst (λ (r : Reply). EndsIn (Some r) (es ++ w.0 ∷ [])) w.2 (ends_more es w.0 so.4),
      one_longer w.0,
      omega arith,
      λ _. other,
    )

    pub filled_in_part : (budget : ℕ) → made < budget → Made stands t u [] → FilledInPart stands address first budget s u
    filled_in_part budget low none = (es, subst (Made stands s u) (append-nil es) (made_then stands s t u es [] so.1 none), so.2, so.4, subst (λ (n : ℕ). n < budget) (sym so.5) low)

  pub filled_up : (address : ServerAddress) (first made budget : ℕ) (s t : SeatView) (last : Option (ℕ × ℕ)) → made ≡ budget → SoFar address first made s t last → Filled stands address first budget s t record { made = budget; last = told_reply last }
  filled_up address first made budget s t last all so = (so.0, so.1, so.2, so.3, so.5 ∙ all, omega arith, λ low. absurd (omega arith))

pub not_made : (reply : Reply) → ((pool id : ℕ) → reply ≢ Establishing pool id) → IsTrue (not (is_establishing reply))
not_made (Establishing pool id) other = absurd (other pool id refl)
not_made (Pooled pool id) other = refl
not_made Waiting other = refl
not_made (Ended end) other = refl
not_made (Job pool id) other = refl
not_made NoJob other = refl
not_made (Changed changed) other = refl
not_made (Count count) other = refl
not_made Done other = refl
not_made (Refused why) other = refl

-- a seat that has only seen more
pub made_same : {T : Type 0} (stands : T → List Entry → Type 0) (s s' : SeatView) → IsSameSeat s s' → StartsWith s'.seen s.seen → Made stands s s' []
made_same stands s s' same more = (same.0, same.1, more, same.2 ∙ sym (append-nil s.mine), ([], same.3 ∙ sym (append-nil s.busy), tt))

-- a look, after nothing was added
pub made_saw : {T : Type 0} (stands : T → List Entry → Type 0) (s t u : SeatView) → Made stands s t [] → Made stands t u [] → Made stands s u []
made_saw stands s t u m k = made_then stands s t u [] [] m k

-- one entry, after nothing was added
pub one_after : {T : Type 0} (stands : T → List Entry → Type 0) (s t u : SeatView) (act : Act) (reply : Reply) → Made stands s t [] → OneMore stands t u act reply → OneMore stands s u act reply
one_after stands s t u act reply none one = (one.0, one.1, one.2, made_then stands s t u [] (one.0 ∷ []) none one.3)

pub entry_after : {T : Type 0} (stands : T → List Entry → Type 0) (s t u : SeatView) (P : Entry → Type 0) → Made stands s t [] → ((e : Entry) × P e × Made stands t u (e ∷ [])) → (e : Entry) × P e × Made stands s u (e ∷ [])
entry_after stands s t u P none one = (one.0, one.1, made_then stands s t u [] (one.0 ∷ []) none one.2)

-- what a connection that stays out is told as
pub tried : {T : Type 0} (stands : T → List Entry → Type 0) (s s' : SeatView) (connection held : PooledConnection) (used : Use) (why : BackWhy) → held ≡ connection → StaysOut stands s s' (Return connection.party used) why → TriedBack stands s s' connection used (tried_by held why)
tried stands s s' connection held used (BackRefused why) same one = (same, one)
tried stands s s' connection held used OutOfMemory same none = (same, none)
