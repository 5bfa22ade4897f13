-- Where ready and checked out stand: the one first in the answer to an establishing, the other right after a grant or an establishing.
use Rattle.std.proofs.Common.{ℕ, zero, suc, ◌≡◌, ◌+◌, ◌==◌, Bool, true, false, List, [], ◌∷◌, ◌++◌, length, Option, Some, None, is_some, refl, subst}
use Rattle.std.specs.Prelude.{⊤}
use Rattle.mdb_base.specs.declared.address.ServerAddress.{ServerAddress}
use Rattle.mdb_events.specs.declared.cmap.CmapEvent.TheVariants.{ConnectionReady, ConnectionCheckedOut}
use Rattle.mdb_events.specs.declared.end.End.TheVariants.{Filled}
use Rattle.mdb_events.specs.declared.fact.Fact.{Fact}
use Rattle.mdb_events.specs.declared.fact.Fact.TheVariants.{Pool, Ended}
use Rattle.mdb_events.specs.declared.reasons.ConnectionClosedReason.{ConnectionClosedReason}
use Rattle.mdb_log.specs.declared.options.PoolOptions.{PoolOptions}
use Rattle.mdb_log.specs.declared.step.Act.{Act}
use Rattle.mdb_log.specs.History.{PoolItem, after_fact, after_facts}
use Rattle.mdb_log.specs.Connections.{available_list}
use Rattle.mdb_log.specs.Requests.{queued, end_of, is_warm}
use Rattle.mdb_log.specs.State.{state_of, ready, may_create}
use Rattle.mdb_log.proofs.Numbers.{same-number}
use Rattle.mdb_pool_rules.specs.Facts.{check_in, hand_over, perished}
use Rattle.mdb_pool_rules.specs.Serving.{last_of, candidate, wants_connection, caller_move, meet, warm_move, move_for, next_move, serve, serving}
use Rattle.mdb_laws.specs.Names.{just_given, IsReadyNow}
use Rattle.mdb_laws.proofs.OfNames.Plain.{IsPlain, ArePlain, plain-both, check_in-plain}

pub equal-number : (q p : ℕ) → q ≡ p → (q == p) ≡ true
equal-number q p i = subst (λ n. (q == n) ≡ true) i (same-number q)

module _ (p m : ℕ) (act : Act) where
  -- as the spec says it, but for the life
  abbrev pub IsPlaced : Bool → List PoolItem → Fact → Type 0
  IsPlaced first xs (Pool q (ConnectionReady e)) = q ≡ p → IsReadyNow p act first e.connection_id
  IsPlaced first xs (Pool q (ConnectionCheckedOut e)) = q ≡ p → just_given xs e.connection_id ≡ true
  IsPlaced first xs _ = ⊤

  abbrev pub AllPlaced : Bool → List PoolItem → List Fact → Type 0
  AllPlaced first xs [] = ⊤
  AllPlaced first xs (f ∷ fs) = IsPlaced first xs f × AllPlaced false (after_fact p m f xs) fs

  plain-one : (first : Bool) (xs : List PoolItem) (f : Fact) → IsPlain f → IsPlaced first xs f
  plain-one first xs (Pool q (ConnectionReady e)) c = absurd c
  plain-one first xs (Pool q (ConnectionCheckedOut e)) c = absurd c
  plain-one first xs _ c = tt

  pub plain-placed : (first : Bool) (fs : List Fact) (xs : List PoolItem) → ArePlain fs → AllPlaced first xs fs
  plain-placed first [] xs c = tt
  plain-placed first (f ∷ fs) xs c = (plain-one first xs f c.0, plain-placed false fs (after_fact p m f xs) c.1)

  -- what may stand later may stand first
  early-one : (first : Bool) (xs : List PoolItem) (f : Fact) → IsPlaced false xs f → IsPlaced first xs f
  early-one first xs (Pool q (ConnectionReady e)) w = λ i. let r : IsReadyNow p act false e.connection_id = w i in let t : false ≡ true = r.at_first in cc
  early-one first xs (Pool q (ConnectionCheckedOut e)) w = w
  early-one first xs _ w = tt

  pub early : (first : Bool) (fs : List Fact) (xs : List PoolItem) → AllPlaced false xs fs → AllPlaced first xs fs
  early first [] xs w = tt
  early first (f ∷ fs) xs w = (early-one first xs f w.0, w.1)

  pub placed-both : (first : Bool) (fs gs : List Fact) (xs : List PoolItem) → AllPlaced first xs fs → AllPlaced false (after_facts p m fs xs) gs → AllPlaced first xs (fs ++ gs)
  placed-both first [] gs xs a b = early first gs xs b
  placed-both first (f ∷ fs) gs xs a b = (a.0, placed-both false fs gs (after_fact p m f xs) a.1 b)

  -- the serving of any pool q, whose items are ws
  module _ (q : ℕ) (a : ServerAddress) (o : PoolOptions) where
    met-placed : (ws zs : List PoolItem) (r c : ℕ) (why : Option ConnectionClosedReason) → AllPlaced false zs (meet q a o m ws r c why)
    met-placed ws zs r c None = (tt, (λ i. rw (equal-number q p i, same-number c) refl, tt))
    met-placed ws zs r c (Some why) = (tt, tt)

    called-placed : (ws zs : List PoolItem) (r : ℕ) (k : Option ℕ) → AllPlaced false zs (caller_move q a o m ws r k)
    called-placed ws zs r (Some c) = met-placed ws zs r c (perished o m ws c)
    called-placed ws zs r None = on (may_create o ws) refl
      where
        on : (b : Bool) → may_create o ws ≡ b → AllPlaced false zs (caller_move q a o m ws r None)
        on true g = rw g (tt, (tt, tt))
        on false g = rw g tt

    warmed-placed : (ws zs : List PoolItem) (r : ℕ) → AllPlaced false zs (warm_move q a o ws r)
    warmed-placed ws zs r = on (wants_connection o ws) refl
      where
        on : (b : Bool) → wants_connection o ws ≡ b → AllPlaced false zs (warm_move q a o ws r)
        on true g = rw g (tt, (tt, tt))
        on false g = rw g (tt, tt)

    move-placed : (ws zs : List PoolItem) (k : Option ℕ) → AllPlaced false zs (move_for q a o m ws k)
    move-placed ws zs None = tt
    move-placed ws zs (Some r) = on (is_warm ws r) refl
      where
        on : (b : Bool) → is_warm ws r ≡ b → AllPlaced false zs (move_for q a o m ws (Some r))
        on true w = rw w (warmed-placed ws zs r)
        on false w = rw w (called-placed ws zs r (last_of (available_list ws)))

    next-placed : (ws zs : List PoolItem) → AllPlaced false zs (next_move q a o m ws)
    next-placed ws zs = on (ready (state_of o ws)) refl
      where
        on : (b : Bool) → ready (state_of o ws) ≡ b → AllPlaced false zs (next_move q a o m ws)
        on true e = rw e (move-placed ws zs (candidate o ws (queued ws)))
        on false e = rw e tt

    serve-placed : (n : ℕ) (ws zs : List PoolItem) → AllPlaced false zs (serve q a o m n ws)
    serve-placed zero ws zs = tt
    serve-placed (suc n) ws zs = placed-both false (next_move q a o m ws) (serve q a o m n (after_facts q m (next_move q a o m ws) ws)) zs (next-placed ws zs) (serve-placed n (after_facts q m (next_move q a o m ws) ws) (after_facts p m (next_move q a o m ws) zs))

    pub serving-placed : (ws zs : List PoolItem) → AllPlaced false zs (serving q a o m ws)
    serving-placed ws zs = serve-placed (length (queued ws) + length (available_list ws)) ws zs

    -- the handing over of a connection, where the pool p's items say that it was just given
    pub handed-placed : (ws zs : List PoolItem) (c : ℕ) (k : Option ℕ) → (q ≡ p → just_given zs c ≡ true) → AllPlaced false zs (hand_over q a o m ws c k)
    handed-placed ws zs c None w = tt
    handed-placed ws zs c (Some r) w = on (is_some (end_of ws r)) (is_warm ws r) refl refl
      where
        on : (b t : Bool) → is_some (end_of ws r) ≡ b → is_warm ws r ≡ t → AllPlaced false zs (hand_over q a o m ws c (Some r))
        on true t e f = rw e (plain-placed false (check_in q a o ws c) zs (check_in-plain q a o m ws c))
        on false true e f = rw (e, f) (plain-placed false (check_in q a o ws c ++ Ended r Filled ∷ []) zs (plain-both (check_in q a o ws c) (Ended r Filled ∷ []) (check_in-plain q a o m ws c) (tt, tt)))
        on false false e f = rw (e, f) (w, tt)
