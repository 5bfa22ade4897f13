-- One part of a step that is planned: it changes no pool, or the one at an address, or opens one.
use Rattle.std.proofs.Common.{ℕ, zero, suc, ◌≡◌, ◌≢◌, ◌<◌, ◌≤◌, ◌&&◌, ◌||◌, Bool, true, false, not, is_some, List, [], ◌∷◌, ◌++◌, length, map, set, Some, None, refl, sym, ◌∙◌, ap, subst, arith, append-nil}
use Rattle.std.specs.Prelude.{slice_get, All}
use Rattle.std.proofs.lemmas.List.Elements.{All-set, All-append}
use Rattle.mdb_base.specs.Equality.{same_address}
use Rattle.mdb_base.specs.declared.address.ServerAddress.{ServerAddress}
use Rattle.mdb_base.specs.declared.options.Options.{Options}
use Rattle.mdb_describe.specs.Servers.{is_listed}
use Rattle.mdb_events.specs.declared.fact.Fact.{Fact}
use Rattle.mdb_log.specs.History.{Item}
use Rattle.mdb_log.specs.Opening.{pool_options}
use Rattle.mdb_describe.proofs.Addresses.{own-address}
use Rattle.mdb_pool.specs.Core.{PoolCore}
use Rattle.mdb_pool.specs.Now.{is_closed_now, last_now}
use Rattle.mdb_pool.specs.Planning.{Plan, Plans, IsPlanOf}
use Rattle.mdb_pool.specs.Standing.{SameHome}
use Rattle.mdb_driver_pools.specs.declared.pool_change.PoolChange.TheVariants.{Alter, Open}
use Rattle.mdb_driver_rules.specs.Publishing.{opened_at, server_opened}
use Rattle.mdb_driver_pools.specs.Standing.{home, is_open_at, at_address, HasOpened, PoolsStand}
use Rattle.mdb_driver_pools.specs.Planned.{LeadsAll, Agrees, CanTake, IsPlanned, LeavesOpen}
use Rattle.mdb_driver_pools.specs.Telling.{Makes, Tells}
use Rattle.mdb_driver_pools.proofs.InMemory.LivingPools.{alive-of}
use Rattle.mdb_driver_pools.proofs.OnePool.FoundAt.{open-lives}
use Rattle.mdb_driver_pools.proofs.OnePool.OpenedWhereNone.{has-opened}
use Rattle.mdb_driver_pools.proofs.OnePool.OpenAtOneAddress.{at-address}
use Rattle.mdb_driver_rules.proofs.General.OneElement.{position-at, position-set, position-within, map-set, get-set_other}
use Rattle.mdb_driver_rules.proofs.General.Truth.{or-true, and-false, and-or-same}
use Rattle.mdb_driver_pools.proofs.Publications.OneMorePool.{IsFresh, map-push}
use Rattle.mdb_driver_pools.proofs.Publications.OpeningStands.{makes-opened}
use Rattle.mdb_driver_rules.proofs.General.OnePosition.{some-same}
use Rattle.mdb_driver_pools.proofs.PartsInTurn.{tells-one}

-- No pool changes.
pub planned-still : (o : Options) (m : ℕ) (pools : List PoolCore) (n : ℕ) (touched : ServerAddress → Bool) (parts : List (List Item → List Fact)) (before after : List Fact)
    → ((now : List PoolCore) → CanTake m pools now n touched → Tells o m parts now now before after) → IsPlanned o m pools n touched parts [] before after
planned-still o m pools n touched parts before after tells = record {
  leads = λ now z. (now, refl);
  tells = λ now later z l. subst (λ (w : List PoolCore). Tells o m parts now w before after) (sym l) (tells now z);
  keeps = λ now later b z l e. (ap (λ (w : List PoolCore). at_address w b) l, λ i f. ap (λ (w : List PoolCore). slice_get w i) l);
  early = λ now later z l. subst (λ (w : List PoolCore). All (λ s. last_now s ≤ m) w) (sym l) z.early;
  homes = λ now later z l. ap (λ (w : List PoolCore). map home w) l ∙ sym (append-nil (map home now));
}

pub leaves-still : (o : Options) (m : ℕ) (pools : List PoolCore) (n : ℕ) (touched : ServerAddress → Bool) → LeavesOpen o m pools n touched [] [] []
leaves-still o m pools n touched now later k a z l y = ap (λ (w : List PoolCore). is_some (at_address w a)) l ∙ sym (and-or-same (is_some (at_address now a)))

-- a pool of one address is not open at another
pub not-open : (s : PoolCore) (a b : ServerAddress) → s.address ≡ a → same_address a b ≡ false → is_open_at b s ≡ false
not-open s a b at e =
    let w : same_address s.address b ≡ false = ap (λ x. same_address x b) at ∙ e in
    rw w (and-false (not (is_closed_now s)))

-- The pool that is open at the address changes, by a plan that was made on it.
module _ (o : Options) (m : ℕ) (pools : List PoolCore) (a : ServerAddress) (i : ℕ) (s : PoolCore) (plan : Plan)
    (here : at_address pools a ≡ Some i) (at_i : slice_get pools i ≡ Some s) (made : IsPlanOf plan s)
    (home_is : (t : PoolCore) → Plans plan s t → SameHome s t) (last_is : (t : PoolCore) → Plans plan s t → last_now t ≡ m) where
  abbrev touched : ServerAddress → Bool
  touched b = same_address a b

  at-a : s.address ≡ a
  at-a = at-address a s (position-at (is_open_at a) pools i s here at_i).0

  module _ (n : ℕ) (now : List PoolCore) (z : CanTake m pools now n touched) where
    same-here : Agrees pools now a
    same-here = z.agrees a (own-address a)

    still-here : at_address now a ≡ Some i
    still-here = same-here.0 ∙ here

    still-i : slice_get now i ≡ Some s
    still-i = same-here.1 i here ∙ at_i

    -- what it leads to
    record Altered (later : List PoolCore) : Type 0 where
      pub next : PoolCore
      pub planned : Plans plan s next
      pub set_is : later ≡ set now i next

    altered : (later : List PoolCore) → LeadsAll (Alter i plan ∷ []) now later → Altered later
    altered later l =
        let x = l.1 in
        let w : x.0 ≡ s = some-same x.0 s (slice_get now i) x.2 still-i in
        record { next = x.1; planned = subst (λ u. Plans plan u x.1) w x.3; set_is = l.2 ∙ x.4 }

    elsewhere : (t : PoolCore) (b : ServerAddress) → Plans plan s t → same_address a b ≡ false → Agrees now (set now i t) b
    elsewhere t b p e =
        let here_not : is_open_at b s ≡ false = not-open s a b at-a e in
        let there_not : is_open_at b t ≡ false = not-open t a b ((home_is t p).address ∙ at-a) e in
        (position-set (is_open_at b) now i s t still-i (there_not ∙ sym here_not), λ j f. get-set_other now i j t (other b here_not j f))
      where
        other : (b : ServerAddress) → is_open_at b s ≡ false → (j : ℕ) → at_address now b ≡ Some j → i ≢ j
        other b closed j f w =
            let found : is_open_at b s ≡ true = (position-at (is_open_at b) now i s (f ∙ ap Some (sym w)) still-i).0 in
            let t : true ≡ false = sym found ∙ closed in
            cc

    same-home : (t : PoolCore) → Plans plan s t → home t ≡ home s
    same-home t p =
        let e : SameHome s t = home_is t p in
        ap (λ q. record { number = q; address = t.address }) e.pool ∙ ap (λ b. record { number = s.pool; address = b }) e.address

  pub planned-alter : (n : ℕ) (parts : List (List Item → List Fact)) (before after : List Fact)
      → ((now : List PoolCore) (t : PoolCore) → at_address now a ≡ Some i → slice_get now i ≡ Some s → Plans plan s t → Tells o m parts now (set now i t) before after)
      → IsPlanned o m pools n touched parts (Alter i plan ∷ []) before after
  planned-alter n parts before after tells = record {
    leads = λ now z. (set now i made.0, (set now i made.0, (s, made.0, still-i n now z, made.1, refl, alive-of pools i s (open-lives pools a i here) at_i), refl));
    tells = λ now later z l.
        let d : Altered n now z later = altered n now z later l in
        subst (λ (w : List PoolCore). Tells o m parts now w before after) (sym d.set_is) (tells now d.next (still-here n now z) (still-i n now z) d.planned);
    keeps = λ now later b z l e.
        let d : Altered n now z later = altered n now z later l in
        subst (λ (w : List PoolCore). Agrees now w b) (sym d.set_is) (elsewhere n now z d.next b d.planned e);
    early = λ now later z l.
        let d : Altered n now z later = altered n now z later l in
        subst (λ (w : List PoolCore). All (λ s. last_now s ≤ m) w) (sym d.set_is) (All-set (λ (u : PoolCore). last_now u ≤ m) now i d.next (subst (λ k. k ≤ m) (sym (last_is d.next d.planned)) (omega arith)) z.early);
    homes = λ now later z l.
        let d : Altered n now z later = altered n now z later l in
        ap (λ (w : List PoolCore). map home w) d.set_is ∙ (map-set home now i s d.next (still-i n now z) (same-home n now z d.next d.planned) ∙ sym (append-nil (map home now)));
  }

  pub leaves-alter : (n : ℕ) (gone : List ServerAddress)
      → ((now : List PoolCore) (t : PoolCore) (k : List Item) (b : ServerAddress) → at_address now a ≡ Some i → slice_get now i ≡ Some s → Plans plan s t → PoolsStand (pool_options o) now k
      → (same_address a b ≡ false → at_address (set now i t) b ≡ at_address now b) → is_some (at_address (set now i t) b) ≡ (is_some (at_address now b) && not (is_listed gone b)) || false)
      → LeavesOpen o m pools n touched (Alter i plan ∷ []) gone []
  leaves-alter n gone then now later k b z l y =
      let d : Altered n now z later = altered n now z later l in
      subst (λ (w : List PoolCore). is_some (at_address w b) ≡ (is_some (at_address now b) && not (is_listed gone b)) || false) (sym d.set_is)
      (then now d.next k b (still-here n now z) (still-i n now z) d.planned y (λ e. (elsewhere n now z d.next b d.planned e).0))

get-before : (xs ys : List PoolCore) (j : ℕ) → j < length xs → slice_get (xs ++ ys) j ≡ slice_get xs j
get-before [] ys j l = absurd (omega arith)
get-before (x ∷ xs) ys zero l = refl
get-before (x ∷ xs) ys (suc j) l = get-before xs ys j (omega arith)

all-one : (P : PoolCore → Type 0) (x : PoolCore) → P x → All P (x ∷ [])
all-one P x p zero d l = p
all-one P x p (suc k) d l = absurd (omega arith)

-- A pool is opened at the address, where none is open.
module _ (o : Options) (m : ℕ) (pools : List PoolCore) (a : ServerAddress) (n : ℕ) (core : PoolCore)
    (number : core.pool ≡ n) (at : core.address ≡ a) (options : core.options ≡ pool_options o) (fresh : IsFresh core) (last_is : last_now core ≡ 0)
    (absent : at_address pools a ≡ None) where
  module _ (now : List PoolCore) (z : CanTake m pools now n (same_address a)) where
    still-absent : at_address now a ≡ None
    still-absent = (z.agrees a (own-address a)).0 ∙ absent

    besides : (b : ServerAddress) → same_address a b ≡ false → Agrees now (now ++ core ∷ []) b
    besides b e =
        let opened : HasOpened now a (now ++ core ∷ []) = has-opened now core a at fresh.unshut still-absent in
        (opened b ∙ rw e refl, λ j f. get-before now (core ∷ []) j (position-within (is_open_at b) now j f))

  pub planned-open : (before after : List Fact) → after ≡ before ++ opened_at o a n → IsPlanned o m pools n (same_address a) (server_opened o a ∷ []) (Open core ∷ []) before after
  planned-open before after added = record {
    leads = λ now z. (now ++ core ∷ [], (now ++ core ∷ [], refl, refl));
    tells = λ now later z l.
        let count : length now ≡ n = z.count in
        tells-one o m (server_opened o a) now later before after
        (subst (λ (w : List PoolCore). Makes o m (server_opened o a) now w before after) (sym (l.2 ∙ l.1))
        (makes-opened o m now core a before after (number ∙ sym count) at options fresh (still-absent now z) (added ∙ ap (λ k. before ++ opened_at o a k) (sym count))));
    keeps = λ now later b z l e. subst (λ (w : List PoolCore). Agrees now w b) (sym (l.2 ∙ l.1)) (besides now z b e);
    early = λ now later z l.
        subst (λ (w : List PoolCore). All (λ s. last_now s ≤ m) w) (sym (l.2 ∙ l.1))
        (All-append (λ (u : PoolCore). last_now u ≤ m) now (core ∷ []) z.early (all-one (λ (u : PoolCore). last_now u ≤ m) core (subst (λ k. k ≤ m) (sym last_is) (omega arith))));
    homes = λ now later z l. ap (λ (w : List PoolCore). map home w) (l.2 ∙ l.1) ∙ map-push home now core;
  }

  pub leaves-opened : LeavesOpen o m pools n (same_address a) (Open core ∷ []) [] (a ∷ [])
  leaves-opened now later k b z l y =
      subst (λ (w : List PoolCore). is_some (at_address w b) ≡ (is_some (at_address now b) && not false) || is_listed (a ∷ []) b) (sym (l.2 ∙ l.1)) (on (same_address a b) refl)
    where
      opened : HasOpened now a (now ++ core ∷ [])
      opened = has-opened now core a at fresh.unshut (still-absent now z)

      on : (c : Bool) → same_address a b ≡ c → is_some (at_address (now ++ core ∷ []) b) ≡ (is_some (at_address now b) && not false) || is_listed (a ∷ []) b
      on true e = rw (opened b, e) (sym (or-true (is_some (at_address now b) && not false)))
      on false e = rw (opened b, e) (sym (and-or-same (is_some (at_address now b))))
