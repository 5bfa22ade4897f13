-- How a wait for an outcome ends.
use Rattle.std.proofs.Common.{◌≡◌, ℕ, suc, zero, List, [], ◌∷◌, Some, drop, sym, subst}
use Rattle.std.specs.Prelude.{slice_get}
use Rattle.mdb_log.specs.declared.log.Entry.{Entry}
use Rattle.mdb_handles.specs.CheckingOut.{IsGivenUp}
use Rattle.mdb_handles.specs.Standing.{HasEnded, MayBe}
use Rattle.mdb_handles.specs.declared.standing.State.{State}
use Rattle.mdb_handles.specs.declared.standing.State.TheVariants.{Open, Settled, GivenUp}

pub ended_any : (MayEnd : Type 0) (state : State) → MayEnd → HasEnded MayEnd state
ended_any MayEnd Open may = may
ended_any MayEnd Settled may = tt
ended_any MayEnd GivenUp may = tt

pub not_open : (MayEnd : Type 0) (state : State) → (state ≡ Settled) → HasEnded MayEnd state
not_open MayEnd state is = subst (HasEnded MayEnd) (sym is) tt

pub given_up : (MayEnd : Type 0) (state : State) → (state ≡ GivenUp) → HasEnded MayEnd state
given_up MayEnd state is = subst (HasEnded MayEnd) (sym is) tt

-- an entry behind the first ones is one of all
behind : (n k : ℕ) (es : List Entry) (e : Entry) → slice_get (drop n es) k ≡ Some e → (j : ℕ) × (slice_get es j ≡ Some e)
behind zero k es e is = (k, is)
behind (suc n) k [] e is = cc
behind (suc n) k (x ∷ es) e is = let h = behind n k es e is in (suc h.0, h.1)

-- what the later entries give up is given up
pub given-behind : (request n : ℕ) (es : List Entry) → IsGivenUp request (drop n es) → IsGivenUp request es
given-behind request n es h = let j = behind n h.0 es h.1 h.2 in (j.0, h.1, j.1, h.3, h.4)

-- what the later entries tell, all tell
pub may-be : (request n : ℕ) (es : List Entry) (state : State) → MayBe request (drop n es) state → MayBe request es state
may-be request n es Open h = tt
may-be request n es Settled h = tt
may-be request n es GivenUp h = given-behind request n es h
