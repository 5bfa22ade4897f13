-- The last entry of a log whose end is kept.
use Rattle.std.proofs.Common.{◌≡◌, List, [], ◌∷◌, ◌++◌, Option, Some, None, refl, sym, subst}
use Rattle.std.specs.Prelude.{slice_get}
use Rattle.mdb_log.specs.declared.log.Entry.{Entry}
use Rattle.mdb_pool_session.specs.PoolLogs.{last_entry}
use Rattle.mdb_pool_session.specs.Sessions.{IsEnd}

pub last_of : (past : List Entry) (e : Entry) → last_entry (past ++ e ∷ []) ≡ Some e
last_of [] e = refl
last_of (d ∷ []) e = refl
last_of (d ∷ f ∷ past) e = last_of (f ∷ past) e

pub end_is : (past last : List Entry) → IsEnd past last → slice_get last 0 ≡ last_entry (past ++ last)
end_is past [] none = subst (λ (es : List Entry). slice_get {X = Entry} [] 0 ≡ last_entry (es ++ [])) (sym none) refl
end_is past (e ∷ []) some = sym (last_of past e)
end_is past (e ∷ f ∷ entries) more = absurd more
