-- What a watcher's looks tell.
use Rattle.std.proofs.Common.{◌≡◌, ℕ, ◌≤◌, ◌<◌, Bool, true, false, List, [], ◌∷◌, ◌++◌, sym, subst}
use Rattle.mdb_log.specs.declared.log.Entry.{Entry}
use Rattle.mdb_log.specs.Driver.{StartsWith}
use Rattle.mdb_turns.specs.Stepping.{SeatView}
use Rattle.mdb_handles.specs.declared.watching.TopologyWatcher.{TopologyWatcher}
use Rattle.mdb_workers.specs.Making.{Made}
use Rattle.mdb_handles.specs.Watching.{with_mark, wanting, RetractedIf, Retracted, Updated}
use Rattle.mdb_workers.proofs.Adding.{made_then, made_seen}

-- publications are never taken back
pub still_published : (publications : List Entry → ℕ) → ((log more : List Entry) → publications log ≤ publications (log ++ more)) → (log more : List Entry) → StartsWith more log → publications log ≤ publications more
still_published publications grow log more s = subst (λ (l : List Entry). publications log ≤ publications l) (sym s.1) (grow log s.0)

module _ {T : Type 0} (stands : T → List Entry → Type 0) where
  pub retracted_after : (wants : Bool) (number : ℕ) (s u v : SeatView) → Made stands s u [] → RetractedIf stands wants number u v → RetractedIf stands wants number s v
  retracted_after true number s u v m r = (r.0, (r.1.0, r.1.1, r.1.2, made_then stands s u v [] (r.1.0 ∷ []) m r.1.3))
  retracted_after false number s u v m r = made_then stands s u v [] [] m r

  pub retracted_same : (wants : Bool) (number : ℕ) (s v : SeatView) → RetractedIf stands wants number s v → (v.driver ≡ s.driver) × (v.number ≡ s.number)
  retracted_same true number s v r = (r.1.3.0, r.1.3.1)
  retracted_same false number s v r = (r.0, r.1)

  retracted_seen : (wants : Bool) (number : ℕ) (u v : SeatView) → RetractedIf stands wants number u v → StartsWith v.seen u.seen
  retracted_seen true number u v r = made_seen stands 0 u v (r.1.0 ∷ []) r.1.3
  retracted_seen false number u v r = made_seen stands 0 u v [] r

  module _ (publications : List Entry → ℕ) (grow : (log more : List Entry) → publications log ≤ publications (log ++ more)) where
    -- a look found a later publication, and the request was taken back
    pub found_later : (found : ℕ) (s u v : SeatView) (w w' : TopologyWatcher) → Made stands s u [] → found ≡ publications u.seen → w.seen < found → Retracted stands u v w → w' ≡ with_mark (wanting w false) found
        → Updated stands publications s v w w'
    found_later found s u v w w' m is later r marks = (
      found,
      later,
      subst (λ (k : ℕ). k ≤ publications v.seen) (sym is) (still_published publications grow u.seen v.seen (retracted_seen w.wants w.number u v r)),
      marks,
      retracted_after w.wants w.number s u v m r,
    )
