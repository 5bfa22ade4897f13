-- What is due at each tick of the clock.
use Rattle.std.specs.Prelude.{◌≡◌, ℕ, List, [], ◌∷◌, map, ⊤}
use Rattle.mdb_base.specs.declared.address.ServerAddress.{ServerAddress}
use Rattle.mdb_describe.specs.declared.description.ServerDescription.{ServerDescription}
use Rattle.mdb_describe.specs.declared.topology.TopologyDescription.{TopologyDescription}
use Rattle.mdb_log.specs.declared.log.Entry.{Entry}
use Rattle.mdb_log.specs.declared.step.Act.{Act}
use Rattle.mdb_log.specs.declared.step.Act.TheVariants.{Expire, Maintain}
use Rattle.mdb_log.specs.Driver.{StartsWith}
use Rattle.mdb_turns.specs.Stepping.{SeatView}
use Rattle.mdb_shared.specs.Seats.{Each}
use Rattle.mdb_workers.specs.Making.{MadeAt, MadeWhen}

abbrev pub addresses_of : TopologyDescription → List ServerAddress
addresses_of t = map (λ (d : ServerDescription). d.address) t.servers

-- at each address first the callers that waited too long end, and then its pool is maintained
abbrev pub AreDue : List ServerAddress → List Entry → Type 0
AreDue [] [] = ⊤
AreDue (a ∷ rest) (e ∷ f ∷ es) = (e.step.act ≡ Expire a) × (f.step.act ≡ Maintain a) × AreDue rest es
AreDue addresses es = ⊥

abbrev pub IsDueAct : Act → Type 0
IsDueAct (Expire a) = ⊤
IsDueAct (Maintain a) = ⊤
IsDueAct _ = ⊥

module _ {T : Type 0} (stands : T → List Entry → Type 0) where
  -- one entry expires callers at the address, and the next one maintains its pool
  abbrev pub BothDue : ℕ → ServerAddress → SeatView → SeatView → Type 0
  BothDue moment a s s' = (e f : Entry) × (e.step.act ≡ Expire a) × (f.step.act ≡ Maintain a) × MadeAt stands moment s s' (e ∷ f ∷ [])

  -- all that was due at the addresses was done
  abbrev pub TickedBy : ℕ → List ServerAddress → SeatView → SeatView → Type 0
  TickedBy moment addresses s s' = (es : List Entry) × AreDue addresses es × MadeAt stands moment s s' es

  -- there was no memory for some of it
  abbrev pub TickedInPart : ℕ → SeatView → SeatView → Type 0
  TickedInPart moment s s' = (es : List Entry) × Each (λ e. IsDueAct e.step.act) es × MadeAt stands moment s s' es

  -- Callers expired and pools were maintained, at moments of this kind, and nothing else was done.
  abbrev pub KeptTime : (ℕ → Type 0) → SeatView → SeatView → Type 0
  KeptTime When s s' = (es : List Entry) × Each (λ e. IsDueAct e.step.act) es × MadeWhen stands When s s' es

  -- All that was due was done, at the addresses that the driver knew of in a log no shorter than what was seen.
  abbrev pub Ticked : (List Entry → TopologyDescription) → ℕ → SeatView → SeatView → Type 0
  Ticked described moment s s' = (log : List Entry) × StartsWith log s.seen × StartsWith s'.seen log × TickedBy moment (addresses_of (described log)) s s'
