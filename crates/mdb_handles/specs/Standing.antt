-- How a request may stand, by a log.
use Rattle.std.specs.Prelude.{◌≡◌, ℕ, List, ⊤}
use Rattle.mdb_log.specs.declared.log.Entry.{Entry}
use Rattle.mdb_handles.specs.CheckingOut.{IsGivenUp}
use Rattle.mdb_handles.specs.declared.standing.Outlook.{Outlook}
use Rattle.mdb_handles.specs.declared.standing.Standing.{Standing}
use Rattle.mdb_handles.specs.declared.standing.State.{State}
use Rattle.mdb_handles.specs.declared.standing.State.TheVariants.{Open, Settled, GivenUp}

-- where it is said to be given up, the log says so
abbrev pub MayBe : ℕ → List Entry → State → Type 0
MayBe request log GivenUp = IsGivenUp request log
MayBe request log Open = ⊤
MayBe request log Settled = ⊤

-- the request is open still, which may be only where the time is over
abbrev pub HasEnded : Type 0 → State → Type 0
HasEnded MayEnd Open = MayEnd
HasEnded MayEnd Settled = ⊤
HasEnded MayEnd GivenUp = ⊤

abbrev pub IsOutlook : Standing → List Entry → Outlook → Type 0
IsOutlook s log o = MayBe s.request log o.state × (o.known.request ≡ s.request)
