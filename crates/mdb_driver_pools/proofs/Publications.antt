-- A change of what is known: what it tells, and which pools it readies, closes and opens.
pub mod AtOpenPool
pub mod MadeAtOnce
pub mod OneMorePool
pub mod OpenThen
pub mod OpeningStands
pub mod PlannedInTurn
pub mod PlannedOfMany
pub mod PlannedOfServer
pub mod PlannedPart
pub mod PlannedWhole
