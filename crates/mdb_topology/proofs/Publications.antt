-- A change of what is known: what it tells, and which pools it readies, closes and opens.
pub mod WhichSteps
pub mod BecomesKnown
pub mod OfDifference
pub mod HostsPastLimits
pub mod SaidAgain
