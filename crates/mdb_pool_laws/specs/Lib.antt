pub mod CloseCauses
pub mod Dues
pub mod Searches
