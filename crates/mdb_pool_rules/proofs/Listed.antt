-- Lists of values that are named by a number, and walks along them.
pub mod Last
pub mod Values
