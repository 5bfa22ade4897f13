-- Lists of values that are named by a number, and walks along them.
pub mod Beside
pub mod FirstOrLast
pub mod WalksForth
pub mod WalkBack
pub mod Noted
