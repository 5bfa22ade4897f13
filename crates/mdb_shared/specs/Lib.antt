pub mod Checkout
pub mod Claims
pub mod Seats
