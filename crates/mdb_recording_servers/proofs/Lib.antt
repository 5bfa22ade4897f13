pub mod ServerNoted
