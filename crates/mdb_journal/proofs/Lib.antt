pub mod Latest
