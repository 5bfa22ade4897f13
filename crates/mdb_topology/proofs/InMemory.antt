-- Memory has the pools in which something lives, and their monitors: what is found, changed and opened there is what is found, changed and opened among all.
pub mod WatchedPools
