pub mod DriverOpened
pub mod Failure
pub mod InMemory
pub mod OnePool
pub mod Orderly
pub mod PartsInTurn
pub mod Publications
pub mod ReplyOfAct
