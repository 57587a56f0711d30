-- Laws that this crate's proofs and those of the crates above cite.
pub mod Slots
pub mod Clients
pub mod Walk
pub mod Order
pub mod Added
pub mod Line
pub mod Pieces
pub mod Opened
pub mod Rules
pub mod Unfinished
pub mod Windows
pub mod Taken
pub mod Checking
pub mod First
