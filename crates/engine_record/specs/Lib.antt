-- The engine record and its rules.
pub mod Setup
pub mod Slots
pub mod Staged
pub mod Tickets
pub mod Clients
pub mod Queue
pub mod Rules
pub mod Checking
