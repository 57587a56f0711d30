-- Laws of what was drawn, and the proof of specs/Reason.
pub mod Holds
pub mod Tasks
pub mod Given
pub mod Forbidden
pub mod Blamed
pub mod Reason
