-- Laws that this crate's proofs and those of the crates above cite.
pub mod Refusals
pub mod Calls
pub mod Room
pub mod Validity
pub mod Submitted
pub mod Preservation
