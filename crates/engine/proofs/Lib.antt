-- Laws that this crate's proofs and those of the crates above cite.
pub mod Oldest
pub mod Refusals
pub mod Calls
pub mod Preservation
pub mod Zeros
