-- Laws that this crate's proofs and those of the crates above cite.
pub mod Numbers
pub mod Turns
pub mod Going
pub mod Whole
pub mod Examples
