-- Laws that this crate's proofs and those of the crates above cite.
pub mod Wrapped
pub mod Segment
pub mod Reading
pub mod Copied
pub mod View
