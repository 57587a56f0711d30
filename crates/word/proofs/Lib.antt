-- Laws that this crate's proofs and those of the crates above cite.
pub mod Splice
pub mod Written
pub mod Words
pub mod Tests
