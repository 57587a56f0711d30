-- Laws that this crate's proofs and those of the crates above cite.
-- what a call of feed uses and writes lies within what is lent
pub mod Bounds
-- lines gathered in one buffer
pub mod Gathering
pub mod Reaching
