-- Laws that this crate's proofs and those of the crates above cite.
-- a step from a word on, by each way that the walk can go
pub mod DecoderCases
-- what a step says of the reading
pub mod Simulates
-- a step of the walk, and the verdict
pub mod Steps
-- what holds of every reading
pub mod Readings
-- the tasks of a reading: each is sound, their number
pub mod Tasks
-- where a fault lies
pub mod Offsets
-- the examples of 01
pub mod Examples
