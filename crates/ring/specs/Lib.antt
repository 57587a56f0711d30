-- Batches in the ring.
pub mod Segment
pub mod Copied
pub mod Read
