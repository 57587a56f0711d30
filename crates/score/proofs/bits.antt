-- Bits that are no score's.
pub mod Bits
