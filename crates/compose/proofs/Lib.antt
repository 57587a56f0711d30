-- How much the bits of a setting come to.
pub mod Bits
