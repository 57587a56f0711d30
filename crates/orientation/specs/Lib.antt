-- Settings of flips and quarter turns.
-- two settings as one
pub mod Compose
-- a setting as bits of a control word
pub mod Bits
pub mod Laws
