-- Flips and quarter turns.
pub mod Transform
