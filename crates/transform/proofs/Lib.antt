-- Laws of flips and rotations.
pub mod Inside
