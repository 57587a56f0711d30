-- Laws of rows, for the crates above.
-- rows of a picture that is not turned
pub mod Straight
-- rows of a picture that is turned or flipped
pub mod Stepping
pub mod RowColours
