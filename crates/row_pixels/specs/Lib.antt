-- Rows of pixels.
pub mod Row
pub mod Composite
pub mod Strided
-- A byte of a row of pixels.
pub mod Line
