-- Rectangles of pixels in memory.
pub mod Surface
pub mod Memory
pub mod Rows
pub mod Drawn
-- Whether two surfaces share a byte.
pub mod Overlap
