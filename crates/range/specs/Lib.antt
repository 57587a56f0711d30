-- Ranges of bytes.
pub mod Range
