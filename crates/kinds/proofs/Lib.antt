-- Equality of formats.
pub mod Formats
