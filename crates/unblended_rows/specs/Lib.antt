-- Rows of pixels in a format's own bytes.
pub mod Held
