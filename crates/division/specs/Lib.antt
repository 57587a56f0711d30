-- Nearest division by 255.
pub mod Division
