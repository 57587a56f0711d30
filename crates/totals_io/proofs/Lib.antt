-- Laws of what is printed, and of lots.
pub mod Lots
