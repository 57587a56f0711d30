-- Laws of the lines.
pub mod Printing
