-- Laws of numbers in decimal digits.
pub mod Reading
pub mod Printed
