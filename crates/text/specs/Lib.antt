-- Text in a lent buffer.
pub mod Line
pub mod Written
pub mod Hex
pub mod Decimal
-- Numbers in decimal digits.
pub mod Numerals
