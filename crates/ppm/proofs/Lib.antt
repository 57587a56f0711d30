-- Laws of words and pictures.
-- numbers
pub mod Texts
-- headers and rows
pub mod Shown
