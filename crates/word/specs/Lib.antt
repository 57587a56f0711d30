-- Numbers in bytes: words, and fields of a word.
pub mod Word
pub mod Field
pub mod Splice
