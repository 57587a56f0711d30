-- A rectangle of memory as a picture: the words that name it, and its bytes.
pub mod Words
pub mod Rectangle
pub mod Picture
