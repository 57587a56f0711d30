-- Laws of ranges of bytes.
pub mod Laws
