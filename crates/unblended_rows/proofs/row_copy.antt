-- Laws of rows moved as they are.
pub mod Bytes
