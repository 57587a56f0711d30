-- Laws of the reading.
pub mod Bytes
pub mod Onward
