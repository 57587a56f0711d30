-- Laws that this crate's proofs cite, and the theorem on pieces.
pub mod RecordServed
pub mod Opening
pub mod Feeding
pub mod Chunking
