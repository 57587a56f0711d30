-- Laws of rows that go by way of buffers.
pub mod Finished
