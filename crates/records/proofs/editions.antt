-- Laws of a record that lies in the buffer.
pub mod Records
