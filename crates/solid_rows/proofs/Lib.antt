-- Laws of rows with one colour over them.
pub mod Over
