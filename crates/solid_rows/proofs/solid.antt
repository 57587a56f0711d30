-- Laws of one colour over a row.
pub mod Over
