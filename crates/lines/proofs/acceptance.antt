-- Laws of a record that submit takes.
pub mod Taken
