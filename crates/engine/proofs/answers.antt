-- Laws of the words that answers are, for the crates above.
pub mod Numbers
