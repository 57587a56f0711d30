-- Laws of the reset rule.
pub mod Numbers
