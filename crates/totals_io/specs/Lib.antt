-- What a lot adds.
pub mod Lots
