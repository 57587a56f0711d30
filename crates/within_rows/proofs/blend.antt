-- four pixels inside one slice
pub mod Fours
