-- An engine record as bytes.
pub mod Layout
pub mod Written
pub mod Read
pub mod RoundTrip
