-- Laws of records as bytes.
pub mod Cases
pub mod Words
pub mod RoundTrip
pub mod Fitting
pub mod Canonical
