-- Laws that this crate's proofs cite, and its theorems.
-- what allowed fields are held to
pub mod Allowed
-- words in bytes
pub mod Written
-- each field of a control word
pub mod Bits
-- the reading of a group of words
pub mod Groups
-- the bank of allowed fields
pub mod TaskFields
-- the theorems of the round trip
pub mod RoundTrip
-- the buffer after the encoder
pub mod Buffer
-- the worked words
pub mod Worked
-- the promise of demand 2
pub mod ReadsBack
