-- A task's fields, the registers and the words that they give, and what the encoder answers.
pub mod Fields
pub mod Registers
pub mod Words
pub mod Forms
pub mod Encoder
pub mod RoundTrip
pub mod ReadsBack
pub mod Solid
-- The task of a tint, what is answered of it, and what it reads back as.
pub mod Tint
pub mod TintReadsBack
