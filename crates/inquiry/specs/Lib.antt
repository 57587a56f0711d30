-- A file that is handed over in pieces, and its answers.
pub mod Inquiry
