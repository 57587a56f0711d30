-- Laws of the table, of the division and of divided rows.
pub mod Table
pub mod Entries
pub mod Close
pub mod Pixels
