-- The start, line feeds, the theorem on what is answered of each record, and small files computed.
pub mod Start
pub mod LineFeeds
pub mod Answered
pub mod Examples
