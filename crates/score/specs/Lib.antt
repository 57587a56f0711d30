-- Scores, and the coverage that one gives.
pub mod Coverage
pub mod Covers
-- The bits of a score.
pub mod ScoreWord
