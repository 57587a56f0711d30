-- Laws of the settings.
-- a test of all sixteen settings, and what it says of each
pub mod Each
-- the laws of the settings, computed
pub mod Settings
-- the source pixel of a composed setting
pub mod Composed
-- the same source pixels exactly for the same orientation
pub mod Same
