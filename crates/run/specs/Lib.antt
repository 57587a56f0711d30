-- What both engines promise.
pub mod Same
