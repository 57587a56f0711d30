-- Laws of rows whose alphas go by a mode.
pub mod Alphas
