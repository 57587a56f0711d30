-- What the law of what is fed the bytes of a file cites.
pub mod Orders
