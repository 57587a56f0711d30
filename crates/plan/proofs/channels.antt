-- one channel, and two in a word
pub mod Channels
