-- What the tally counts; the totals while a file is read; what the calls promise; the sums.
pub mod Counts
pub mod Tally
pub mod Sums
pub mod Running
