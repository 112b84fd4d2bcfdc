pub mod Ledgers
pub mod Marks
