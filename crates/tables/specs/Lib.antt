pub mod Tables
pub mod Growth
