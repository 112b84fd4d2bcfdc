pub mod House
pub mod Laws
pub mod Reported
pub mod Walk
