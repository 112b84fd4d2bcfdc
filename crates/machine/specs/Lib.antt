pub mod Accesses
pub mod Asking
pub mod Calls
pub mod Harts
pub mod Pages
pub mod Refusals
pub mod Rights
pub mod State
