pub mod Answers
pub mod Clock
pub mod Dial
pub mod Laws
pub mod Plru
pub mod Tree
pub mod Dials
pub mod Trees
