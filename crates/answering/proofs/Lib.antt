pub mod Laws
pub mod Turns
