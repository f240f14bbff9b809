pub mod Laws
pub mod Talking
