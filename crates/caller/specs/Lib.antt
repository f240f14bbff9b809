pub mod Numbers
pub mod Cases
