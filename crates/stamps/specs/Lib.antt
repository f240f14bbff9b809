pub mod Counting
pub mod Keys
pub mod Sources
pub mod Stamps
pub mod Sums
