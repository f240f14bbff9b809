pub mod Reading
pub mod Words
